-- What reading a message leaves for its later users.
use Rattle.std.specs.Prelude.{Result, Ok, Err, ◌≤◌, false, not, cond, List, [], ◌∷◌, ◌++◌, ℕ, zero, suc, ◌+◌, ◌*◌, ◌-◌, eqb, ltb, length, get_or}
use Rattle.octets.specs.Classes.{bit, is_break, is_gap}
use Rattle.octets.specs.Scans.{any}
use Rattle.sip.specs.Lines.{Start, request, response, start_size, Field, bytes, Header, trim}
use Rattle.sip.specs.Profile.{number_of}
use Rattle.sip.specs.Refusals.{Lines, unread, read, lines}
use Rattle.sip.specs.Readings.{value_span}
use Rattle.lines.specs.declared.Slot.{Slot}
use Rattle.lines.specs.declared.StartLine.{StartLine}
use Rattle.lines.specs.declared.StartLine.TheVariants.{Request, Status}
use Rattle.lines.specs.declared.Message.{Message}
use Rattle.lines.specs.declared.Unread.{Unread}
use Rattle.lines.specs.declared.Unread.TheVariants.{TooLong, NoStartLine, BadFields, TooManyFields}

-- the field that starts at place at of the message
unfoldable pub slot_of : ℕ → Field → Slot
slot_of at f =
    let p = value_span at f in
    record { number = number_of f.name; start = p.start; len = p.len; folded = any is_break (trim is_gap f.value) }

-- the listed fields, the first field being at place at of the message
unfoldable pub slots_of : ℕ → List Field → List Slot
slots_of at [] = []
slots_of at (f ∷ fs) =
    let others = slots_of (at + length (bytes f)) fs in
    cond (eqb (number_of f.name) 0) others (slot_of at f ∷ others)

-- four numbers for each field, one field after the other
unfoldable pub packed : List Slot → List ℕ
packed [] = []
packed (s ∷ ss) = s.number ∷ s.start ∷ s.len ∷ bit s.folded ∷ packed ss

unfoldable pub zeros : ℕ → List ℕ
zeros zero = []
zeros (suc n) = 0 ∷ zeros n

-- the 384 numbers of 96 fields that begin with these
unfoldable pub padded : List Slot → List ℕ
padded ss = packed ss ++ zeros (384 - 4 * length ss)

abbrev pub no_slot : Slot
no_slot = record { number = 0; start = 0; len = 0; folded = false }

-- the i-th field of such numbers, from 0; none past the 96
unfoldable pub slot_at : List ℕ → ℕ → Slot
slot_at ns i =
    let here : Slot =
    record {
      number = get_or ns (4 * i) 0;
      start = get_or ns (4 * i + 1) 0;
      len = get_or ns (4 * i + 2) 0;
      folded = not (eqb (get_or ns (4 * i + 3) 0) 0);
    }
    in
    cond (ltb i 96) here no_slot

-- the lines by their lengths: the reason of 2 to 5 why they are not read, or 0; a response has neither method nor Request-URI, 0 then
pub record Head : Type 0 where
  pub reason : ℕ
  pub method : ℕ
  pub uri : ℕ
  pub line : ℕ
  pub rest : ℕ
  pub count : ℕ

-- what reading leaves: the lines by their lengths, and the slots of the listed fields
pub record Indexed : Type 0 where
  pub head : Head
  pub slots : List ℕ

abbrev pub unread_head : ℕ → Head
unread_head reason = record { reason = reason; method = 0; uri = 0; line = 0; rest = 0; count = 0 }

abbrev pub unread_index : ℕ → Indexed
unread_index reason = record { head = unread_head reason; slots = zeros 384 }

-- the lengths of a request's method and Request-URI; a response has neither
abbrev pub method_length : Start → ℕ
method_length (request l) = length l.method
method_length (response l) = 0

abbrev pub uri_length : Start → ℕ
uri_length (request l) = length l.uri
uri_length (response l) = 0

abbrev pub read_index : List ℕ → Start → Header → Indexed
read_index m l h =
    let ss = slots_of (start_size l) h.fields in
    record {
      head =
          record {
            reason = 0;
            method = method_length l;
            uri = uri_length l;
            line = start_size l;
            rest = length m - length h.rest;
            count = length ss;
          };
      slots = padded ss;
    }

abbrev pub index_of : List ℕ → Lines → Indexed
index_of m (unread r) = unread_index r
index_of m (read l h) = read_index m l h

-- a message by its lines
unfoldable pub index : List ℕ → Indexed
index m = index_of m (lines m)

-- ---- what the code answers

-- the number of the reason
abbrev pub reason_of : Unread → ℕ
reason_of TooLong = 2
reason_of NoStartLine = 3
reason_of BadFields = 4
reason_of TooManyFields = 5

-- the lengths of a start line
abbrev pub method_of : StartLine → ℕ
method_of (Request method uri) = method
method_of (Status phrase) = 0

abbrev pub uri_of : StartLine → ℕ
uri_of (Request method uri) = uri
uri_of (Status phrase) = 0

-- no method is empty
abbrev pub HasMethod : StartLine → Type 0
HasMethod (Request method uri) = 1 ≤ method
HasMethod (Status phrase) = Unit {0}

-- a message that is read, and one that may not be, by their lines
abbrev pub read_head : Message → Head
read_head m = record { reason = 0; method = method_of m.start; uri = uri_of m.start; line = m.line; rest = m.rest; count = m.count }

abbrev pub head_of : Result Message Unread → Head
head_of (Ok m) = read_head m
head_of (Err e) = unread_head (reason_of e)
