-- What the passes inside this crate leave: over the start line of a message, over its fields, and over its slots.
use Rattle.std.specs.Prelude.{Option, None, Some, Result, Ok, Err, IfSome, MatchOption, ◌≡◌, Bool, not, cond, ◌&&◌, List, [], ◌∷◌, ◌++◌, ℕ, zero, suc, ◌+◌, ◌*◌, ◌≤◌, ◌<◌, leb, eqb, ltb, length, drop, get_or, set, take}
use Rattle.std.proofs.Math.Option.{Option as Maybe, none, some}
use Rattle.octets.specs.Classes.{bit, is_break, is_gap, is_value, within}
use Rattle.octets.specs.Scans.{run, any, same, same_text}
use Rattle.sip.specs.Lines.{request_line, status_line, Start, start_of, start, start_size, trim}
use Rattle.sip.specs.Profile.{name_of}
use Rattle.sip.specs.Readings.{no_span, place}
use Rattle.sip.specs.Values.{is_empty}
use Rattle.sip.specs.declared.Span.{Span}
use Rattle.lines.specs.Places.{start_places, named_at}
use Rattle.lines.specs.Sizes.{value_end}
use Rattle.lines.specs.Index.{slot_at, Indexed, unread_index, method_length, uri_length, reason_of}
use Rattle.lines.specs.declared.Slot.{Slot}
use Rattle.lines.specs.declared.StartLine.{StartLine}
use Rattle.lines.specs.declared.StartLine.TheVariants.{Request, Status}
use Rattle.lines.specs.declared.Unread.{Unread}
use Rattle.lines.specs.declared.Unread.TheVariants.{TooManyFields}
use Rattle.lines.specs.declared.named.Named.{Named}
use Rattle.lines.specs.declared.field.ValueAt.{ValueAt}
use Rattle.lines.specs.declared.header.Ended.{Ended}
use Rattle.lines.specs.declared.slots.Counted.{Counted}

-- ---- the start line, by its lengths

-- the request line at the front of a text, and the status line
unfoldable pub request_at : List ℕ → Option StartLine
request_at s = start_places (start_of (request_line s) none)

unfoldable pub status_at : List ℕ → Option StartLine
status_at s = start_places (start_of none (status_line s))

-- how many bytes a start line has
abbrev pub line_size : StartLine → ℕ
line_size (Request method uri) = method + uri + 11
line_size (Status phrase) = phrase + 14

-- a start line by its lengths: those of the method and the Request-URI, which a response has not, and that of the line. All are 0 where
-- no start line stands
pub record Lengths : Type 0 where
  pub method : ℕ
  pub uri : ℕ
  pub line : ℕ

abbrev pub lengths_of : Maybe Start → Lengths
lengths_of none = record { method = 0; uri = 0; line = 0 }
lengths_of (some l) = record { method = method_length l; uri = uri_length l; line = start_size l }

-- the start line of either kind
unfoldable pub start_lengths : List ℕ → Lengths
start_lengths s = lengths_of (start s)

-- ---- over the fields

-- a name that is read has one of the 18 numbers or 0, and its value starts within the text
pub record NameFits (s : List ℕ) (n : Named) : Type 0 where
  pub number_fits : n.number ≤ 18
  pub value_fits : n.value ≤ length s

-- a look for a name at a place tells the name there, or nothing
pub record FoundName (s : List ℕ) (at : ℕ) (r : Option Named) : Type 0 where
  pub found_named : IfSome r (λ n. (named_at s at ≡ Some n) × NameFits s n)

-- the same of twenty bytes, wherever they stand: the value that is told starts so many bytes after their place
pub record FoundIn (name : List ℕ) (r : Option Named) : Type 0 where
  pub found_in : (s : List ℕ) (at : ℕ) → take 20 (drop at s) ≡ name → at + 20 ≤ length s
      → IfSome r (λ n. FoundName s at (Some (record { number = n.number; value = at + n.value })))

-- four neighbouring bytes as one number
abbrev pub quad : List ℕ → ℕ → ℕ
quad s at = get_or s at 0 + 256 * get_or s (at + 1) 0 + 65536 * (get_or s (at + 2) 0 + 256 * get_or s (at + 3) 0)

pub record Bytes (s : List ℕ) (at : ℕ) : Type 0 where
  pub byte : (k : ℕ) → k < 4 → get_or s (at + k) 0 < 256

-- the name of this number is spelt so, with its colon
unfoldable pub spells : ℕ → List ℕ → Bool
spells number t = within 1 18 number && (within 4 20 (length t) && same t (name_of number ++ 58 ∷ []))

-- the number of the first of these spellings that the name is
unfoldable pub among : List ℕ → List (List ℕ × ℕ) → Option ℕ
among name [] = None
among name (e ∷ es) = let others = among name es in cond (same_text e.0 name) (Some e.1) others

-- a value is read at a place: where it ends, before the last CRLF, and whether it goes over several lines
pub record ValueStands (s : List ℕ) (at : ℕ) (r : Option ValueAt) : Type 0 where
  pub value_stands : MatchOption r (length s ≤ value_end s at)
      (λ v. (v.end ≡ value_end s at) × (v.end < length s) × (v.folded ≡ not (eqb v.end (at + run is_value (drop at s)))))

-- the slot of a field of that number whose value v stands at place at of the message
unfoldable pub slot_for : ℕ → ℕ → List ℕ → Slot
slot_for number at v =
    let t = trim is_gap v in
    let p = cond (is_empty t) no_span (record { start = at + run is_gap v; len = length t }) in
    record { number = number; start = p.start; len = p.len; folded = any is_break t }

-- the same of a field that is listed
unfoldable pub listed_slot : ℕ → ℕ → List ℕ → Option Slot
listed_slot number at v = cond (eqb number 0) None (Some (slot_for number at v))

-- its numbers have two bytes at most
pub record Small (s : Slot) : Type 0 where
  pub small_number : s.number < 65536
  pub small_start : s.start < 65536
  pub small_len : s.len < 65536

-- the four numbers of the i-th field, stored
abbrev pub stored : List ℕ → ℕ → Slot → List ℕ
stored ns i s = set (set (set (set ns (4 * i) s.number) (4 * i + 1) s.start) (4 * i + 2) s.len) (4 * i + 3) (bit s.folded)

-- a listed field is taken up after count others, where there is room for it: how many there are then, and the numbers
abbrev pub more : ℕ → Option Slot → ℕ
more count None = count
more count (Some s) = cond (ltb count 96) (count + 1) count

abbrev pub kept : List ℕ → ℕ → Option Slot → List ℕ
kept ns count None = ns
kept ns count (Some s) = cond (ltb count 96) (stored ns count s) ns

-- the fields end with an empty line, after number of them
unfoldable pub closed_end : ℕ → ℕ → ℕ → Result Ended Unread
closed_end number rest count = cond (leb number 96) (Ok (record { rest = rest; count = count })) (Err TooManyFields)

-- the message whose fields end so
abbrev pub settled : List ℕ → Result Ended Unread → List ℕ → Indexed
settled m (Ok e) ns =
    let l = start_lengths m in
    record {
      head = record { reason = 0; method = l.method; uri = l.uri; line = l.line; rest = e.rest; count = e.count };
      slots = ns;
    }
settled m (Err e) ns = unread_index (reason_of e)

-- ---- over the slots

-- there are 96 of them
abbrev pub at_most96 : ℕ → ℕ
at_most96 count = cond (ltb 96 count) 96 count

unfoldable pub first_slots : ℕ → List ℕ → List Slot
first_slots zero ns = []
first_slots (suc i) ns = first_slots i ns ++ slot_at ns i ∷ []

abbrev pub span_of : Slot → Span
span_of s = record { start = s.start; len = s.len }

-- where the values of the slots of number n stand
unfoldable pub spans_in : ℕ → List Slot → List Span
spans_in n [] = []
spans_in n (s ∷ ss) = let others = spans_in n ss in cond (eqb s.number n) (span_of s ∷ others) others

abbrev pub counted_in : ℕ → List Span → Counted
counted_in k ps = record { count = length ps; span = place k ps }

-- one slot more is looked at
unfoldable pub counting : ℕ → ℕ → Counted → Slot → Counted
counting n k c s =
    cond (eqb s.number n) (record { count = c.count + 1; span = cond (eqb (c.count + 1) k) (span_of s) c.span }) c
