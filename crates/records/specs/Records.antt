-- CR 3: the records of a text, and how the text ends.
use Rattle.std.specs.Prelude.{Bool, cond, List, [], ◌∷◌, ◌++◌, ℕ, zero, suc, ◌+◌, ◌*◌, ◌/◌, ◌%◌, leb, ltb, eqb, length, take, drop, get_or}
use Rattle.octets.specs.Classes.{text}
use Rattle.octets.specs.Scans.{same}

-- "Messages are recorded: before each record the two-byte mark 53 4E (hex), then a side byte, a two-byte length (high byte first) and
-- the message."
pub record Recorded : Type 0 where
  pub side : ℕ
  pub message : List ℕ

-- 53 4E
unfoldable pub mark : List ℕ
mark = text "SN"

-- the bytes of a record
unfoldable pub record_bytes : Recorded → List ℕ
record_bytes r = let n = length r.message in mark ++ (r.side ∷ n / 256 ∷ n % 256 ∷ r.message)

-- ---- reading: what stands at the front of a text

-- the mark, as far as the text goes: "A lone 53 at the end is 32", and no bad mark
unfoldable pub marked : List ℕ → Bool
marked s = same (take (length s) mark) (take 2 s)

-- "a two-byte length (high byte first)"
abbrev pub message_size : List ℕ → ℕ
message_size s = 256 * get_or s 3 0 + get_or s 4 0

abbrev pub record_size : List ℕ → ℕ
record_size s = 5 + message_size s

-- the record, where a whole one stands there
abbrev pub record_at : List ℕ → Recorded
record_at s = record { side = get_or s 2 0; message = take (message_size s) (drop 5 s) }

-- "bad mark 31, record cut short 32 .. in that order", of a text that is not empty; 0 where a whole record stands there
unfoldable pub refusal_at : List ℕ → ℕ
refusal_at s = cond (marked s) (cond (leb (record_size s) (length s)) 0 32) 31

-- ---- a whole text

-- its whole records, and "the refusal or 0"
pub record Recording : Type 0 where
  pub records : List Recorded
  pub end : ℕ

abbrev pub ends_with : ℕ → Recording
ends_with e = record { records = []; end = e }

abbrev pub with_record : Recorded → Recording → Recording
with_record r t = record { records = r ∷ t.records; end = t.end }

-- all whole records at the front of a text, and how it ends after them; the first k bytes belong to a record that was read before them
unfoldable pub whole_records : ℕ → List ℕ → Recording
whole_records k [] = ends_with 0
whole_records (suc k) (b ∷ s) = whole_records k s
whole_records zero (b ∷ s) =
    let e = refusal_at (b ∷ s) in
    let next = with_record (record_at (b ∷ s)) (whole_records (4 + message_size (b ∷ s)) s) in
    cond (eqb e 0) next (ends_with e)

abbrev pub most_records : ℕ
most_records = 1000000

-- "a record after 1,000,000 33, in that order; at any of them the report covers the whole records before it": where more than n are whole,
-- the n before the first that is too many
unfoldable pub limited : ℕ → Recording → Recording
limited n t = cond (ltb n (length t.records)) (record { records = take n t.records; end = 33 }) t

unfoldable pub recording : List ℕ → Recording
recording s = limited most_records (whole_records 0 s)
