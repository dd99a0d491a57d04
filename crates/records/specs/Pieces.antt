-- A text that is read piece by piece: each piece is a whole record and nothing more, the last one is all that is left.
use Rattle.std.specs.Prelude.{◌≡◌, cond, List, [], ◌∷◌, ◌++◌, ℕ, ◌≤◌, leb, length, take}
use Rattle.records.specs.Records.{Recorded, Recording, marked, message_size, record_size, refusal_at, recording}
use Rattle.records.specs.Report.{replayed}
use Rattle.records.specs.Running.{numbers_in, State, finished, stepped}
use Rattle.records.specs.declared.Replay.{Replay}

-- how many bytes are to be read after the first five: those of the message, and none where those five are not there or are no record's
unfoldable pub wanted : List ℕ → ℕ
wanted s = cond (leb 5 (length s)) (cond (marked s) (message_size s) 0) 0

-- a piece holds no more than its record
abbrev pub IsPiece : List ℕ → Type 0
IsPiece p = refusal_at p ≡ 0 → length p ≡ record_size p

-- pieces, all but the last of which are whole records
pub data Pieces : List (List ℕ) → Type 0 where
  last_piece : {p : List ℕ} → IsPiece p → Pieces (p ∷ [])
  next_piece : {p : List ℕ} {ps : List (List ℕ)} → refusal_at p ≡ 0 → IsPiece p → Pieces ps → Pieces (p ∷ ps)

unfoldable pub stepped_all : State → List (List ℕ) → State
stepped_all st [] = st
stepped_all st (p ∷ ps) = stepped_all (stepped st p) ps

unfoldable pub joined_pieces : List (List ℕ) → List ℕ
joined_pieces [] = []
joined_pieces (p ∷ ps) = p ++ joined_pieces ps

abbrev pub joined_to : List Recorded → Recording → Recording
joined_to rs t = record { records = rs ++ t.records; end = t.end }

-- a was read into from its sixth byte on: got bytes, of len that were asked for; b is what stands there now
pub record Filled (a b : List ℕ) (len got : ℕ) : Type 0 where
  pub part : List ℕ
  pub rest : List ℕ
  pub holds : b ≡ take 5 a ++ (part ++ rest)
  pub there : got ≤ length part
  pub few : got ≤ len

-- ---- what a program that reads so leaves. A contract cannot say what the system read, so the text is some text. That it is standard input,
-- read to its end or to the first refusal, is tested and not proved.

-- what is left of the replay of some text
pub record Replayed (st : Replay) : Type 0 where
  pub whole_text : List ℕ
  pub is_its : st ≡ numbers_in (finished (recording whole_text))

-- the first r bytes are what a replay of some text prints
pub record Prints (r : ℕ) (out : List ℕ) : Type 0 where
  pub some_text : List ℕ
  pub prints : take r out ≡ replayed some_text
