-- What holds of every replay, as statements; their proofs are in proofs/.
use Rattle.std.specs.Prelude.{◌≡◌, true, false, cond, List, [], ◌∷◌, ◌++◌, map, ℕ, ◌+◌, ◌≤◌, ◌<◌, eqb, length}
use Rattle.octets.specs.Classes.{text, within, among}
use Rattle.octets.specs.Scans.{all, same_text}
use Rattle.sip.specs.Lines.{Start, Field, Header}
use Rattle.sip.specs.Refusals.{lines, read}
use Rattle.sip.specs.Calls.{none_held}
use Rattle.sip.specs.Screen.{screened}
use Rattle.sip.specs.History.{Operation, screening, answered, table_after, table_through}
use Rattle.sip.specs.Starred.{blank_buffer}
use Rattle.sip.specs.Readings.{has_field}
use Rattle.sip.specs.Change.{Changed}
use Rattle.records.specs.Records.{Recorded, record_bytes, refusal_at, Recording, whole_records, most_records, limited, recording}
use Rattle.records.specs.History.{relay_group, other_group, unread_group, Outcome, group_of, reason_of, calls_left, history_from, calls_through, history}
use Rattle.records.specs.Report.{came, with_reason, refusals, line_of, report, printed}
use Rattle.records.specs.Running.{State, after, finished, taken, total, report_of}
use Rattle.records.specs.Pieces.{Pieces, stepped_all, joined_pieces, joined_to}

-- ---- of the history

-- "per group, accepted and refused make what came"
abbrev pub AcceptedRefused : Type 0
AcceptedRefused = (g : ℕ) (h : List Outcome) → with_reason g h 0 + refusals g h ≡ came g h

-- the groups together make the records read: every record stands in one line, and in no other
abbrev pub OneGroup : Type 0
OneGroup =
    (rs : List Recorded)
    → came relay_group (history rs) + (came other_group (history rs) + came unread_group (history rs)) ≡ length rs

-- the counts of the reasons make the refusals: none is left out of a line
abbrev pub AllReasons : Type 0
AllReasons = (g : ℕ) (rs : List Recorded) → total (line_of g (history rs)).refused ≡ refusals g (history rs)

-- "messages with reasons 1 to 5, which stand in no other line", and no other message stands in theirs: none of them is accepted
pub record Apart (h : List Outcome) (r : ℕ) : Type 0 where
  pub no_other_line : within 1 5 r ≡ true → (with_reason relay_group h r ≡ 0) × (with_reason other_group h r ≡ 0)
  pub no_other_message : within 1 5 r ≡ false → with_reason unread_group h r ≡ 0

abbrev pub UnreadApart : Type 0
UnreadApart = (rs : List Recorded) (r : ℕ) → Apart (history rs) r

-- a message of the other two groups is read: whether it has a field is asked of its lines
pub record Reads (m : List ℕ) : Type 0 where
  pub line : Start
  pub header : Header
  pub reads : lines m ≡ read line header

abbrev pub GroupsRead : Type 0
GroupsRead = (m : List ℕ) (side : ℕ) (table : List ℕ) → within 1 5 (reason_of m side table) ≡ false → Reads m

-- no reason is above 18
abbrev pub FewReasons : Type 0
FewReasons = (m : List ℕ) (side : ℕ) (table : List ℕ) → reason_of m side table ≤ 18

-- "with room enough": no message is refused for room
abbrev pub RoomEnough : Type 0
RoomEnough = (m : List ℕ) (side : ℕ) (table : List ℕ) → reason_of m side table ≡ 16 → ⊥

-- the reason that is counted and the table that is left are the screen's, with any buffer that has room
abbrev pub AnyRoom : Type 0
AnyRoom =
    (m : List ℕ) (side : ℕ) (table b : List ℕ) → ((screened m side table b).answer.reason ≡ 16 → ⊥)
    → ((screened m side table b).answer.reason ≡ reason_of m side table) × ((screened m side table b).table ≡ calls_left m side table)

-- demand 3: ignored fields, `X-Relay-Mode` among them, and other spellings of names change neither the reason that is counted nor the table that
-- is left
abbrev pub SameReason : Type 0
SameReason =
    (m m' : List ℕ) (side : ℕ) (table : List ℕ) → Changed m m'
    → (reason_of m' side table ≡ reason_of m side table) × (calls_left m' side table ≡ calls_left m side table)

-- and so of any number of records: each as it was, or with such a change of its message
pub data AllChanged : List Recorded → List Recorded → Type 0 where
  no_record : AllChanged [] []
  same_record : {r : Recorded} {rs rs' : List Recorded} → AllChanged rs rs' → AllChanged (r ∷ rs) (r ∷ rs')
  changed_record : {m m' : List ℕ} {side : ℕ} {rs rs' : List Recorded} → Changed m m' → AllChanged rs rs'
      → AllChanged (record { side = side; message = m } ∷ rs) (record { side = side; message = m' } ∷ rs')

abbrev pub reasons_of : List Outcome → List ℕ
reasons_of h = map (λ (x : Outcome). x.reason) h

abbrev pub SameReasons : Type 0
SameReasons =
    (rs rs' : List Recorded) (table : List ℕ) → AllChanged rs rs'
    → (reasons_of (history_from table rs') ≡ reasons_of (history_from table rs)) × (calls_through table rs' ≡ calls_through table rs)

-- CR 8: "A replay starts with none held": it is a history of operations from there on, of which the pairs held are those it leaves open. Each
-- record is a screening
unfoldable pub screenings : List Recorded → List Operation
screenings [] = []
screenings (r ∷ rs) = screening r.message r.side (blank_buffer 9216) ∷ screenings rs

abbrev pub ReplayCalls : Type 0
ReplayCalls = (rs : List Recorded) → calls_through none_held rs ≡ table_through none_held (screenings rs)

-- and the reasons are what they answer, each with the table that the one before leaves
unfoldable pub answers_through : List ℕ → List Operation → List ℕ
answers_through table [] = []
answers_through table (o ∷ os) = answered o table ∷ answers_through (table_after o table) os

abbrev pub ReplayReasons : Type 0
ReplayReasons = (rs : List Recorded) → reasons_of (history rs) ≡ answers_through none_held (screenings rs)

-- the fields of other names
unfoldable pub without : List ℕ → List Field → List Field
without name [] = []
without name (f ∷ fs) = let others = without name fs in cond (same_text name f.name) others (f ∷ others)

-- no relay caller is refused for its `X-Relay-Mode`: the same message without it, all else as it was, has the same reason, leaves the same
-- table and stands among the others. Of a message that is not read this is not said: the field may be the one too many (reason 5), or make the message too long (2)
pub record Plain (m : List ℕ) (side : ℕ) (table : List ℕ) : Type 0 where
  pub plain : List ℕ
  pub change : Changed plain m
  pub other_fields : change.fields ≡ without (text "X-Relay-Mode") change.fields'
  pub has_none : has_field plain (text "X-Relay-Mode") ≡ false
  pub reason_kept : reason_of plain side table ≡ reason_of m side table
  pub calls_kept : calls_left plain side table ≡ calls_left m side table
  pub among_others : group_of plain (reason_of plain side table) ≡ other_group

abbrev pub RelayNotCause : Type 0
RelayNotCause =
    (m : List ℕ) (side : ℕ) (table : List ℕ) → group_of m (reason_of m side table) ≡ relay_group → Plain m side table

-- ---- of what is carried

-- "Each count is the history's": one record more is carried as the history with it
abbrev pub Carried : Type 0
Carried = (rs : List Recorded) (r : Recorded) → length rs < most_records → taken (after rs) r.side r.message ≡ after (rs ++ r ∷ [])

-- any number of records, taken one by one
unfoldable pub taken_all : State → List Recorded → State
taken_all st [] = st
taken_all st (r ∷ rs) = taken_all (taken st r.side r.message) rs

abbrev pub OneByOne : Type 0
OneByOne = (rs : List Recorded) → taken_all (after []) rs ≡ finished (limited most_records (record { records = rs; end = 0 }))

-- the report of what is carried after a text is the text's, in every number
abbrev pub SameReport : Type 0
SameReport = (t : Recording) → report_of (finished t) ≡ report t

-- 4,096 bytes are room for every report
abbrev pub ReportRoom : Type 0
ReportRoom = (st : State) → length (printed (report_of st)) ≤ 4096

-- reading piece by piece is the same as reading the whole
abbrev pub PieceByPiece : Type 0
PieceByPiece = (ps : List (List ℕ)) → Pieces ps → stepped_all (after []) ps ≡ finished (recording (joined_pieces ps))

-- and every text can be read so
pub record Cut (s : List ℕ) : Type 0 where
  pub pieces : List (List ℕ)
  pub are_pieces : Pieces pieces
  pub joined : joined_pieces pieces ≡ s

abbrev pub EveryText : Type 0
EveryText = (s : List ℕ) → Cut s

-- ---- of what is recorded

unfoldable pub written : List Recorded → List ℕ
written [] = []
written (r ∷ rs) = record_bytes r ++ written rs

-- records that are written one after the other are read as they were, whatever follows them. It holds of all numbers; a record of a file
-- has bytes below 256 and a message of at most 65,535 of them.
abbrev pub WrittenRead : Type 0
WrittenRead = (rs : List Recorded) (s : List ℕ) → whole_records 0 (written rs ++ s) ≡ joined_to rs (whole_records 0 s)

-- and a text of bytes is its whole records, as they are written, and a rest: none, or one that is no record and gives the refusal
pub data EndsSo : List ℕ → ℕ → Type 0 where
  no_rest : EndsSo [] 0
  refused_rest : {b : ℕ} {s : List ℕ} → (refusal_at (b ∷ s) ≡ 0 → ⊥) → EndsSo (b ∷ s) (refusal_at (b ∷ s))

pub record ReadBack (s : List ℕ) : Type 0 where
  pub rest : List ℕ
  pub is_written : written (whole_records 0 s).records ++ rest ≡ s
  pub ends_so : EndsSo rest (whole_records 0 s).end

abbrev pub ReadWritten : Type 0
ReadWritten = (s : List ℕ) → all (within 0 255) s ≡ true → ReadBack s

-- after a bad mark and after a record too many nothing counts any more, so that a program may stop reading there. A record is cut short only
-- where the text ends
abbrev pub NothingAfter : Type 0
NothingAfter = (s t : List ℕ) → among (31 ∷ 33 ∷ []) (recording s).end ≡ true → recording (s ++ t) ≡ recording s

-- a million records that are written one after the other, and what follows them: nothing, or "bad mark 31, record cut short 32, a record after
-- 1,000,000 33, in that order"
unfoldable pub end_after : List ℕ → ℕ
end_after [] = 0
end_after (b ∷ s) = let e = refusal_at (b ∷ s) in cond (eqb e 0) 33 e

abbrev pub AfterAMillion : Type 0
AfterAMillion =
    (rs : List Recorded) (s : List ℕ) → length rs ≡ most_records → recording (written rs ++ s) ≡ record { records = rs; end = end_after s }

-- records that are taken one by one are counted as their text is
abbrev pub AsText : Type 0
AsText = (rs : List Recorded) → taken_all (after []) rs ≡ finished (recording (written rs))
