-- CR 3: the history of a recording: what the screen answers to each message, and in which line of the report that stands. CR 8: "A replay
-- starts with none held", and the table of calls goes from record to record.
use Rattle.std.specs.Prelude.{cond, List, [], ◌∷◌, ℕ}
use Rattle.octets.specs.Classes.{text, within}
use Rattle.sip.specs.Readings.{has_field}
use Rattle.sip.specs.Calls.{none_held}
use Rattle.sip.specs.Screen.{screened}
use Rattle.sip.specs.Starred.{blank_buffer}
use Rattle.records.specs.Records.{Recorded}

-- "A program replays standard input through the screen with room enough." With 9,216 bytes no message is refused for room (`RoomEnough`),
-- and any other room that is enough gives the same reason and leaves the same table (`AnyRoom`)
unfoldable pub reason_of : List ℕ → ℕ → List ℕ → ℕ
reason_of m side table = (screened m side table (blank_buffer 9216)).answer.reason

-- the table of calls that the screening leaves
unfoldable pub calls_left : List ℕ → ℕ → List ℕ → List ℕ
calls_left m side table = (screened m side table (blank_buffer 9216)).table

-- ---- "It prints a line each for callers with `X-Relay-Mode` (any case, at least once), for the others, and for messages with reasons 1 to
-- 5, which stand in no other line"

abbrev pub relay_group : ℕ
relay_group = 0

abbrev pub other_group : ℕ
other_group = 1

abbrev pub unread_group : ℕ
unread_group = 2

unfoldable pub group_of : List ℕ → ℕ → ℕ
group_of m reason = cond (within 1 5 reason) unread_group (cond (has_field m (text "X-Relay-Mode")) relay_group other_group)

-- ---- the history: of each message its group and its reason, 0 where it is accepted

pub record Outcome : Type 0 where
  pub group : ℕ
  pub reason : ℕ

unfoldable pub outcome_of : List ℕ → ℕ → List ℕ → Outcome
outcome_of m side table = let r = reason_of m side table in record { group = group_of m r; reason = r }

-- from a table on
unfoldable pub history_from : List ℕ → List Recorded → List Outcome
history_from table [] = []
history_from table (r ∷ rs) = outcome_of r.message r.side table ∷ history_from (calls_left r.message r.side table) rs

unfoldable pub calls_through : List ℕ → List Recorded → List ℕ
calls_through table [] = table
calls_through table (r ∷ rs) = calls_through (calls_left r.message r.side table) rs

-- CR 8: "A replay starts with none held."
unfoldable pub history : List Recorded → List Outcome
history rs = history_from none_held rs
