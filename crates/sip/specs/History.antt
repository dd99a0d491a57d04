-- CR 8: "Starting from none held and changed only by these calls, the pairs held always equal those the history leaves open."
use Rattle.std.specs.Prelude.{◌≡◌, cond, List, [], ◌∷◌, ℕ, eqb, length}
use Rattle.sip.specs.Refusals.{Judgement, refused, accepted, judgement}
use Rattle.sip.specs.Calls.{Pair, same_pair, is_in, held, none_held, removed, ending}
use Rattle.sip.specs.Screen.{call_of, hides, closes, screened}
use Rattle.sip.specs.CallPromises.{table_size}

-- ---- "these calls": the screening of a message on a side into a buffer, and an explicit end of a pair

pub data Operation : Type 0 where
  screening : List ℕ → ℕ → List ℕ → Operation
  ending_of : Pair → Operation

-- what an operation answers on a table: its reason, or 19; 0 where it is not refused
abbrev pub answered : Operation → List ℕ → ℕ
answered (screening m side buffer) table = (screened m side table buffer).answer.reason
answered (ending_of p) table = ending p table

-- the table after it
abbrev pub table_after : Operation → List ℕ → List ℕ
table_after (screening m side buffer) table = (screened m side table buffer).table
table_after (ending_of p) table = removed p table

-- the table after all of them, the oldest first
unfoldable pub table_through : List ℕ → List Operation → List ℕ
table_through table [] = table
table_through table (o ∷ os) = table_through (table_after o table) os

-- ---- the history: what each of them was, by its message or its pair and by its answer. The table serves only to know the answers

pub data Event : Type 0 where
  -- "an accepted, withheld INVITE to side 1 enters its pair once"
  enters : Pair → Event
  -- "an accepted BYE to side 1 with the pair .. or an explicit end removes it"
  leaves : Pair → Event
  -- any other, and what is refused
  other : Event

-- of a message that was accepted
abbrev pub accepted_as : ℕ → Judgement → Event
accepted_as side (refused a) = other
accepted_as side (accepted r) = cond (hides side r) (enters (call_of r.fields)) (cond (closes side r) (leaves (call_of r.fields)) other)

abbrev pub event_of : Operation → ℕ → Event
event_of (screening m side buffer) answer = cond (eqb answer 0) (accepted_as side (judgement m)) other
event_of (ending_of p) answer = cond (eqb answer 0) (leaves p) other

-- the events of the operations, by what each answers
unfoldable pub events : List ℕ → List Operation → List Event
events table [] = []
events table (o ∷ os) = event_of o (answered o table) ∷ events (table_after o table) os

-- ---- "those the history leaves open"

unfoldable pub without : Pair → List Pair → List Pair
without p [] = []
without p (q ∷ qs) = let others = without p qs in cond (same_pair p q) others (q ∷ others)

abbrev pub open_next : Event → List Pair → List Pair
open_next (enters p) ps = cond (is_in p ps) ps (p ∷ ps)
open_next (leaves p) ps = without p ps
open_next other ps = ps

unfoldable pub open_after : List Pair → List Event → List Pair
open_after ps [] = ps
open_after ps (e ∷ es) = open_after (open_next e ps) es

unfoldable pub left_open : List Event → List Pair
left_open es = open_after [] es

-- ---- "the pairs held always equal those": as members and in number

pub record SamePairs (ps qs : List Pair) : Type 0 where
  pub members : (p : Pair) → is_in p ps ≡ is_in p qs
  pub count : length ps ≡ length qs

-- from any table on, also "any other" than those that begin with none held
abbrev pub HistoryFrom : Type 0
HistoryFrom =
    (t : List ℕ) (os : List Operation) → length t ≡ table_size → SamePairs (held (table_through t os)) (open_after (held t) (events t os))

-- "Starting from none held"
abbrev pub History : Type 0
History = (os : List Operation) → SamePairs (held (table_through none_held os)) (left_open (events none_held os))

-- the table stays a table
abbrev pub TableStays : Type 0
TableStays = (o : Operation) (table : List ℕ) → length table ≡ table_size → length (table_after o table) ≡ table_size
