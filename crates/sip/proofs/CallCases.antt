-- Every row of the worked cases of calls holds: what is found of all rows and what they tell compute to the same.
use mathlib.Core.Path.{◌≡◌, refl, ap}
use mathlib.Core.List.{List, [], ◌∷◌, map}
use Prim.Native.Nat.{ℕ}
use Rattle.sip.specs.Calls.{Pair, held, ending}
use Rattle.sip.specs.History.{table_through}
use Rattle.sip.specs.CallCases.{Gives, all_given, Step, Run, operations_of, RunHolds, RunsHold, no_run, run, request_of, request_sent, filled, numbered}
use Rattle.sip.specs.CallCases.{call_cases}
use Rattle.sip.proofs.Starred.{computed}

-- what each operation gives, the table after them, and the pairs that it holds
record Found : Type 0 where
  gives : List Gives
  after : List ℕ
  holding : List Pair

found : Run → Found
found r = record { gives = all_given r.before (operations_of r); after = table_through r.before (operations_of r); holding = held r.after }

told : Run → Found
told r = record { gives = map (λ (s : Step). s.gives) r.steps; after = r.after; holding = r.holding }

holds : (r : Run) → found r ≡ told r → RunHolds r
unfolding found told
holds r e =
    record {
      each_gives = ap (λ (f : Found). f.gives) e;
      leaves = ap (λ (f : Found). f.after) e;
      holds = ap (λ (f : Found). f.holding) e;
    }

all_hold : (rs : List Run) → map found rs ≡ map told rs → RunsHold rs
all_hold [] e = no_run
all_hold (r ∷ rs) e = run (holds r (cc)) (all_hold rs (cc))

rows_compute : map found call_cases ≡ map told call_cases
unfolding computed ending table_through all_given request_of request_sent filled numbered call_cases found told
rows_compute = refl

pub calls_hold : RunsHold call_cases
calls_hold = all_hold call_cases rows_compute
