-- The places before k are neither free nor a copy (Spare).
use Rattle.calls.proofs.Spare.{Passed}
use Rattle.calls.proofs.full.first_spare.Given as goal

abbrev pub invariant-loop-k : goal.invariant-loop-k
invariant-loop-k l = Passed l.table l.k
