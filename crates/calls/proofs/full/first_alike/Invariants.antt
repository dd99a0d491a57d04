-- No place before j agrees in this part too (Parts).
use Rattle.calls.specs.Parts.{number_of}
use Rattle.calls.proofs.Parts.{Reached}
use Rattle.calls.proofs.full.first_alike.Given as goal

abbrev pub invariant-loop-j : goal.invariant-loop-j
invariant-loop-j l = Reached (number_of l.part) l.table l.k l.j
