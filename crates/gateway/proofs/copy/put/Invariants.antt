-- The laws of a copy byte by byte (Copies of emit).
use mathlib.Core.Path.{◌≡◌}
use lib.Seq.{paste}
use Rattle.gateway.proofs.copy.put.Given as goal

abbrev pub invariant-loop-j : goal.invariant-loop-j
invariant-loop-j l = l.out ≡ paste l.initial.out l.at l.s l.j
