-- The places before k are as they shall be (Removing).
use Rattle.std.proofs.Common.{◌≡◌, length}
use Rattle.calls.specs.Places.{said}
use Rattle.calls.proofs.Removing.{Cleared}
use Rattle.calls.proofs.clear.Given as goal

abbrev pub invariant-loop-k : goal.invariant-loop-k
invariant-loop-k l = (length l.table ≡ 6208) × Cleared (said l.pair) l.fn.table l.table l.k
