-- `emit::copy` meets its contract: the laws of a copy byte by byte (Copies).
use mathlib.Core.Path.{◌≡◌}
use Prim.Native.Nat.{◌≤◌}
use lib.ListN.{length}
use lib.Seq.{paste}
use Rattle.emit.proofs.copy.Given as goal

abbrev pub invariant-loop-j : goal.invariant-loop-j
invariant-loop-j l = (l.j ≤ length l.s) × (length l.out ≡ length l.initial.out) × (l.out ≡ paste l.initial.out l.at l.s l.j)
