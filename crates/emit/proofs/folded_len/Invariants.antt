-- The invariant: the size so far, and that of what is left, folded, are the size of the whole, folded.
use mathlib.Core.Path.{◌≡◌}
use Prim.Native.Nat.{◌+◌, ◌-◌, ◌≤◌}
use lib.ListN.{length, drop}
use Rattle.sip.specs.Lines.{folded}
use Rattle.emit.proofs.folded_len.Given as goal

abbrev pub invariant-loop-i : goal.invariant-loop-i
invariant-loop-i l = (l.i ≤ length l.v) × (l.size ≤ l.i) × (l.size + length (folded 0 (drop l.i l.v)) ≡ length (folded 0 l.v))

abbrev pub decreases-loop-i : goal.decreases-loop-i
decreases-loop-i l = length l.v - l.i
