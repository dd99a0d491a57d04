-- The invariant: the byte is as many bytes ahead of the place i, folded, as are still to be passed.
use mathlib.Core.Path.{◌≡◌}
use Prim.Native.Nat.{◌+◌, ◌-◌, ◌≤◌}
use lib.ListN.{length, drop}
use Rattle.sip.specs.Lines.{unfolded_at}
use Rattle.emit.proofs.unfolded_at.Given as goal

abbrev pub invariant-loop-i : goal.invariant-loop-i
invariant-loop-i l = (l.i ≤ length l.v) × (unfolded_at l.k 0 l.v ≡ l.i + unfolded_at l.ahead 0 (drop l.i l.v))

abbrev pub decreases-loop-i : goal.decreases-loop-i
decreases-loop-i l = length l.v - l.i
