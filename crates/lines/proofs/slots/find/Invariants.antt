-- The invariant: the slots before the i-th are counted. The measure is how many are left.
use mathlib.Core.Path.{◌≡◌}
use Prim.Native.Nat.{◌≤◌, ◌-◌}
use Rattle.lines.specs.Passes.{first_slots, spans_in, counted_in}
use Rattle.lines.proofs.slots.find.Given as goal

abbrev pub invariant-loop-i : goal.invariant-loop-i
invariant-loop-i l = (l.i ≤ l.listed) × (l.found.count ≤ l.i) × (l.found ≡ counted_in l.k (spans_in l.n (first_slots l.i l.slots)))

abbrev pub decreases-loop-i : goal.decreases-loop-i
decreases-loop-i l = l.listed - l.i
