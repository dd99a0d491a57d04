-- The slots before the i-th are of other numbers: the first is among those that are left.
use mathlib.Core.Path.{◌≡◌}
use Prim.Native.Nat.{◌-◌}
use Rattle.judgement.specs.Entries.{first_slot}
use Rattle.judgement.proofs.first_slot.Given as goal

abbrev pub invariant-loop-i : goal.invariant-loop-i
invariant-loop-i l = first_slot l.n l.slots l.count 0 ≡ first_slot l.n l.slots (l.count - l.i) l.i
