-- The invariant: the i digits that are left, put now, give what all of them, put at once, would give.
use mathlib.Core.Path.{◌≡◌}
use Prim.Native.Nat.{◌≤◌}
use lib.ListN.{length}
use Rattle.emit.specs.Put.{put_at}
use Rattle.emit.specs.Digits.{lowest}
use Rattle.emit.proofs.put_digits.Given as goal

abbrev pub invariant-loop-i : goal.invariant-loop-i
invariant-loop-i l = (l.i ≤ l.size) × (length l.out ≡ length l.initial.out) × (put_at l.out l.at (lowest l.i l.left) ≡ put_at l.initial.out l.at (lowest l.size l.n))
