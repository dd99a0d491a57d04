-- The counter falls short of its end, and the two arrays keep their lengths.
use mathlib.Core.Path.{◌≡◌}
use Prim.Native.Nat.{◌≤◌, ◌-◌}
use lib.ListN.{length}
use Rattle.isup_vectors.proofs.main.Given as goal

abbrev pub invariant-loop : goal.invariant-loop
invariant-loop l = (l.counter ≤ 65536) × (length l.code ≡ 255) × (length l.bytes ≡ 9000)

abbrev pub decreases-loop : goal.decreases-loop
decreases-loop l = 65536 - l.counter
