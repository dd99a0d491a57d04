-- The invariant: the texts are the same where they are from i on; by the loop of all comparisons in `Texts`.
use mathlib.Core.Path.{◌≡◌}
use Prim.Native.Nat.{◌≤◌}
use lib.ListN.{length, drop}
use Rattle.octets.specs.Scans.{same_text}
use Rattle.octets.proofs.same_text.Given as goal

abbrev pub invariant-loop-i : goal.invariant-loop-i
invariant-loop-i l = (l.i ≤ length l.a) × (same_text l.a l.b ≡ same_text (drop l.i l.a) (drop l.i l.b))
