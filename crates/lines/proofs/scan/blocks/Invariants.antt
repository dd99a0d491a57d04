-- The invariant: the run from the place on is what was passed and the run of what is left from i on.
use mathlib.Core.Path.{◌≡◌}
use Prim.Native.Nat.{◌+◌, ◌-◌, ◌≤◌}
use lib.ListN.{length, drop}
use Rattle.octets.specs.Classes.{is_value}
use Rattle.octets.specs.Scans.{run}
use Rattle.lines.proofs.scan.blocks.Given as goal

abbrev pub invariant-loop-i : goal.invariant-loop-i
invariant-loop-i l = (l.last + 16 ≡ length l.s) × (l.i ≤ l.at + (length l.s - l.at)) × (l.at + run is_value (drop l.at l.s) ≡ l.i + run is_value (drop l.i l.s))

abbrev pub decreases-loop-i : goal.decreases-loop-i
decreases-loop-i l = length l.s - l.i
