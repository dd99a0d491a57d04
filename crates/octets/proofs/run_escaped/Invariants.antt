-- The invariant: the run of the whole text is i bytes and the run of what is left from i on.
use mathlib.Core.Path.{◌≡◌}
use Prim.Native.Nat.{◌+◌, ◌-◌, ◌≤◌}
use lib.ListN.{length, drop}
use Rattle.octets.specs.Classes.{in_table}
use Rattle.octets.specs.Scans.{run_escaped}
use Rattle.octets.proofs.run_escaped.Given as goal

abbrev pub invariant-loop-i : goal.invariant-loop-i
invariant-loop-i l = (l.i ≤ length l.s) × (run_escaped (in_table l.table l.mask) 0 l.s ≡ l.i + run_escaped (in_table l.table l.mask) 0 (drop l.i l.s))

abbrev pub decreases-loop-i : goal.decreases-loop-i
decreases-loop-i l = length l.s - l.i
