-- The invariant: the run from the place on is what was passed and the run of what is left from i on.
use mathlib.Core.Path.{◌≡◌}
use Prim.Native.Nat.{◌+◌, ◌-◌, ◌≤◌}
use lib.ListN.{length, drop}
use Rattle.octets.specs.Classes.{in_table}
use Rattle.octets.specs.Scans.{run}
use Rattle.octets.proofs.run_from.Given as goal

abbrev pub invariant-loop-i : goal.invariant-loop-i
invariant-loop-i l = (l.i ≤ l.at + (length l.s - l.at)) × (l.at + run (in_table l.table l.mask) (drop l.at l.s) ≡ l.i + run (in_table l.table l.mask) (drop l.i l.s))
