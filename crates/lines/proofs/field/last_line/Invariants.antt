-- The invariant: the value ends where what is left of it from `end` on does, and no value byte stands there. The measure is what is left of the text.
use mathlib.Core.Path.{◌≡◌}
use Prim.Native.Nat.{◌≤◌, ◌-◌}
use lib.ListN.{length, drop}
use Rattle.octets.specs.Classes.{is_value}
use Rattle.octets.specs.Scans.{run}
use Rattle.lines.specs.Sizes.{value_end}
use Rattle.lines.proofs.field.last_line.Given as goal

abbrev pub invariant-loop-end : goal.invariant-loop-end
invariant-loop-end l = (l.end ≤ length l.s) × (run is_value (drop l.end l.s) ≡ 0) × (value_end l.s l.line ≡ value_end l.s l.end)

abbrev pub decreases-loop-end : goal.decreases-loop-end
decreases-loop-end l = length l.s - l.end
