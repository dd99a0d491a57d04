-- The invariant: what is found from place at on is the answer. The measure is what is left of the text.
use mathlib.Core.Path.{◌≡◌}
use Prim.Native.Nat.{◌+◌, ◌-◌}
use lib.ListN.{length, drop}
use Rattle.lines.specs.Finds.{named_from}
use Rattle.lines.proofs.find.after_line.Given as goal

abbrev pub invariant-loop-f : goal.invariant-loop-f
invariant-loop-f l = named_from 0 l.name (drop (l.line + 2) l.s) ≡ named_from 0 l.name (drop l.at l.s)

abbrev pub decreases-loop-f : goal.decreases-loop-f
decreases-loop-f l = length l.s - l.at
