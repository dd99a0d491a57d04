-- The invariant: what is stored, and what the fields from place at on come to, are the message. The measure is what is left of the text.
use Prim.Native.Nat.{◌-◌, ◌≤◌}
use lib.ListN.{length}
use Rattle.lines.proofs.Reached.{Reached}
use Rattle.lines.proofs.header.fields.Given as goal

abbrev pub invariant-loop-n : goal.invariant-loop-n
invariant-loop-n l = (l.at ≤ length l.s) × (l.number ≤ l.at) × Reached l.s l.number l.at l.count l.slots

abbrev pub decreases-loop-n : goal.decreases-loop-n
decreases-loop-n l = length l.s - l.at
