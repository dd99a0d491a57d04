-- The invariant: the text stands as far as it is looked at.
use Rattle.lines.proofs.Quads.{Stood}
use Rattle.lines.proofs.words.stand.Given as goal

abbrev pub invariant-loop-i : goal.invariant-loop-i
invariant-loop-i l = Stood l.s l.at l.text l.i
