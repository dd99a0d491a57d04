-- Records are taken, and the text that is left gives the others (Whole).
use lib.ListN.{length}
use Rattle.records.specs.Running.{state_of}
use Rattle.records.proofs.Whole.{Before}
use Rattle.records.proofs.replay_text.Given as goal

abbrev pub invariant-loop-left : goal.invariant-loop-left
invariant-loop-left l = Before l.text (state_of l.st l.calls) l.left

abbrev pub decreases-loop-left : goal.decreases-loop-left
decreases-loop-left l = length l.left
