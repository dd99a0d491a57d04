-- Records are taken, and the text that is left gives the others (Whole).
use Rattle.sip.specs.Calls.{none_held}
use Rattle.records.proofs.Whole.{before_all, none_left, whole_over, next_before, next_less}
use Rattle.records.proofs.replay_text.Goals as goal

pub loop-left-init : goal.loop-left-init
unfolding none_held
loop-left-init c = search before_all

pub returns-then-st-ne0 : goal.returns-then-st-ne0
returns-then-st-ne0 c = search whole_over

pub loop-left-smaller : goal.loop-left-smaller
loop-left-smaller c = search next_less

pub loop-left-preserved : goal.loop-left-preserved
loop-left-preserved c = search next_before

pub returns : goal.returns
returns c = search none_left
