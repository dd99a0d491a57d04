-- Each turn takes a record or is the last (Texts).
use Rattle.sip.specs.Calls.{none_held}
use Rattle.records.proofs.Texts.{turn_first, turn_none, turn_over, turn_next, turn_last}
use borrow.Author.Rules.{rules}
use Rattle.replay.proofs.replay.Goals as goal

pub loop-init : goal.loop-init
unfolding none_held
loop-init g c = (search rules, search turn_first)

pub returns-then-n-eq0 : goal.returns-then-n-eq0
returns-then-n-eq0 g c = search turn_none

pub returns-then-st-ne0 : goal.returns-then-st-ne0
returns-then-st-ne0 g c = search (turn_over, rules)

pub loop-preserved : goal.loop-preserved
loop-preserved g c = (search rules, search (turn_next, rules))

pub returns : goal.returns
returns g c = search (turn_last, rules)
