-- By computing what is said of each number.
use borrow.Author.Rules.{rules}
use Rattle.judgement.specs.Tallies.{said}
use Rattle.judgement.proofs.tallies.say.Goals as goal

pub returns-in-2 : goal.returns-in-2
unfolding said
returns-in-2 c = search rules

pub returns-in-3 : goal.returns-in-3
unfolding said
returns-in-3 c = search rules

pub returns-in-4 : goal.returns-in-4
unfolding said
returns-in-4 c = search rules

pub returns-in-8 : goal.returns-in-8
unfolding said
returns-in-8 c = search rules

pub returns-in-16 : goal.returns-in-16
unfolding said
returns-in-16 c = search rules

pub returns-in_default : goal.returns-in_default
unfolding said
returns-in_default c = search rules
