-- Content-Length cuts the body, where it is given.
use borrow.Author.Rules.{rules}
use Rattle.judgement.specs.Judged.{body_length}
use Rattle.judgement.proofs.refusals.body_of.Goals as goal

pub returns-then-in_set : goal.returns-then-in_set
unfolding body_length
returns-then-in_set c = search rules

pub returns-else-in_set : goal.returns-else-in_set
unfolding body_length
returns-else-in_set c = search rules
