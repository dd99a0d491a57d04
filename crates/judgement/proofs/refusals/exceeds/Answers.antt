-- Only a Content-Length that is given can exceed the bytes there.
use borrow.Author.Rules.{rules}
use Rattle.judgement.specs.Judged.{is_too_long}
use Rattle.judgement.proofs.refusals.exceeds.Goals as goal

pub returns-then-in_set : goal.returns-then-in_set
unfolding is_too_long
returns-then-in_set c = search rules

pub returns-else-in_set : goal.returns-else-in_set
unfolding is_too_long
returns-else-in_set c = search rules
