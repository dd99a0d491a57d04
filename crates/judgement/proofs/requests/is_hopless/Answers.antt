-- Only a Max-Forwards that is there can be 0.
use borrow.Author.Rules.{rules}
use Rattle.judgement.specs.Judged.{hopless}
use Rattle.judgement.proofs.requests.is_hopless.Goals as goal

pub returns-then-in_set : goal.returns-then-in_set
unfolding hopless
returns-then-in_set c = search rules

pub returns-else-in_set : goal.returns-else-in_set
unfolding hopless
returns-else-in_set c = search rules
