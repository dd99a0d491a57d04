-- One reason after the other.
use borrow.Author.Rules.{rules}
use Rattle.judgement.specs.Judged.{early}
use Rattle.judgement.proofs.requests.early.Goals as goal

pub returns-then-u : goal.returns-then-u
unfolding early
returns-then-u c = search rules

pub returns-then-not-u : goal.returns-then-not-u
unfolding early
returns-then-not-u c = search rules

pub returns : goal.returns
unfolding early
returns c = search rules
