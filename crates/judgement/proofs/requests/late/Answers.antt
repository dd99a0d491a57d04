-- One reason after the other.
use borrow.Author.Rules.{rules}
use Rattle.judgement.specs.Judged.{late}
use Rattle.judgement.proofs.requests.late.Goals as goal

pub returns-then-is_hopless : goal.returns-then-is_hopless
unfolding late
returns-then-is_hopless c = search rules

pub returns-then-t-ne0 : goal.returns-then-t-ne0
unfolding late
returns-then-t-ne0 c = search rules

pub returns-then-not-u : goal.returns-then-not-u
unfolding late
returns-then-not-u c = search rules

pub returns : goal.returns
unfolding late
returns c = search rules
