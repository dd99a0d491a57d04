-- One reason after the other.
use borrow.Author.Rules.{rules}
use Rattle.judgement.specs.Judged.{shared}
use Rattle.judgement.proofs.refusals.shared.Goals as goal

pub returns-then-t-ne0 : goal.returns-then-t-ne0
unfolding shared
returns-then-t-ne0 c = search rules

pub returns-then-t-ne0-2 : goal.returns-then-t-ne0-2
unfolding shared
returns-then-t-ne0-2 c = search rules

pub returns-then-exceeds : goal.returns-then-exceeds
unfolding shared
returns-then-exceeds c = search rules

pub returns-in-Some : goal.returns-in-Some
unfolding shared
returns-in-Some c = search rules

pub returns-in-None : goal.returns-in-None
unfolding shared
returns-in-None c = search rules
