-- The answer, field by field.
use borrow.Author.Rules.{rules}
use Rattle.judgement.specs.Judged.{judged_from}
use Rattle.judgement.proofs.refusals.judged.Goals as goal

pub returns-in-Ok : goal.returns-in-Ok
unfolding judged_from
returns-in-Ok c = search rules

pub returns-in-Err : goal.returns-in-Err
unfolding judged_from
returns-in-Err c = search rules
