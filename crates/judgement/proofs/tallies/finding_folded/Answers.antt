-- One law for each answer: a value that is not read, and one that is folded.
use borrow.Author.Rules.{rules}
use Rattle.judgement.specs.Sets.{has}
use Rattle.judgement.proofs.Kept.{unread_found}
use Rattle.judgement.proofs.tallies.finding_folded.Goals as goal

pub returns-then-not-is_read : goal.returns-then-not-is_read
unfolding has
returns-then-not-is_read c = search (unread_found, rules)
