-- The entries before the i-th slot are tallied: what is left is tallied after them.
use borrow.Author.Rules.{rules}
use Rattle.judgement.proofs.Kept.{next_slot, ended}
use Rattle.judgement.proofs.tallies.tally.Goals as goal

pub loop-i-preserved : goal.loop-i-preserved
loop-i-preserved c = search (next_slot, rules)

pub returns : goal.returns
returns c = search (ended, rules)
