-- The invariant: the slots before the i-th are counted. The measure is how many are left.
use Rattle.lines.proofs.Counts.{none_counted, one_counted, all_counted}
use borrow.Author.Rules.{rules}
use Rattle.lines.proofs.slots.find.Goals as goal

pub loop-i-init : goal.loop-i-init
loop-i-init c = search (none_counted, rules)

pub loop-i-preserved : goal.loop-i-preserved
loop-i-preserved c = search (one_counted, rules)

pub returns : goal.returns
returns c = search (all_counted, rules)
