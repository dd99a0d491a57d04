-- Each answer is a law of `counting`, by its tests.
use Rattle.lines.proofs.Counts.{other_number, other_place, same_place}
use borrow.Author.Rules.{rules}
use Rattle.lines.proofs.slots.with_slot.Goals as goal

pub returns-then-s-n : goal.returns-then-s-n
returns-then-s-n c = search (other_number, rules)

pub returns-then-count-k : goal.returns-then-count-k
returns-then-count-k c = search (other_place, rules)

pub returns : goal.returns
returns c = search (same_place, rules)
