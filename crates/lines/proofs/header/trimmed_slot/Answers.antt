-- Each answer is a law of the slot of a value, by its part.
use borrow.Author.Rules.{rules}
use Rattle.lines.proofs.Breaks.{empty_slot, unfolded_slot, broken_slot}
use Rattle.lines.proofs.header.trimmed_slot.Goals as goal

pub returns-then-p-lt1 : goal.returns-then-p-lt1
returns-then-p-lt1 c = search (empty_slot, rules)

pub returns-then-folded : goal.returns-then-folded
returns-then-folded c = (search (broken_slot, rules), search rules, search rules)

pub returns-else-folded : goal.returns-else-folded
returns-else-folded c = (search (unfolded_slot, rules), search rules, search rules)
