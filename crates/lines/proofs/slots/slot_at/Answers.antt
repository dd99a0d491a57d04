-- The four numbers at the place are the slot.
use Rattle.lines.proofs.Packs.{past_slot, here_slot}
use borrow.Author.Rules.{rules}
use Rattle.lines.proofs.slots.slot_at.Goals as goal

pub returns-then-i-ge96 : goal.returns-then-i-ge96
returns-then-i-ge96 c = search (past_slot, rules)

pub returns : goal.returns
returns c = search (here_slot, rules)
