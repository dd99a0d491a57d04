-- The slots before the i-th are of other numbers: the first is among those that are left.
use borrow.Author.Rules.{rules}
use Rattle.judgement.proofs.Slots.{found_slot, other_slot, no_slot_lem}
use Rattle.judgement.proofs.first_slot.Goals as goal

pub returns-then-s-n : goal.returns-then-s-n
returns-then-s-n c = search (found_slot, rules)

pub loop-i-preserved : goal.loop-i-preserved
loop-i-preserved c = search (other_slot, rules)

pub returns : goal.returns
returns c = search (no_slot_lem, rules)
