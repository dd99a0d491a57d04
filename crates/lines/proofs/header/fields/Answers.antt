-- The invariant: what is stored, and what the fields from place at on come to, are the message. The measure is what is left of the text.
use borrow.Author.Rules.{rules}
use Rattle.lines.proofs.Reached.{begin, unnamed_ends, endless_ends, end_after, end_within, next_within, next_less, next_few, value_folded, next}
use Rattle.lines.proofs.header.fields.Goals as goal

pub loop-n-init : goal.loop-n-init
loop-n-init c = (search rules, search rules, search (begin, rules))

pub returns-in_default-value_at : goal.returns-in_default-value_at
returns-in_default-value_at c = search (endless_ends, rules)

pub slot_of-requires : goal.slot_of-requires
slot_of-requires c = (search (end_after, rules), search (end_within, rules), search rules, search rules, search (value_folded, rules))

pub loop-n-smaller : goal.loop-n-smaller
loop-n-smaller c = search (next_less, rules)

pub loop-n-preserved : goal.loop-n-preserved
loop-n-preserved c = (search (next_within, rules), search (next_few, rules), search (next, rules))

pub returns : goal.returns
returns c = search (unnamed_ends, rules)
