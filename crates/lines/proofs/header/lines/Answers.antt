-- A message without a start line is not read; any other is by its fields.
use borrow.Author.Rules.{rules}
use Rattle.lines.proofs.Messages.{cleared, start_unread, start_cleared, settled_read, settled_slots, settled_method, settled_unread, settled_cleared}
use Rattle.lines.proofs.header.lines.Goals as goal

pub returns-in_default : goal.returns-in_default
returns-in_default c = (search (start_unread, rules), search (start_cleared, rules), tt)

pub fields-requires : goal.fields-requires
fields-requires c = (search rules, search rules, search rules, search (cleared, rules))

pub returns-in-Ok : goal.returns-in-Ok
returns-in-Ok c = (search (settled_read, rules), search (settled_slots, rules), search (settled_method, rules))

pub returns-in-Err : goal.returns-in-Err
returns-in-Err c = (search (settled_unread, rules), search (settled_cleared, rules), tt)
