-- A message that is too long is not read; any other is by its lines.
use borrow.Author.Rules.{rules}
use Rattle.lines.proofs.Messages.{long_unread, long_cleared}
use Rattle.lines.proofs.read.Goals as goal

pub returns-then-message-gt8192 : goal.returns-then-message-gt8192
returns-then-message-gt8192 c = (search (long_unread, rules), search (long_cleared, rules), tt)
