-- By the look, or line by line.
use borrow.Author.Rules.{rules}
use Rattle.lines.proofs.Values.{ends_here, last_within}
use Rattle.lines.proofs.field.value_end.Goals as goal

pub returns-then-is_last_line : goal.returns-then-is_last_line
returns-then-is_last_line c = (search (ends_here, rules), search (last_within, rules))
