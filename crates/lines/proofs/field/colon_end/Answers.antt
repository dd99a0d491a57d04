-- Each answer is a law of `colon_size` at a place.
use Rattle.lines.proofs.Fields.{past_colon, colon_here}
use borrow.Author.Rules.{rules}
use Rattle.lines.proofs.field.colon_end.Goals as goal

pub returns-then-s-at : goal.returns-then-s-at
returns-then-s-at c = search (past_colon, rules)

pub returns-then-s-at-eq58 : goal.returns-then-s-at-eq58
returns-then-s-at-eq58 c = search (colon_here, rules)
