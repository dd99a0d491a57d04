-- Each answer is a law of `colon_size` where the spaces or tabs end.
use Rattle.lines.proofs.Fields.{colon_past, no_colon, a_colon}
use borrow.Author.Rules.{rules}
use Rattle.lines.proofs.field.blanks_and_colon.Goals as goal

pub returns-then-s-colon : goal.returns-then-s-colon
returns-then-s-colon c = search (colon_past, rules)

pub returns-then-s-colon-ne58 : goal.returns-then-s-colon-ne58
returns-then-s-colon-ne58 c = search (no_colon, rules)

pub returns : goal.returns
returns c = search (a_colon, rules)
