-- Each answer is a law of the field by its tests.
use borrow.Author.Rules.{rules}
use Rattle.lines.proofs.Fields.{nameless, colonless, endless_value, found_value}
use Rattle.lines.proofs.field.read.Goals as goal

pub returns-then-name-at : goal.returns-then-name-at
returns-then-name-at c = search (nameless, rules)

pub returns-in_err-value : goal.returns-in_err-value
returns-in_err-value c = search (colonless, rules)

pub returns-in_err-found : goal.returns-in_err-found
returns-in_err-found c = search (endless_value, rules)

pub returns : goal.returns
returns c = search (found_value, rules)
