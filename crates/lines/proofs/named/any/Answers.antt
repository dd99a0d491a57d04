-- Each answer is a law of the name by its tests.
use borrow.Author.Rules.{rules}
use Rattle.lines.specs.Places.{named_at}
use Rattle.lines.proofs.NamedFields.{no_name, no_colon_after, named_by}
use Rattle.lines.proofs.named.any.Goals as goal

pub returns-then-name-at : goal.returns-then-name-at
returns-then-name-at c = search (no_name, rules)

pub returns-in_err-value : goal.returns-in_err-value
returns-in_err-value c = search (no_colon_after, rules)

pub returns : goal.returns
unfolding named_at
returns c = (search (named_by, rules), search rules)
