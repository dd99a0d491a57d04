-- Each answer is a law of the value's part.
use Rattle.lines.proofs.Trims.{no_part, a_part}
use borrow.Author.Rules.{rules}
use Rattle.lines.proofs.value.trimmed.Goals as goal

pub returns-then-len-lt1 : goal.returns-then-len-lt1
returns-then-len-lt1 c = search (no_part, rules)

pub returns : goal.returns
returns c = search (a_part, rules)
