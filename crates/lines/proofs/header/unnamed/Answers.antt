-- By the tests of an empty line and of the number of fields.
use Rattle.lines.proofs.Keeps.{if_not_empty, if_few, if_many}
use Rattle.lines.proofs.header.unnamed.Goals as goal

pub returns-then-not-is_empty_line : goal.returns-then-not-is_empty_line
returns-then-not-is_empty_line c = search if_not_empty

pub returns-then-number-le96 : goal.returns-then-number-le96
returns-then-number-le96 c = search if_few

pub returns : goal.returns
returns c = search if_many
