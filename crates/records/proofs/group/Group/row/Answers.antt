-- The row is a part of the counts (Tables).
use Rattle.records.proofs.Tables.{row_part}
use borrow.Author.Rules.{rules}
use Rattle.records.proofs.group.Group.row.Goals as goal

pub returns : goal.returns
returns c = (search (row_part, rules), search rules)
