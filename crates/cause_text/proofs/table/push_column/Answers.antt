-- The three places are the column.
use Rattle.cause_text.proofs.Columns.{column_places}
use Rattle.cause_text.proofs.table.push_column.Goals as goal

pub returns : goal.returns
returns c = rw (c.push.ensures, column_places c.args.n c.requires, c.leading.ensures, c.leading-2.ensures, c.digit.ensures)
