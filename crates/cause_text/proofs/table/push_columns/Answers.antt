-- The pieces are the columns.
use mathlib.Core.List.{append_assoc}
use Rattle.emit.proofs.Pushes.{pushed_append}
use Rattle.cause_text.proofs.table.push_columns.Goals as goal

pub returns : goal.returns
returns c = simp (c.push_column-3.ensures, c.push-2.ensures, c.push_column-2.ensures, c.push.ensures, c.push_column.ensures, pushed_append, append_assoc)
