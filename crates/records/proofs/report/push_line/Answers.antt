-- The pieces are the line.
use Rattle.emit.proofs.Pushes.{pushed_append}
use Rattle.records.proofs.report.push_line.Goals as goal

pub returns : goal.returns
returns c = rw (c.push_row.ensures, c.push.ensures) (pushed_append _ _ _ _)
