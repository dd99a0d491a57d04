-- The pieces are the report.
use mathlib.Core.List.{append_assoc}
use Rattle.octets.specs.Classes.{text}
use Rattle.emit.proofs.Pushes.{pushed_append}
use Rattle.records.specs.Report.{printed}
use Rattle.records.specs.Running.{counts_report}
use Rattle.records.proofs.report.push_all.Goals as goal

pub returns : goal.returns
unfolding printed counts_report text
returns c =
    simp (
      c.push_end.ensures,
      c.push_line-3.ensures,
      c.row-3.ensures.0,
      c.push_line-2.ensures,
      c.row-2.ensures.0,
      c.push_line.ensures,
      c.row.ensures.0,
      pushed_append,
      append_assoc,
    )
