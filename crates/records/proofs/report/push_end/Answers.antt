-- The pieces are the line.
use mathlib.Core.List.{append_assoc}
use Rattle.octets.specs.Classes.{text}
use Rattle.emit.proofs.Pushes.{pushed_append}
use Rattle.records.specs.Report.{end_text}
use Rattle.records.proofs.report.push_end.Goals as goal

pub returns : goal.returns
unfolding end_text text
returns c = simp (c.push-2.ensures, c.push_spaced-2.ensures, c.push_spaced.ensures, c.push.ensures, pushed_append, append_assoc)
