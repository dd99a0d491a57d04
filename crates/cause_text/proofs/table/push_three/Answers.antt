-- The pieces are the line.
use mathlib.Core.List.{append_assoc}
use Rattle.emit.proofs.Pushes.{pushed_append}
use Rattle.cause_text.proofs.table.push_three.Goals as goal

pub returns : goal.returns
returns c = simp (c.push.ensures, c.push_spaced-2.ensures, c.push_spaced.ensures, c.push_number.ensures, pushed_append, append_assoc)
