-- The two pieces are one.
use Rattle.std.proofs.Common.{◌∙◌}
use Rattle.emit.proofs.Pushes.{pushed_append}
use Rattle.emit.proofs.texts.Text.push_spaced.Goals as goal

pub returns : goal.returns
returns g c = c.push_number.ensures ∙ rw c.push.ensures (pushed_append _ _ _ _)
