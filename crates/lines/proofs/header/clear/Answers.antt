-- By computing.
use mathlib.Core.Path.{refl}
use Rattle.lines.specs.Index.{zeros}
use Rattle.lines.proofs.header.clear.Goals as goal

pub returns : goal.returns
unfolding zeros
returns c = refl
