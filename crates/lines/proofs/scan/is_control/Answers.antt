-- By the test of the byte.
use Rattle.lines.proofs.Blocks.{low_control}
use Rattle.lines.proofs.scan.is_control.Goals as goal

pub returns-then-b-lt32 : goal.returns-then-b-lt32
returns-then-b-lt32 c = search low_control
