-- The blocks are the front of the run, and the table reads what is left of it.
use native.Mathlib.Omega.{arith}
use Rattle.lines.proofs.Blocks.{blocks_then}
use Rattle.lines.proofs.scan.line.Goals as goal

pub returns : goal.returns
returns c = search (blocks_then, arith)
