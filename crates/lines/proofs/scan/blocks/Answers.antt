-- The invariant: the run from the place on is what was passed and the run of what is left from i on.
use Rattle.lines.proofs.Blocks.{block_next}
use borrow.Author.Rules.{rules}
use Rattle.lines.proofs.scan.blocks.Goals as goal

pub loop-i-preserved : goal.loop-i-preserved
loop-i-preserved c = search (block_next, rules)
