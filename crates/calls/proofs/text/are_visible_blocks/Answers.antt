-- One block more is looked at (Texts).
use Rattle.std.proofs.Common.{rules}
use Rattle.calls.proofs.Texts.{list_more}
use Rattle.calls.proofs.text.are_visible_blocks.Goals as goal

pub loop-block-preserved : goal.loop-block-preserved
loop-block-preserved c = search (list_more, rules)
