-- The blocks, then what is left (Texts).
use Rattle.std.proofs.Common.{rules}
use Rattle.calls.proofs.Texts.{blocks_fail, blocks_all, blocks_last}
use Rattle.calls.proofs.text.is_visible.Goals as goal

pub returns-then-is_empty : goal.returns-then-is_empty
returns-then-is_empty c = search (blocks_all, rules)

pub returns-else-is_empty : goal.returns-else-is_empty
returns-else-is_empty c = search (blocks_last, rules)

pub returns-else-are_visible_blocks : goal.returns-else-are_visible_blocks
returns-else-are_visible_blocks c = search (blocks_fail, rules)
