-- The blocks before this one are visible.
use Rattle.std.proofs.Common.{◌≡◌, take}
use Rattle.std.specs.List.{list_all}
use Rattle.octets.specs.Classes.{is_visible}
use Rattle.octets.specs.Scans.{all}
use Rattle.calls.proofs.text.are_visible_blocks.Given as goal

abbrev pub invariant-loop-block : goal.invariant-loop-block
invariant-loop-block l = l.visible ≡ list_all (all is_visible) (take l.block-index l.blocks)
