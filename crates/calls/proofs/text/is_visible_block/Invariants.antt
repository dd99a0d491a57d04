-- The bytes before this one are visible.
use Rattle.std.proofs.Common.{◌≡◌, take}
use Rattle.octets.specs.Classes.{is_visible}
use Rattle.octets.specs.Scans.{all}
use Rattle.calls.proofs.text.is_visible_block.Given as goal

abbrev pub invariant-loop-b : goal.invariant-loop-b
invariant-loop-b l = l.visible ≡ all is_visible (take l.b-index l.block)
