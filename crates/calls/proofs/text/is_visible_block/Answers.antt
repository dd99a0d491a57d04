-- One byte more is looked at (Texts).
use Rattle.std.proofs.Common.{rules, refl}
use Rattle.octets.specs.Scans.{all}
use Rattle.calls.proofs.Texts.{byte_more}
use Rattle.calls.proofs.text.is_visible_block.Goals as goal

pub loop-b-init : goal.loop-b-init
unfolding all
loop-b-init c = refl

pub loop-b-preserved : goal.loop-b-preserved
loop-b-preserved c = search (byte_more, rules)
