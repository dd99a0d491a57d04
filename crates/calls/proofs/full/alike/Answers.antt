-- One byte more is looked at (Masks).
use Rattle.std.proofs.Common.{rules}
use Rattle.calls.proofs.Masks.{alike_start, alike_end, unlike_found, unlike_not}
use Rattle.calls.proofs.full.alike.Goals.{then-a-i, else-a-i}
use Rattle.calls.proofs.full.alike.Goals as goal

pub loop-i-init : goal.loop-i-init
loop-i-init c = search (alike_start, rules)

pub returns : goal.returns
returns c = search (alike_end, rules)

pub loop-i-preserved : goal.loop-i-preserved
loop-i-preserved c = elim c.if-a-i.branch [ then-a-i w ↦ search (unlike_found, rules) | else-a-i w ↦ search (unlike_not, rules) ]
