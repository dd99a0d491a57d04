-- One more is right (Parts).
use Rattle.std.proofs.Common.{rules}
use Rattle.calls.proofs.Parts.{firsts_none, firsts_next, firsts_end}
use Rattle.calls.proofs.full.refined.Goals as goal

pub loop-k-init : goal.loop-k-init
loop-k-init c = search (firsts_none, rules)

pub loop-k-preserved : goal.loop-k-preserved
loop-k-preserved c = search (firsts_next, rules)

pub returns : goal.returns
returns c = search (firsts_end, rules)
