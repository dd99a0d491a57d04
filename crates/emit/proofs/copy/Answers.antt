-- `emit::copy` meets its contract: the laws of a copy byte by byte (Copies).
use lib.ListN.{length-set}
use lib.Seq.{paste-zero}
use borrow.Author.Rules.{rules}
use Rattle.emit.proofs.Copies.{copied_next, copied_all}
use Rattle.emit.proofs.copy.Goals as goal

pub loop-j-init : goal.loop-j-init
loop-j-init c = search (paste-zero, rules)

pub loop-j-preserved : goal.loop-j-preserved
loop-j-preserved c = search (copied_next, length-set, rules)

pub returns : goal.returns
returns c = search copied_all
