-- The laws of a copy byte by byte (Copies of emit).
use native.Mathlib.Omega.{arith}
use lib.Seq.{paste-zero}
use borrow.Author.Rules.{rules}
use Rattle.emit.proofs.Copies.{copied_next, copied_all}
use Rattle.gateway.proofs.copy.put.Goals as goal

pub loop-j-init : goal.loop-j-init
loop-j-init c = search (paste-zero, rules)

pub loop-j-preserved : goal.loop-j-preserved
loop-j-preserved c = search (copied_next, rules)

pub returns : goal.returns
returns c = copied_all _ _ _ c.requires c.loop-j.j _ c.loop-j.invariant (omega arith) (omega arith)
