-- The invariant: the bytes that are looked at are value bytes, unless a control character was found.
use Prim.Native.Nat.{◌+◌, ◌<◌}
use native.Mathlib.Omega.{arith}
use lib.ListN.{get_or}
use Rattle.lines.proofs.Blocks.{none_looked, found_looked, next_looked, block_looked}
use borrow.Author.Rules.{rules}
use Rattle.lines.proofs.scan.sixteen.Goals.{then-is_control, else-is_control}
use Rattle.lines.proofs.scan.sixteen.Goals as goal

pub loop-j-init : goal.loop-j-init
loop-j-init c = search (none_looked, rules)

pub loop-j-preserved : goal.loop-j-preserved
loop-j-preserved c =
    let l = c.loop-j in
    let a = c.args in
    let byte : get_or a.s.now (a.at + l.j) 0 < 256 = omega (arith, c.shared_slice_known-in-loop-j-1.given (a.at + l.j)) in
    elim c.if-is_control.branch [ then-is_control w ↦ search (found_looked, rules) | else-is_control w ↦ search (next_looked, rules) ]

pub returns : goal.returns
returns c = search (block_looked, rules)
