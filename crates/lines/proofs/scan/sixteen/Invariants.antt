-- The invariant: the bytes that are looked at are value bytes, unless a control character was found.
use Prim.Native.Nat.{◌+◌, ◌-◌, ◌≤◌}
use lib.ListN.{length}
use Rattle.lines.proofs.Blocks.{Looked}
use Rattle.lines.proofs.scan.sixteen.Given as goal

abbrev pub invariant-loop-j : goal.invariant-loop-j
invariant-loop-j l = (l.j ≤ 16) × (l.at + 16 ≤ length l.s) × Looked l.s l.at l.found l.j

abbrev pub decreases-loop-j : goal.decreases-loop-j
decreases-loop-j l = 16 - l.j
