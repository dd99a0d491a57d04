-- Two bytes that differ were found, or all that were looked at are alike (Masks).
use Rattle.std.proofs.Common.{◌≡◌, not}
use Rattle.calls.proofs.Masks.{Alike}
use Rattle.calls.proofs.full.alike.Given as goal

abbrev pub invariant-loop-i : goal.invariant-loop-i
invariant-loop-i l = l.found ≡ not (Alike l.a l.b l.n l.i)
