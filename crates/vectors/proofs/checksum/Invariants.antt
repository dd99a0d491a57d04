-- Both sums stay below 65,521.
use Prim.Native.Nat.{◌<◌}
use Rattle.vectors.proofs.checksum.Given as goal

abbrev pub invariant-loop-b : goal.invariant-loop-b
invariant-loop-b l = (l.low < 65521) × (l.high < 65521)
