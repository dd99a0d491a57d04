-- The first k are right (Parts).
use Rattle.std.proofs.Common.{◌≡◌, suc, length, take}
use Rattle.sip.specs.Calls.{places}
use Rattle.calls.specs.Parts.{number_of, firsts_of}
use Rattle.calls.proofs.full.refined.Given as goal

abbrev pub invariant-loop-k : goal.invariant-loop-k
invariant-loop-k l = (length l.next ≡ 32) × (take l.k l.next ≡ take l.k (firsts_of (suc (number_of l.part)) (places 32 l.table)))
