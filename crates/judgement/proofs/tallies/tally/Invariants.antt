-- The entries before the i-th slot are tallied: what is left is tallied after them.
use mathlib.Core.Path.{◌≡◌}
use Prim.Native.Nat.{◌*◌, ◌-◌, ◌≤◌}
use Rattle.judgement.specs.Entries.{entries_from}
use Rattle.judgement.specs.Tallies.{tallied}
use Rattle.judgement.proofs.Kept.{whole}
use Rattle.judgement.proofs.tallies.tally.Given as goal

abbrev pub invariant-loop-i : goal.invariant-loop-i
invariant-loop-i l =
    (l.end ≡ l.read.head.count) × (l.t.tags ≤ 8192 * l.i)
    × (whole l.method l.read.message.now l.kept l.read.slots.now l.end
    ≡ tallied l.method l.t (entries_from l.kept l.read.message.now l.read.slots.now (l.end - l.i) l.i))
