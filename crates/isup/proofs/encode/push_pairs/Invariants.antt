-- What is left to pack stands behind what is packed (Encoding).
use Rattle.std.proofs.Common.{◌≡◌}
use Rattle.std.specs.Slice.Iter.{chunks_rest, chunks_size}
use Rattle.isup.specs.Held.{held}
use Rattle.isup.proofs.Encoding.{Packing}
use Rattle.isup.proofs.encode.push_pairs.Given as goal

abbrev pub invariant-loop-pair : goal.invariant-loop-pair
invariant-loop-pair l =
    (goal.iterator-loop-pair).can_next l.pair-iterator × (goal.iterator-loop-pair).is_finite l.pair-iterator
    × (chunks_size l.pair-iterator ≡ 2) × Packing (held l.initial.octets) l.digits (held l.octets) (chunks_rest l.pair-iterator)
