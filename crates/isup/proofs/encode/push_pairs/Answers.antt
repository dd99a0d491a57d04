-- What is left to pack stands behind what is packed (Encoding).
use Rattle.std.proofs.Common.{◌≡◌, ap, ◌∙◌, arith}
use Rattle.std.specs.Slice.Iter.{chunks_rest, chunks_size}
use Rattle.isup.specs.Held.{held}
use Rattle.isup.proofs.Encoding.{packing_begin, pair_digits, pair_room, packing_next, all_packed}
use Rattle.isup.proofs.encode.push_pairs.Goals as goal

pub loop-pair-init : goal.loop-pair-init
loop-pair-init c =
    let e = c.into_iter-pair-iterator.ensures.into_iter_gives in
    let two : chunks_size c.into_iter-pair-iterator.result ≡ 2 = ap chunks_size e ∙ c.chunks-pair-items.ensures.size in (
      omega arith,
      tt,
      two,
      packing_begin (held c.args.octets.now) c.args.digits.now (ap chunks_rest e ∙ c.chunks-pair-items.ensures.rest) c.requires.0,
    )

pub octet_of-requires : goal.octet_of-requires
octet_of-requires c =
    let s = c.in-Some.ensures.steps.1 in (
      pair_digits _ _ _ _ c.loop-pair.invariant.3 c.in-Some.pair.now (chunks_rest c.next.new.self) s.0 c.loop-pair.invariant.2 s.1,
      omega (arith, s.1, s.2, c.loop-pair.invariant.2),
      omega (arith, s.1, s.2, c.loop-pair.invariant.2),
    )

pub push-requires : goal.push-requires
push-requires c =
    let s = c.in-Some.ensures.steps.1 in (
      omega arith,
      pair_room _ _ _ _ c.loop-pair.invariant.3 c.in-Some.pair.now (chunks_rest c.next.new.self) s.0 c.loop-pair.invariant.2 s.1 c.requires.2
          c.requires.1 s.2,
    )

pub loop-pair-preserved : goal.loop-pair-preserved
loop-pair-preserved c =
    let s = c.in-Some.ensures.steps.1 in
    let two : chunks_size c.next.new.self ≡ 2 = c.in-Some.ensures.steps.0 ∙ c.loop-pair.invariant.2 in (
      omega arith,
      tt,
      two,
      packing_next _ _ _ _ c.loop-pair.invariant.3 c.in-Some.pair.now (chunks_rest c.next.new.self) s.0 c.loop-pair.invariant.2 s.1
          c.octet_of.ensures c.push.ensures,
    )

pub returns : goal.returns
returns c = all_packed _ _ _ _ c.loop-pair.invariant.3 c.in-None.ensures.steps.1.0
