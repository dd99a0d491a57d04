-- The tests in their order (Decoding).
use Rattle.std.proofs.Common.{◌∙◌}
use Rattle.std.proofs.lemmas.Result.{err_from_is_err_and}
use Rattle.isup.proofs.Decoding.{decode_41, decode_43, decode_refused, decode_45, decode_46, long_enough, decode_is}
use borrow.Author.Rules.{rules}
use Rattle.isup.proofs.backward.decode.Goals as goal

pub returns-then-not-is_code : goal.returns-then-not-is_code
returns-then-not-is_code c = search decode_41

pub returns-then-is_cut : goal.returns-then-is_cut
returns-then-is_cut c = search decode_43

pub fields_in-requires : goal.fields_in-requires
fields_in-requires c = search (long_enough, rules)

pub returns-in_err-nature : goal.returns-in_err-nature
returns-in_err-nature c =
    let (e, q, g) = err_from_is_err_and c.from_residual.result c.from_residual.ensures.1 in
    decode_refused c.args.code.now c.args.s.now c.is_code.ensures c.if-not-is_code.false c.is_cut.ensures c.if-is_cut.false
    c.from_residual.result e q (g ∙ c.in_err-nature.ensures.refused) c.in_err-nature.ensures.variant

pub returns-then-not-is_filler_zero : goal.returns-then-not-is_filler_zero
returns-then-not-is_filler_zero c =
    decode_45 c.args.code.now c.args.s.now c.is_code.ensures c.if-not-is_code.false c.is_cut.ensures c.if-is_cut.false
    c.in_ok-nature.ensures.variant c.is_filler_zero.ensures c.if-not-is_filler_zero.true

pub returns-then-not-are_pairs : goal.returns-then-not-are_pairs
returns-then-not-are_pairs c =
    decode_46 c.args.code.now c.args.s.now c.is_code.ensures c.if-not-is_code.false c.is_cut.ensures c.if-is_cut.false
    c.in_ok-nature.ensures.variant c.is_filler_zero.ensures c.if-not-is_filler_zero.false c.rest.ensures.0 c.are_pairs.ensures c.if-not-are_pairs.true

pub returns : goal.returns
returns c =
    decode_is c.args.code.now c.args.s.now c.is_code.ensures c.if-not-is_code.false c.is_cut.ensures c.if-is_cut.false
    c.in_ok-nature.ensures.variant c.is_filler_zero.ensures c.if-not-is_filler_zero.false c.rest.ensures.0 c.are_pairs.ensures c.if-not-are_pairs.false
    c.in_ok-nature.ensures.fields.1 c.is_restricted.ensures c.caller_from.ensures
