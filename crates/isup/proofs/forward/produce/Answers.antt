-- What judging found, and then the refusals in their order, or the calling number (Producing).
use Rattle.std.proofs.Common.{ap, ◌∙◌}
use Rattle.std.specs.Prelude.{Err}
use Rattle.std.proofs.lemmas.Result.{err_from_is_err_and}
use Rattle.judgement.proofs.Counted.{count_is}
use Rattle.isup.specs.Views.{parameter_in}
use Rattle.isup.proofs.Producing.{gives_own, gives_42, gives_41, number_good, gives_parameter}
use Rattle.isup.proofs.forward.produce.Goals as goal

pub returns-in_err-j : goal.returns-in_err-j
returns-in_err-j c =
    let (e, q, g) = err_from_is_err_and c.from_residual.result c.from_residual.ensures.1 in
    ap parameter_in (q ∙ ap Err g) ∙ gives_own c.args.message.now c.args.code.now c.args.home c.in_err-j.ensures.judges

pub is_initial-requires : goal.is_initial-requires
is_initial-requires c = (c.in_ok-j.ensures.judges, c.judge.ensures.index, count_is c.args.message.now c.in_ok-j.ensures.answer)

pub returns-then-not-is_initial : goal.returns-then-not-is_initial
returns-then-not-is_initial c =
    gives_42 c.args.message.now c.args.code.now c.args.home c.in_ok-j.ensures.judges c.is_initial.ensures c.if-not-is_initial.true

pub returns-then-not-is_code : goal.returns-then-not-is_code
returns-then-not-is_code c =
    gives_41 c.args.message.now c.args.code.now c.args.home c.in_ok-j.ensures.judges c.is_initial.ensures c.if-not-is_initial.false
    c.is_code.ensures c.if-not-is_code.true

pub encode-requires : goal.encode-requires
encode-requires c =
    number_good c.args.message.now c.args.code.now c.args.home c.in_ok-j.ensures.judges c.is_initial.ensures c.if-not-is_initial.false
    c.calling_number.ensures.1

pub returns : goal.returns
returns c =
    gives_parameter c.args.message.now c.args.code.now c.args.home c.in_ok-j.ensures.judges c.is_initial.ensures c.if-not-is_initial.false
    c.is_code.ensures c.if-not-is_code.false c.calling_number.ensures.1 c.encode.ensures
