-- What judging found and what the table says, case by case (Top).
use mathlib.Core.Path.{refl}
use native.Mathlib.Omega.{arith}
use Rattle.std.proofs.lemmas.Result.{err_from_is_err_and}
use Rattle.gateway.specs.CallStates.{side_number}
use Rattle.gateway.proofs.CallStates.{too_many_alone}
use Rattle.gateway.proofs.Top.{side_low, other_side, judged_refused, judged_most, away}
use Rattle.gateway.proofs.Top.{refused_reason, refused_calls, goes_reason, goes_calls}
use Rattle.gateway.proofs.remembering.Goals as goal

pub returns-in_err-to : goal.returns-in_err-to
returns-in_err-to c =
    let p = err_from_is_err_and c.from_residual.result c.from_residual.ensures.1 in
    let v = other_side c.args.message.now c.args.side c.args.table.now c.in_err-to.ensures in
    rw (p.1, p.2) (refused_reason _ _ _ v, rw c.in_err-to.ensures.1 (omega arith), refused_calls _ _ _ v)

pub returns-in_err-judged : goal.returns-in_err-judged
returns-in_err-judged c =
    let p = err_from_is_err_and c.from_residual-in_err-judged.result c.from_residual-in_err-judged.ensures.1 in
    let v = judged_refused c.args.message.now c.args.side c.args.table.now (side_low c.in_ok-to.to c.in_ok-to.ensures) c.in_err-judged.ensures.judges in
    rw (p.1, p.2) (refused_reason _ _ _ v, judged_most _ c.in_err-judged.ensures.judges, refused_calls _ _ _ v)

pub returns-in_err-state : goal.returns-in_err-state
returns-in_err-state c =
    let p = err_from_is_err_and c.from_residual-in_err-state.result c.from_residual-in_err-state.ensures.1 in
    let to = c.in_ok-to.to in
    let x = away c.args.message.now c.judge.new.slots c.in_ok-judged.ensures.judges (side_number to) (side_low to refl) c.args.table.now c.in_err-state.ensures refl in
    let v = rw (c.in_ok-to.ensures) at x in
    rw (p.1, p.2) (refused_reason _ _ _ v, too_many_alone c.args.message.now c.judge.new.slots (side_number to) c.in_ok-judged.judged c.args.table.now c.in_err-state.ensures, refused_calls _ _ _ v)

pub returns : goal.returns
returns c =
    let to = c.in_ok-to.to in
    let t = c.args.table.now in
    let x = goes_reason c.args.message.now c.judge.new.slots c.in_ok-judged.ensures.judges (side_number to) (side_low to refl) t c.in_ok-state.ensures refl in
    let z = goes_calls c.args.message.now c.judge.new.slots c.in_ok-judged.ensures.judges (side_number to) (side_low to refl) t c.in_ok-state.ensures refl c.change.ensures in
    (rw (c.in_ok-to.ensures) at x, omega arith, rw (c.in_ok-to.ensures) at z)
