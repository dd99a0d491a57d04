-- What judging found and what the table says, case by case (Top).
use mathlib.Core.Path.{refl}
use Rattle.std.proofs.lemmas.Result.{err_from_is_err_and}
use Rattle.gateway.specs.CallStates.{side_number}
use Rattle.gateway.proofs.Top.{side_low, other_side, judged_refused, away}
use Rattle.gateway.proofs.Top.{refused_answer, refused_buffer, refused_table, goes_answer, goes_buffer, goes_table}
use Rattle.gateway.proofs.screening.Goals as goal

pub returns-in_err-to : goal.returns-in_err-to
returns-in_err-to c =
    let p = err_from_is_err_and c.from_residual.result c.from_residual.ensures.1 in
    let v = other_side c.args.message.now c.args.side c.args.table.now c.in_err-to.ensures in
    let d = c.args.out.now in
    rw (p.1, p.2) (refused_answer _ _ _ v d, refused_buffer _ _ _ v d, refused_table _ _ _ v d)

pub returns-in_err-judged : goal.returns-in_err-judged
returns-in_err-judged c =
    let p = err_from_is_err_and c.from_residual-in_err-judged.result c.from_residual-in_err-judged.ensures.1 in
    let v = judged_refused c.args.message.now c.args.side c.args.table.now (side_low c.in_ok-to.to c.in_ok-to.ensures) c.in_err-judged.ensures.judges in
    let d = c.args.out.now in
    rw (p.1, p.2) (refused_answer _ _ _ v d, refused_buffer _ _ _ v d, refused_table _ _ _ v d)

pub returns-in_err-state : goal.returns-in_err-state
returns-in_err-state c =
    let p = err_from_is_err_and c.from_residual-in_err-state.result c.from_residual-in_err-state.ensures.1 in
    let to = c.in_ok-to.to in
    let x = away c.args.message.now c.judge.new.slots c.in_ok-judged.ensures.judges (side_number to) (side_low to refl) c.args.table.now c.in_err-state.ensures refl in
    let v = rw (c.in_ok-to.ensures) at x in
    let d = c.args.out.now in
    rw (p.1, p.2) (refused_answer _ _ _ v d, refused_buffer _ _ _ v d, refused_table _ _ _ v d)

pub returns : goal.returns
returns c =
    let to = c.in_ok-to.to in
    let d = c.args.out.now in
    let t = c.args.table.now in
    let x = goes_answer c.args.message.now c.judge.new.slots c.in_ok-judged.ensures.judges (side_number to) (side_low to refl) t c.in_ok-state.ensures refl d c.deliver.result c.deliver.ensures.0 in
    let y = goes_buffer c.args.message.now c.judge.new.slots c.in_ok-judged.ensures.judges (side_number to) (side_low to refl) t c.in_ok-state.ensures refl d c.deliver.ensures.1 in
    let z = goes_table c.args.message.now c.judge.new.slots c.in_ok-judged.ensures.judges (side_number to) (side_low to refl) t c.in_ok-state.ensures refl d c.deliver.ensures.2 in (
      rw (c.in_ok-to.ensures) at x,
      rw (c.in_ok-to.ensures) at y,
      rw (c.in_ok-to.ensures) at z,
    )
