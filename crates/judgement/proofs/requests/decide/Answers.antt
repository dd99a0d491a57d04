-- The reasons 7 and 8, where neither applies those of both kinds, and where none of them applies those after.
use Rattle.std.proofs.lemmas.Result.{err_from_is_err_and}
use Rattle.judgement.proofs.Decisions.{stop_early, stop_shared, go_on}
use Rattle.judgement.proofs.requests.decide.Goals as goal

pub returns-in_err-early : goal.returns-in_err-early
returns-in_err-early c =
    let p = err_from_is_err_and c.from_residual.result c.from_residual.ensures.1 in
    rw (p.1, p.2) (stop_early c.args.c c.args.t c.args.u c.args.rest c.in_err-early.ensures)

pub returns-in_err-shared : goal.returns-in_err-shared
returns-in_err-shared c =
    let p = err_from_is_err_and c.from_residual-in_err-shared.result c.from_residual-in_err-shared.ensures.1 in
    rw (p.1, p.2)
    (stop_shared c.args.c c.args.t c.args.u c.args.rest c.in_ok-early.ensures c.tagged_column-column.ensures c.in_err-shared.ensures)

pub returns : goal.returns
returns c =
    go_on c.args.c c.args.t c.args.u c.args.rest c.in_ok-early.ensures c.tagged_column-column.ensures c.in_ok-shared.ensures
    c.late.ensures
