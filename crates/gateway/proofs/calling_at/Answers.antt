-- A bad trunk number, or what judging found (Callers).
use mathlib.Core.Path.{sym, ◌∙◌}
use Rattle.gateway.proofs.Callers.{bad_trunk, refused_caller, of_error}
use Rattle.gateway.proofs.calling_at.Goals as goal

pub returns-then-not-is_global : goal.returns-then-not-is_global
returns-then-not-is_global c = bad_trunk c.args.message.now c.args.trunk.now (sym c.is_global.ensures ∙ c.if-not-is_global.true)

pub returns-in_err-judged : goal.returns-in_err-judged
returns-in_err-judged c =
    let e = of_error _ _ c.judge.result c.ok.ensures.value c.in_err-judged.was c.judge.ensures.judges in
    rw c.from_residual.ensures (refused_caller c.args.message.now c.args.trunk.now (sym c.is_global.ensures ∙ c.if-not-is_global.false) e.1)
