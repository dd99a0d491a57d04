-- The pieces are the pair (Pushing).
use mathlib.Core.Path.{sym}
use mathlib.Core.List.{append_assoc}
use Rattle.emit.proofs.Pushes.{pushed_append, pushed_nil}
use Rattle.records.proofs.Pushing.{pair_none, pair_some}
use Rattle.records.proofs.report.push_pair.Goals as goal

pub returns-then-n-ne0 : goal.returns-then-n-ne0
returns-then-n-ne0 c =
    rw (pair_some c.args.reason c.args.n c.if-n-ne0.true)
    (simp (c.push_number.ensures, c.push.ensures, c.push_spaced.ensures, pushed_append, append_assoc))

pub returns-else-n-ne0 : goal.returns-else-n-ne0
returns-else-n-ne0 c = rw (pair_none c.args.reason c.args.n c.if-n-ne0.false) (sym (pushed_nil 4096 c.args.text.now))
