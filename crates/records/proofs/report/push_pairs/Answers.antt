-- The pairs so far, and those that are left, are all (Pushing).
use Rattle.std.proofs.Common.{sym, ◌∙◌}
use Rattle.emit.proofs.Pushes.{pushed_append, pushed_nil}
use Rattle.records.proofs.Pushing.{pairs_next, pairs_done}
use Rattle.records.proofs.report.push_pairs.Goals as goal

pub loop-i-preserved : goal.loop-i-preserved
loop-i-preserved c = rw (c.push_pair.ensures, c.from.ensures, pushed_append, ← pairs_next c.args.refused.now c.loop-i.i c.loop-i-test.true) c.loop-i.invariant

pub returns : goal.returns
returns c = sym (pushed_nil 4096 c.loop-i.text) ∙ rw (pairs_done c.args.refused.now c.loop-i.i c.loop-i-test.false) at c.loop-i.invariant
