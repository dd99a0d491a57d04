-- The lines so far, and those that are left, are all.
use Rattle.std.proofs.Common.{sym, ◌∙◌}
use Rattle.emit.proofs.Pushes.{pushed_append, pushed_nil}
use Rattle.cause_text.proofs.Columns.{table_step, table_done}
use Rattle.cause_text.proofs.table.push_table.Goals as goal

pub loop-cause-preserved : goal.loop-cause-preserved
loop-cause-preserved c = rw (c.push_line.ensures, pushed_append, ← table_step c.loop-cause.cause c.loop-cause-test.true) c.loop-cause.invariant

pub returns : goal.returns
returns c = sym (pushed_nil 1792 c.loop-cause.text) ∙ rw (table_done c.loop-cause.cause c.loop-cause-test.false) at c.loop-cause.invariant
