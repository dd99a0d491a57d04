-- One place more is as it shall be (Removing).
use Rattle.std.proofs.Common.{rules}
use Rattle.calls.proofs.Removing.{cleared_start, cleared_skip, cleared_next, cleared_end}
use Rattle.calls.proofs.clear.Goals.{then-is_at, else-is_at}
use Rattle.calls.proofs.clear.Goals as goal

pub loop-k-init : goal.loop-k-init
loop-k-init c = search (cleared_start, rules)

pub loop-k-preserved : goal.loop-k-preserved
loop-k-preserved c = elim c.if-is_at.branch [ then-is_at w ↦ rw w.table-is (search (cleared_next, rules)) | else-is_at w ↦ rw w.table-is (search (cleared_skip, rules)) ]

pub returns : goal.returns
returns c = search (cleared_end, rules)
