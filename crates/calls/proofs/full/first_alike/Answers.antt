-- Place j is looked at (Parts).
use Rattle.std.proofs.Common.{rules}
use Rattle.calls.proofs.Parts.{reached_none, reached_within, reached_start, reached_here, reached_later, reached_other, reached_end}
use Rattle.calls.proofs.full.first_alike.Goals.{else-firsts-j-via-then-firsts-j+else-joins, else-firsts-j-via-else-firsts-j}
use Rattle.calls.proofs.full.first_alike.Goals as goal

pub returns-then-n-lt1 : goal.returns-then-n-lt1
returns-then-n-lt1 c = search (reached_none, rules)

pub loop-j-init : goal.loop-j-init
loop-j-init c = search (reached_start, rules)

pub returns-then-joins : goal.returns-then-joins
returns-then-joins c = search (reached_here, rules)

pub loop-j-preserved : goal.loop-j-preserved
loop-j-preserved c =
    elim c.else-firsts-j.branch [
      | else-firsts-j-via-then-firsts-j+else-joins w ↦ search (reached_later, rules)
      | else-firsts-j-via-else-firsts-j w ↦ search (reached_other, rules)
    ]

pub returns : goal.returns
returns c = search (reached_end, reached_within, rules)
