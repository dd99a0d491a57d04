-- Place k is looked at (Spare).
use Rattle.std.proofs.Common.{rules}
use Rattle.calls.proofs.Spare.{passed_start, passed_again, passed_free, passed_next, passed_end}
use Rattle.calls.proofs.full.first_spare.Goals.{then-firsts-k-via-then-firsts-k, then-firsts-k-via-else-firsts-k+then-not-is_taken}
use Rattle.calls.proofs.full.first_spare.Goals as goal

pub loop-k-init : goal.loop-k-init
loop-k-init c = search (passed_start, rules)

pub loop-k-preserved : goal.loop-k-preserved
loop-k-preserved c = search (passed_next, rules)

pub returns : goal.returns
returns c = search (passed_end, rules)

pub returns-then-firsts-k : goal.returns-then-firsts-k
returns-then-firsts-k c =
    elim c.then-firsts-k.branch [
      | then-firsts-k-via-then-firsts-k w ↦ search (passed_again, rules)
      | then-firsts-k-via-else-firsts-k+then-not-is_taken w ↦ search (passed_free, rules)
    ]
