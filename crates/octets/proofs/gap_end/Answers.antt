-- `octets::gap_end` meets its contract.
use mathlib.Core.Path.{◌≡◌}
use native.Mathlib.Omega.{arith}
use Rattle.octets.proofs.Runs.{loop_stop, loop_next, loop_over}
use Rattle.octets.proofs.gap_end.Goals as goal

pub returns-then-not-is_gap : goal.returns-then-not-is_gap
returns-then-not-is_gap c = search (loop_stop, arith)

pub loop-i-preserved : goal.loop-i-preserved
loop-i-preserved c = search (loop_next, arith)

pub returns : goal.returns
returns c =
    let e : c.max.result ≡ c.loop-i.i = omega arith in
    rw e (search (loop_over, arith))
