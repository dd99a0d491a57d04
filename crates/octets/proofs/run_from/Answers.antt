-- `octets::run_from` meets its contract.
use mathlib.Core.Path.{◌≡◌}
use native.Mathlib.Omega.{arith}
use Rattle.octets.proofs.Runs.{loop_stop, loop_next, loop_over}
use Rattle.octets.proofs.run_from.Goals as goal

pub returns-then-not-in_class : goal.returns-then-not-in_class
returns-then-not-in_class c = search (loop_stop, arith)

pub loop-i-preserved : goal.loop-i-preserved
loop-i-preserved c = search (loop_next, arith)

pub returns : goal.returns
returns c =
    let e : c.max.result ≡ c.loop-i.i = omega arith in
    rw e (search (loop_over, arith))
