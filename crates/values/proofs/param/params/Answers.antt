-- One law for the end and for a turn.
use native.Mathlib.Omega.{arith}
use Rattle.values.proofs.Params.{stop, again}
use Rattle.values.proofs.param.params.Goals as goal

pub loop-p-preserved : goal.loop-p-preserved
loop-p-preserved c = search (again, arith)

pub returns : goal.returns
returns c = search (stop, arith)
