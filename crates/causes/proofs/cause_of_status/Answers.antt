-- The bounds decide which answer it is; the callee promises the cause.
use Rattle.std.proofs.Common.{arith}
use Rattle.causes.specs.Causes.{cause}
use Rattle.causes.proofs.cause_of_status.Goals as goal

pub returns-in-400-to-699 : goal.returns-in-400-to-699
unfolding cause
returns-in-400-to-699 c = grind arith

pub returns-in_default : goal.returns-in_default
unfolding cause
returns-in_default c = grind arith

pub returns-in_default-2 : goal.returns-in_default-2
unfolding cause
returns-in_default-2 c = grind arith
