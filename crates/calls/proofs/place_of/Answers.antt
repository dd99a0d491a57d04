-- From the first place on that starts so (Firsts).
use Rattle.std.proofs.Common.{arith}
use Rattle.calls.specs.Places.{said}
use Rattle.calls.proofs.Firsts.{none_starts, none_says, one_says}
use Rattle.calls.proofs.place_of.Goals as goal

pub returns-in_err-start : goal.returns-in_err-start
returns-in_err-start c = none_starts _ _ (said c.args.pair) _ c.likely.ensures.0 c.in_err-start.was c.from_residual.ensures

pub returns-in_err-more : goal.returns-in_err-more
returns-in_err-more c =
    none_says _ _ (said c.args.pair) _ c.likely.ensures.0 c.in_ok-start.was c.places.ensures c.first_of.ensures (omega arith) c.in_err-more.was c.from_residual-in_err-more.ensures

pub returns : goal.returns
returns c = one_says _ _ (said c.args.pair) _ c.likely.ensures.0 c.in_ok-start.was c.places.ensures c.first_of.ensures (omega arith) c.in_ok-more.was
