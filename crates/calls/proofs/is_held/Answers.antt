-- The pair is held where there is a place (Says).
use Rattle.std.proofs.Common.{rules}
use Rattle.calls.proofs.Says.{holder_held, held_below}
use Rattle.calls.proofs.is_held.Goals as goal

pub returns : goal.returns
returns c = search (holder_held, held_below, rules)
