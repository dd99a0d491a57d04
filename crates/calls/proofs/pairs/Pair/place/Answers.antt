-- Two texts are put between zeros (Placing).
use Rattle.std.proofs.Common.{rules}
use Rattle.calls.proofs.Placing.{place_made}
use Rattle.calls.proofs.pairs.Pair.place.Goals as goal

pub returns : goal.returns
returns c = search (place_made, rules)
