-- By std's chunks (Firsts).
use Rattle.std.proofs.Common.{rules}
use Rattle.calls.proofs.Firsts.{places_are}
use Rattle.calls.proofs.places.Goals as goal

pub returns : goal.returns
returns c = search (places_are, rules)
