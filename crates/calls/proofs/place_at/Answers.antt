-- By the list of all (Firsts).
use Rattle.calls.proofs.Firsts.{get_d_places}
use Rattle.calls.proofs.place_at.Goals as goal

pub returns : goal.returns
returns c = rw c.places.ensures (get_d_places c.args.k 32 c.args.table.now c.requires)
