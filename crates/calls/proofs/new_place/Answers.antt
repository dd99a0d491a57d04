-- The first of two (Spare, Firsts).
use Rattle.std.proofs.Common.{rules}
use Rattle.calls.proofs.Firsts.{found_within}
use Rattle.calls.proofs.Spare.{new_empty, new_spare_place}
use Rattle.calls.proofs.new_place.Goals as goal

pub returns-in-Some : goal.returns-in-Some
returns-in-Some c = search (new_empty, found_within, rules)

pub returns-in-None : goal.returns-in-None
returns-in-None c = search (new_spare_place, rules)
