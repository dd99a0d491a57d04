-- By the test of the room.
use Rattle.emit.proofs.Numerals.{lowest_fit, lowest_full}
use Rattle.emit.proofs.put_lowest.Goals as goal

pub put_digits-requires : goal.put_digits-requires
put_digits-requires c = search lowest_fit

pub returns : goal.returns
returns c = search lowest_full
