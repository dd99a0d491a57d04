-- A slice to the end is all that is left.
use Rattle.octets.proofs.Places.{drop_slice}
use borrow.Author.Rules.{rules}
use Rattle.values.proofs.scan.past.Goals as goal

pub returns : goal.returns
returns c = search (drop_slice, rules)
