-- The digits that are sent are digits, 15 at most (Encoding).
use Rattle.isup.proofs.Encoding.{are_digits, are_few, octets_are}
use borrow.Author.Rules.{rules}
use Rattle.isup.proofs.encode.encode.Goals as goal

pub push_pairs-requires : goal.push_pairs-requires
push_pairs-requires c = (search are_digits, search are_few, search rules)

pub returns : goal.returns
returns c = search octets_are
