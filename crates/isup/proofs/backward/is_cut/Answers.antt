-- By the length and the bit of odd/even (Decoding).
use Rattle.isup.proofs.Decoding.{cut_short, cut_bare, cut_not}
use borrow.Author.Rules.{rules}
use Rattle.isup.proofs.backward.is_cut.Goals as goal

pub returns-in-empty : goal.returns-in-empty
returns-in-empty c = search (cut_short, rules)

pub returns-in-len2 : goal.returns-in-len2
returns-in-len2 c = search (cut_bare, rules)

pub returns-in_default : goal.returns-in_default
returns-in_default c = search (cut_not, rules)
