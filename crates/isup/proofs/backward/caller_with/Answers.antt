-- The number is one of the profile, or it is not (Decoding).
use Rattle.isup.proofs.Decoding.{number_47, number_good}
use borrow.Author.Rules.{rules}
use Rattle.isup.proofs.backward.caller_with.Goals as goal

pub returns-then-not-is_global : goal.returns-then-not-is_global
returns-then-not-is_global c = search (number_47, rules)

pub returns : goal.returns
returns c = search (number_good, rules)
