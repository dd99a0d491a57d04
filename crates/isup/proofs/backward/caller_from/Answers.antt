-- A number that is too long is none (Decoding).
use Rattle.isup.proofs.Decoding.{far_47, total_47, caller_is}
use borrow.Author.Rules.{rules}
use Rattle.isup.proofs.backward.caller_from.Goals as goal

pub returns-then-s-gt10 : goal.returns-then-s-gt10
returns-then-s-gt10 c = search far_47

pub returns-then-prefix-n-gt16 : goal.returns-then-prefix-n-gt16
returns-then-prefix-n-gt16 c = search (total_47, rules)

pub returns : goal.returns
returns c = search caller_is
