-- Two signals to an octet, one less where their number is odd (Decoding).
use Rattle.isup.proofs.Decoding.{long_enough, count_some}
use borrow.Author.Rules.{rules}
use Rattle.isup.proofs.backward.signal_count.Goals as goal

pub overflow_sub-n : goal.overflow_sub-n
overflow_sub-n c = search (long_enough, rules)

pub bounds-s-0 : goal.bounds-s-0
bounds-s-0 c = search (long_enough, rules)

pub overflow_sub-result : goal.overflow_sub-result
overflow_sub-result c = search (count_some, rules)
