-- Two digits fill one octet at most (Encoding).
use Rattle.isup.proofs.Encoding.{digit_least, pair_product, pair_sum, one_packed, two_packed}
use borrow.Author.Rules.{rules}
use Rattle.isup.proofs.encode.octet_of.Goals as goal

pub overflow_sub-result : goal.overflow_sub-result
overflow_sub-result c = search (digit_least, rules)

pub overflow_sub-result-in-len2 : goal.overflow_sub-result-in-len2
overflow_sub-result-in-len2 c = search (digit_least, rules)

pub overflow_sub-result-in-len2-2 : goal.overflow_sub-result-in-len2-2
overflow_sub-result-in-len2-2 c = search (digit_least, rules)

pub overflow_mul-result : goal.overflow_mul-result
overflow_mul-result c = search (pair_product, rules)

pub overflow_add-result : goal.overflow_add-result
overflow_add-result c = search (pair_sum, rules)

pub returns-in-len1 : goal.returns-in-len1
returns-in-len1 c = search (one_packed, rules)

pub returns-in-len2 : goal.returns-in-len2
returns-in-len2 c = search (two_packed, rules)
