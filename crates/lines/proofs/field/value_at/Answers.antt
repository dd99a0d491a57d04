-- The value ends where what is left of it after its first line does.
use borrow.Author.Rules.{rules}
use Rattle.lines.proofs.Values.{line_over, bad_value, good_value}
use Rattle.lines.proofs.field.value_at.Goals as goal

pub value_end-requires : goal.value_end-requires
value_end-requires c = (search rules, search line_over)

pub returns-in_err-end : goal.returns-in_err-end
returns-in_err-end c = search (bad_value, rules)

pub returns : goal.returns
returns c = search (good_value, rules)
