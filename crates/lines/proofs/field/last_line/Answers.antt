-- The invariant: the value ends where what is left of it from `end` on does, and no value byte stands there. The measure is what is left of the text.
use borrow.Author.Rules.{rules}
use Rattle.lines.proofs.Values.{on_within, on_less, on_over, on_read, ends_at, ends_within, ends_badly}
use Rattle.lines.proofs.field.last_line.Goals as goal

pub loop-end-smaller : goal.loop-end-smaller
loop-end-smaller c = search on_less

pub loop-end-preserved : goal.loop-end-preserved
loop-end-preserved c = search (on_within, on_over, on_read)

pub returns-then-not-is_empty_line : goal.returns-then-not-is_empty_line
returns-then-not-is_empty_line c = search (ends_badly, rules)

pub returns : goal.returns
returns c = (search ends_at, search ends_within)
