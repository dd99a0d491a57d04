-- The invariant: what is found from place at on is the answer. The measure is what is left of the text.
use borrow.Author.Rules.{rules}
use Rattle.lines.proofs.Finds.{no_field, name_after, name_within, next_small, next_less, hit, next}
use Rattle.lines.proofs.find.after_line.Goals as goal

pub slice_bounds-same_text-count : goal.slice_bounds-same_text-count
slice_bounds-same_text-count c = search (name_after, rules)

pub slice_bounds-same_text-start : goal.slice_bounds-same_text-start
slice_bounds-same_text-start c = search (name_after, rules)

pub slice_bounds-same_text-end : goal.slice_bounds-same_text-end
slice_bounds-same_text-end c = search (name_within, rules)

pub returns-then-same_text : goal.returns-then-same_text
returns-then-same_text c = search (hit, rules)

pub overflow_add-at-in-Some : goal.overflow_add-at-in-Some
overflow_add-at-in-Some c = record { fits = search (next_small, rules) }

pub loop-f-smaller : goal.loop-f-smaller
loop-f-smaller c = search (next_less, rules)

pub loop-f-preserved : goal.loop-f-preserved
loop-f-preserved c = search (next, rules)

pub returns : goal.returns
returns c = search (no_field, rules)
