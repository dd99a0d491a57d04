-- Each part is as long as its end says.
use lib.Seq.{length-take-le, length_front}
use borrow.Author.Rules.{rules}
use Rattle.isup_vectors.proofs.case.Goals as goal

pub slice_bounds-read_full-end : goal.slice_bounds-read_full-end
slice_bounds-read_full-end c = search (length-take-le, length_front, rules)

pub slice_bounds-read_full-end-3 : goal.slice_bounds-read_full-end-3
slice_bounds-read_full-end-3 c = search (length-take-le, length_front, rules)

pub slice_bounds-read_full-end-4 : goal.slice_bounds-read_full-end-4
slice_bounds-read_full-end-4 c = search (length-take-le, length_front, rules)

pub slice_bounds-read_full-end-6 : goal.slice_bounds-read_full-end-6
slice_bounds-read_full-end-6 c = search (length-take-le, length_front, rules)
