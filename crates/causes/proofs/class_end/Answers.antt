-- Each `return` but the last is a range, `in_range` of `Arms`; no class ends above the last.
use mathlib.Core.Path.{◌≡◌, ap}
use mathlib.Core.List.{List, [], ◌∷◌}
use Rattle.std.proofs.Common.{arith}
use Rattle.causes.specs.Causes.{class_ends, next_above}
use Rattle.causes.specs.Answers.{above_zero}
use Rattle.causes.proofs.Arms.{Range, range, Right, above_in_range}
use Rattle.causes.proofs.Rows.{none_above}
use Rattle.causes.proofs.class_end.Goals as goal

abbrev ranges : List Range
ranges = range 0 31 31 ∷ range 31 47 47 ∷ range 47 63 63 ∷ range 63 79 79 ∷ range 79 95 95 ∷ range 95 111 111 ∷ range 111 127 127 ∷ []

right : Right (next_above class_ends) [] ranges
unfolding next_above class_ends
right = record { keys = tt; rest = tt }

pub returns-in-0-to-30 : goal.returns-in-0-to-30
returns-in-0-to-30 c = search (above_in_range right 0 c.args.cause, arith)

pub returns-in-31-to-46 : goal.returns-in-31-to-46
returns-in-31-to-46 c = search (above_in_range right 1 c.args.cause)

pub returns-in-47-to-62 : goal.returns-in-47-to-62
returns-in-47-to-62 c = search (above_in_range right 2 c.args.cause)

pub returns-in-63-to-78 : goal.returns-in-63-to-78
returns-in-63-to-78 c = search (above_in_range right 3 c.args.cause)

pub returns-in-79-to-94 : goal.returns-in-79-to-94
returns-in-79-to-94 c = search (above_in_range right 4 c.args.cause)

pub returns-in-95-to-110 : goal.returns-in-95-to-110
returns-in-95-to-110 c = search (above_in_range right 5 c.args.cause)

pub returns-in-111-to-126 : goal.returns-in-111-to-126
returns-in-111-to-126 c = search (above_in_range right 6 c.args.cause)

pub returns-in_default : goal.returns-in_default
unfolding class_ends
returns-in_default c = let e : 0 ≡ next_above class_ends c.args.cause = search (none_above class_ends 127 tt) in ap above_zero e
