-- Each `return` is an arm's keys or a range between them: the two lemmas of `Arms`, and `past` above the last range.
use mathlib.Core.Path.{◌≡◌, ap}
use mathlib.Core.List.{List, [], ◌∷◌}
use Rattle.std.proofs.Common.{arith}
use Rattle.causes.specs.Causes.{Entry, entry, among, given, status_entries, status_of}
use Rattle.causes.specs.Answers.{above_zero}
use Rattle.causes.proofs.Arms.{Range, range, Right, above_at_key, above_in_range}
use Rattle.causes.proofs.Rows.{past}
use Rattle.causes.proofs.status_of_row.Goals as goal

abbrev arms : List Entry
arms =
    entry (5 ∷ 91 ∷ []) 404
    ∷ entry (17 ∷ []) 486
    ∷ entry (25 ∷ 31 ∷ 34 ∷ 102 ∷ []) 480
    ∷ entry (22 ∷ []) 410
    ∷ entry (27 ∷ []) 502
    ∷ entry (28 ∷ []) 484
    ∷ entry (29 ∷ 38 ∷ 47 ∷ 50 ∷ 63 ∷ 65 ∷ 70 ∷ 79 ∷ 88 ∷ 95 ∷ 97 ∷ 99 ∷ []) 503
    ∷ entry (1 ∷ []) 404
    ∷ entry (111 ∷ 127 ∷ []) 500
    ∷ []

abbrev ranges : List Range
ranges =
    range 0 1 0 ∷ range 1 5 503 ∷ range 5 17 0 ∷ range 17 22 480 ∷ range 22 41 0 ∷ range 41 45 503 ∷ range 45 57 0 ∷ range 57 59 503 ∷ []

right : Right status_of arms ranges
unfolding status_of given status_entries among
right = record { keys = tt; rest = tt }

pub returns-in-5 : goal.returns-in-5
returns-in-5 c = above_at_key right 0 _ c.in-5.is

pub returns-in-17 : goal.returns-in-17
returns-in-17 c = above_at_key right 1 _ c.in-17.is

pub returns-in-22 : goal.returns-in-22
returns-in-22 c = above_at_key right 3 _ c.in-22.is

pub returns-in-27 : goal.returns-in-27
returns-in-27 c = above_at_key right 4 _ c.in-27.is

pub returns-in-28 : goal.returns-in-28
returns-in-28 c = above_at_key right 5 _ c.in-28.is

pub returns-in-1 : goal.returns-in-1
returns-in-1 c = above_at_key right 7 _ c.in-1.is

pub returns-in-111 : goal.returns-in-111
returns-in-111 c = above_at_key right 8 _ c.in-111.is

pub returns-in_default : goal.returns-in_default
returns-in_default c = search (above_in_range right 0 c.args.row, arith)

pub returns-in_default-2 : goal.returns-in_default-2
returns-in_default-2 c = search (above_in_range right 2 c.args.row)

pub returns-in_default-3 : goal.returns-in_default-3
returns-in_default-3 c = search (above_in_range right 4 c.args.row)

pub returns-in_default-4 : goal.returns-in_default-4
returns-in_default-4 c = search (above_in_range right 6 c.args.row)

pub returns-in_default-5 : goal.returns-in_default-5
unfolding status_of status_entries
returns-in_default-5 c = let e : 0 ≡ status_of c.args.row = search (past 0 status_entries arms 59 tt) in ap above_zero e

pub returns-in-18-to-21 : goal.returns-in-18-to-21
returns-in-18-to-21 c = above_at_key right 2 _ c.in-18-to-21.in-18-to-21-own.keys3

pub returns-in-18-to-21-2 : goal.returns-in-18-to-21-2
returns-in-18-to-21-2 c = search (above_in_range right 3 c.args.row)

pub returns-in-2-to-4 : goal.returns-in-2-to-4
returns-in-2-to-4 c = above_at_key right 6 _ c.in-2-to-4.in-2-to-4-own.keys7

pub returns-in-2-to-4-2 : goal.returns-in-2-to-4-2
returns-in-2-to-4-2 c = search (above_in_range right 1 c.args.row)

pub returns-in-2-to-4-3 : goal.returns-in-2-to-4-3
returns-in-2-to-4-3 c = search (above_in_range right 5 c.args.row)

pub returns-in-2-to-4-4 : goal.returns-in-2-to-4-4
returns-in-2-to-4-4 c = search (above_in_range right 7 c.args.row)
