-- Each `return` is an arm's keys or a range between them: the two lemmas of `Arms`, and `past` above the last range.
use mathlib.Core.List.{List, [], ◌∷◌}
use Rattle.std.proofs.Common.{arith}
use Rattle.causes.specs.Causes.{Entry, entry, among, given, cause_entries, cause_of}
use Rattle.causes.proofs.Arms.{Range, range, Right, at_key, in_range}
use Rattle.causes.proofs.Rows.{past}
use Rattle.causes.proofs.cause_within.Goals as goal

abbrev arms : List Entry
arms =
    entry (404 ∷ 485 ∷ 604 ∷ []) 1
    ∷ entry (486 ∷ 600 ∷ []) 17
    ∷ entry (480 ∷ []) 18
    ∷ entry (407 ∷ 603 ∷ []) 21
    ∷ entry (410 ∷ []) 22
    ∷ entry (484 ∷ []) 28
    ∷ entry (502 ∷ []) 38
    ∷ entry (400 ∷ 481 ∷ 500 ∷ 503 ∷ []) 41
    ∷ entry (405 ∷ []) 63
    ∷ entry (406 ∷ 415 ∷ 501 ∷ []) 79
    ∷ entry (408 ∷ 504 ∷ []) 102
    ∷ []

abbrev ranges : List Range
ranges = range 0 400 127 ∷ range 400 404 21 ∷ range 404 480 127 ∷ range 480 484 25 ∷ []

right : Right cause_of arms ranges
unfolding cause_of given cause_entries among
right = record { keys = tt; rest = tt }

pub returns-in-404 : goal.returns-in-404
returns-in-404 c = at_key right 0 c.in-404.is

pub returns-in-486 : goal.returns-in-486
returns-in-486 c = at_key right 1 c.in-486.is

pub returns-in-480 : goal.returns-in-480
returns-in-480 c = at_key right 2 c.in-480.is

pub returns-in-410 : goal.returns-in-410
returns-in-410 c = at_key right 4 c.in-410.is

pub returns-in-484 : goal.returns-in-484
returns-in-484 c = at_key right 5 c.in-484.is

pub returns-in-502 : goal.returns-in-502
returns-in-502 c = at_key right 6 c.in-502.is

pub returns-in-400 : goal.returns-in-400
returns-in-400 c = at_key right 7 c.in-400.is

pub returns-in-405 : goal.returns-in-405
returns-in-405 c = at_key right 8 c.in-405.is

pub returns-in-406 : goal.returns-in-406
returns-in-406 c = at_key right 9 c.in-406.is

pub returns-in-408 : goal.returns-in-408
returns-in-408 c = at_key right 10 c.in-408.is

pub returns-in-482-to-483 : goal.returns-in-482-to-483
returns-in-482-to-483 c = search (in_range right 3)

pub returns-in_default : goal.returns-in_default
returns-in_default c = search (in_range right 0, arith)

pub returns-in_default-2 : goal.returns-in_default-2
returns-in_default-2 c = search (in_range right 2)

pub returns-in_default-3 : goal.returns-in_default-3
unfolding cause_of cause_entries
returns-in_default-3 c = search (past 127 cause_entries arms 484 tt)

pub returns-in-401-to-403 : goal.returns-in-401-to-403
returns-in-401-to-403 c = at_key right 3 c.in-401-to-403.in-401-to-403-own.keys4

pub returns-in-401-to-403-2 : goal.returns-in-401-to-403-2
returns-in-401-to-403-2 c = search (in_range right 1)
