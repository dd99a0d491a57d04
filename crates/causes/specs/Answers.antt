-- What the code answers, and the numbers of the page that it stands for.
use Rattle.std.specs.Prelude.{Option, Some, None, Result, Ok, Err, cond, ℕ, eqb, option_map, option_and_then}
use Rattle.causes.specs.declared.Refusal.{Refusal}
use Rattle.causes.specs.declared.Refusal.TheVariants.{Cause, Status}
use Rattle.causes.specs.declared.StatusRow.{StatusRow}
use Rattle.causes.specs.declared.StatusAnswer.{StatusAnswer}
use Rattle.causes.specs.declared.CauseAnswer.{CauseAnswer}
use Rattle.causes.specs.Causes.{class_ends, next_above, status_of}

-- 0 says that there is none
abbrev pub above_zero : ℕ → Option ℕ
above_zero n = cond (eqb n 0) None (Some n)

-- the row of a listed cause
abbrev pub listed_row : ℕ → Option StatusRow
listed_row c = option_map (λ (s : ℕ). record { status = s; row = c }) (above_zero (status_of c))

-- the row of the class end next above a cause
abbrev pub end_row : ℕ → Option StatusRow
end_row c = option_and_then listed_row (above_zero (next_above class_ends c))

-- "refusal 21" and "refusal 22"
abbrev pub refusal_number : Refusal → ℕ
refusal_number Cause = 21
refusal_number Status = 22

-- status, row and refusal: "status 0" and row 0 at a refusal
abbrev pub status_answer : Result StatusRow Refusal → StatusAnswer
status_answer (Ok a) = record { status = a.status; row = a.row; refusal = 0 }
status_answer (Err e) = record { status = 0; row = 0; refusal = refusal_number e }

-- cause and refusal: "cause 0" at a refusal
abbrev pub cause_answer : Result ℕ Refusal → CauseAnswer
cause_answer (Ok c) = record { cause = c; refusal = 0 }
cause_answer (Err e) = record { cause = 0; refusal = refusal_number e }
