-- The numbers that docs/DECISIONS.md names, for each case of the verdict.
use Rattle.std.specs.Prelude.{ℕ, Result, Ok, Err}
use Rattle.judgement.specs.declared.Refusal.{Refusal}
use Rattle.sip.specs.Refusals.{Answer, refusal}
use Rattle.gateway.specs.declared.Verdict.{Verdict}
use Rattle.gateway.specs.declared.Verdict.TheVariants.{Accepted, Refused}

-- "The verdict is a choice: accepted with its length, or refused with those numbers."
abbrev pub numbers_of : Verdict → Answer
numbers_of (Accepted n) = record { reason = 0; reply = 0; detail = 0; missing = 0; length = n }
numbers_of (Refused r) = refusal r.reason r.reply r.detail r.missing

-- and for each case of what the screening comes to
abbrev pub numbers_by : Result ℕ Refusal → Answer
numbers_by (Ok n) = numbers_of (Accepted n)
numbers_by (Err r) = numbers_of (Refused r)

-- the reason of a refusal; 0 where there is none
abbrev pub reason_by : Result Unit Refusal → ℕ
reason_by (Ok _) = 0
reason_by (Err r) = r.reason
