-- The answers and the fields as the code has them, and what they stand for.
use Rattle.std.specs.Prelude.{Bool, true, false, ℕ, Result, Ok, Err}
use Rattle.causes.specs.Answers.{refusal_number as cause_refusal}
use Rattle.causes.specs.declared.Refusal.{Refusal as CauseRefusal}
use Rattle.judgement.specs.declared.Refusal.{Refusal}
use Rattle.isup.specs.declared.bytes.ShortBytes.{ShortBytes}
use Rattle.isup.specs.declared.Caller.{Caller}
use Rattle.isup.specs.declared.NoCaller.{NoCaller}
use Rattle.isup.specs.declared.NoCaller.TheVariants.{BadCode, CutShort, Field, Filler, Digit, Number}
use Rattle.isup.specs.declared.NoParameter.{NoParameter}
use Rattle.isup.specs.declared.NoParameter.TheVariants.{Screen, NoInitialInvite, BadCode as CodeRefused}
use Rattle.isup.specs.declared.fields.Nature.{Nature}
use Rattle.isup.specs.declared.fields.Nature.TheVariants.{National, International}
use Rattle.isup.specs.declared.fields.Presentation.{Presentation}
use Rattle.isup.specs.declared.fields.Presentation.TheVariants.{Allowed, Restricted}
use Rattle.isup.specs.Answers.{Parameter, Caller as CallerNumbers, Status}
use Rattle.isup.specs.Forward.{no_parameter, parameter_of}
use Rattle.isup.specs.Backward.{no_caller, caller_with}
use Rattle.isup.specs.Held.{held}

-- ---- the parameter

abbrev own : ℕ → Refusal
own reason = record { reason = reason; reply = 0; detail = 0; missing = 0 }

abbrev pub screens_refusal : NoParameter → Refusal
screens_refusal (Screen r) = r
screens_refusal NoInitialInvite = own 42
screens_refusal CodeRefused = own 41

abbrev no_parameter_for : Refusal → Parameter
no_parameter_for r = no_parameter r.reason r.reply r.detail r.missing

abbrev pub parameter_in : Result (ShortBytes 10) NoParameter → Parameter
parameter_in (Ok octets) = parameter_of (held octets)
parameter_in (Err e) = no_parameter_for (screens_refusal e)

-- ---- the caller

abbrev pub refusal_number : NoCaller → ℕ
refusal_number BadCode = 41
refusal_number CutShort = 43
refusal_number Field = 44
refusal_number Filler = 45
refusal_number Digit = 46
refusal_number Number = 47

abbrev pub caller_in : Result Caller NoCaller → CallerNumbers
caller_in (Ok c) = caller_with c.id (held c.number)
caller_in (Err e) = no_caller (refusal_number e)

-- ---- the status of a cause

abbrev pub status_in : Result ℕ CauseRefusal → Status
status_in (Ok status) = record { status = status; refusal = 0 }
status_in (Err e) = record { status = 0; refusal = cause_refusal e }

-- ---- the fields

abbrev pub nature_number : Nature → ℕ
nature_number National = 3
nature_number International = 4

abbrev pub is_national_nature : Nature → Bool
is_national_nature National = true
is_national_nature International = false

-- octet 2, in which every other field is as it is named
abbrev pub presentation_octet : Presentation → ℕ
presentation_octet Allowed = 19
presentation_octet Restricted = 23
