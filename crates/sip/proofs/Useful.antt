-- No useless version equals `screened`: the first two starred rows tell them apart, the table after the first, and a BYE with its pair held and
-- without.
use mathlib.Core.Path.{◌≡◌, refl, sym, ap, ◌∙◌}
use mathlib.Core.List.{List, [], ◌∷◌}
use Prim.Native.Nat.{ℕ}
use native.Mathlib.Omega.{arith}
use lib.ListN.{get_or}
use Rattle.octets.specs.Classes.{text}
use Rattle.sip.specs.Calls.{none_held}
use Rattle.sip.specs.Screen.{screened}
use Rattle.sip.specs.Starred.{lines_of, call, printed, blank_buffer, Given, Case, Holds, starred, AllHold, row}
use Rattle.sip.specs.CallCases.{request_of, filled}
use Rattle.sip.specs.Promises.{NotConstant, NotRefusing, NotUntouched, NotForgetful, NotBlind}
use Rattle.sip.proofs.Starred.{computed, starred_hold}

first : {c : Case} {cs : List Case} → AllHold (c ∷ cs) → Holds c
first (row e es) = e

others : {c : Case} {cs : List Case} → AllHold (c ∷ cs) → AllHold cs
others (row e es) = es

accepts : (screened call 1 none_held (blank_buffer 9216)).answer.reason ≡ 0
unfolding starred
accepts = ap (λ (s : Given). s.answer.reason) (first starred_hold)

refuses : (screened [] 1 none_held (blank_buffer 9216)).answer.reason ≡ 3
unfolding starred
refuses = ap (λ (s : Given). s.answer.reason) (first (others starred_hold))

writes : get_or (screened call 1 none_held (blank_buffer 9216)).buffer 0 0 ≡ 73
unfolding starred printed lines_of text
writes = ap (λ (s : Given). get_or s.buffer 0 0) (first starred_hold)

remembers : get_or (screened call 1 none_held (blank_buffer 9216)).table 0 0 ≡ 16
unfolding computed
remembers = refl

-- a BYE goes out with `"` or with `<` for the first byte of From, as its pair is held or not
bye : List ℕ
bye = request_of "BYE sip:112@h SIP/2.0" "From: <sip:+33187654321@h>;tag=a1" "To: sip:h;tag=b2" "Call-ID: 8" ("CSeq: 3 BYE" ∷ [])

masked : get_or (screened bye 1 (filled 32 33) (blank_buffer 200)).buffer 54 0 ≡ 34
unfolding computed request_of filled bye
masked = refl

bare : get_or (screened bye 1 none_held (blank_buffer 200)).buffer 54 0 ≡ 60
unfolding computed request_of bye
bare = refl

pub not_constant : NotConstant
not_constant a h =
    let same : (screened call 1 none_held (blank_buffer 9216)).answer ≡ (screened [] 1 none_held (blank_buffer 9216)).answer
    = h call 1 none_held (blank_buffer 9216) ∙ sym (h [] 1 none_held (blank_buffer 9216)) in
    omega (arith, ap (λ a. a.reason) same, accepts, refuses)

pub not_refusing : NotRefusing
not_refusing h = omega (arith, h call 1 none_held (blank_buffer 9216), accepts)

pub not_untouched : NotUntouched
unfolding blank_buffer
not_untouched h = omega (arith, ap (λ (b : List ℕ). get_or b 0 0) (h call 1 none_held (blank_buffer 9216)), writes)

pub not_forgetful : NotForgetful
unfolding none_held
not_forgetful h = omega (arith, ap (λ (t : List ℕ). get_or t 0 0) (h call 1 none_held (blank_buffer 9216)), remembers)

pub not_blind : NotBlind
not_blind h = omega (arith, ap (λ (b : List ℕ). get_or b 54 0) (h bye 1 (filled 32 33) none_held (blank_buffer 200)), masked, bare)
