-- One law for each method: a value that names it is a CSeq with it.
use mathlib.Core.Path.{◌≡◌, refl, sym, ◌∙◌}
use mathlib.Core.Bool.{Bool, true, false, cond}
use mathlib.Core.List.{List, [], ◌∷◌}
use Prim.Native.Nat.{ℕ, ◌<◌}
use native.Mathlib.Omega.{arith}
use lib.ListN.{length}
use Rattle.octets.specs.Classes.{text, within, is_token}
use Rattle.octets.specs.Scans.{all, same}
use Rattle.sip.specs.declared.Column.{Column}
use Rattle.sip.specs.declared.Column.TheVariants.{InviteSuccess, CancelResponse, OtherResponse}
use Rattle.sip.specs.Profile.{response_column}
use Rattle.sip.specs.Values.{is_cseq, cseq_method}
use Rattle.sip.proofs.Methods.{cseq_names}
use Rattle.sip.proofs.Texts.{same_eq}
use Rattle.lines.specs.Index.{Head}
use Rattle.judgement.specs.declared.Refused.{Refused}
use Rattle.judgement.specs.declared.Judged.{Judged}
use Rattle.std.specs.Prelude.{Result, Err}
use Rattle.judgement.specs.Judged.{bare_refused, judged_by, response_to}
use Rattle.judgement.proofs.responses.judge_status.Goals as goal

module _ (m slots : List ℕ) (h : Head) (status : ℕ) (v : List ℕ) where
  tested : (name : List ℕ) → 0 < length name → all is_token name ≡ true → {b : Bool} → b ≡ is_cseq name v → same name (cseq_method v) ≡ b
  tested name l t e = cseq_names name v l t ∙ sym e

  named : (name : List ℕ) → 0 < length name → all is_token name ≡ true → {b : Bool} → b ≡ is_cseq name v → b ≡ true → cseq_method v ≡ name
  named name l t e q = sym (same_eq name (cseq_method v) (tested name l t e ∙ q))

  invite : {i : Bool} → i ≡ is_cseq (73 ∷ 78 ∷ 86 ∷ 73 ∷ 84 ∷ 69 ∷ []) v → i ≡ true → {c : Column} → c ≡ cond (within 200 299 status) InviteSuccess OtherResponse → {a : Result Judged Refused}
      → a ≡ judged_by m slots h c (73 ∷ 78 ∷ 86 ∷ 73 ∷ 84 ∷ 69 ∷ []) → a ≡ response_to m slots h status (cseq_method v)
  unfolding response_to response_column same text all is_token
  invite hi q hc e = e ∙ rw (hc, named (73 ∷ 78 ∷ 86 ∷ 73 ∷ 84 ∷ 69 ∷ []) (omega arith) refl hi q)

  bye : {b : Bool} → b ≡ is_cseq (66 ∷ 89 ∷ 69 ∷ []) v → b ≡ true → {a : Result Judged Refused}
      → a ≡ judged_by m slots h OtherResponse (66 ∷ 89 ∷ 69 ∷ []) → a ≡ response_to m slots h status (cseq_method v)
  unfolding response_to response_column same text all is_token
  bye hb q e = e ∙ rw (named (66 ∷ 89 ∷ 69 ∷ []) (omega arith) refl hb q)

  cancel : {k : Bool} → k ≡ is_cseq (67 ∷ 65 ∷ 78 ∷ 67 ∷ 69 ∷ 76 ∷ []) v → k ≡ true → {a : Result Judged Refused}
      → a ≡ judged_by m slots h CancelResponse (67 ∷ 65 ∷ 78 ∷ 67 ∷ 69 ∷ 76 ∷ []) → a ≡ response_to m slots h status (cseq_method v)
  unfolding response_to response_column same text all is_token
  cancel hk q e = e ∙ rw (named (67 ∷ 65 ∷ 78 ∷ 67 ∷ 69 ∷ 76 ∷ []) (omega arith) refl hk q)

  options : {o : Bool} → o ≡ is_cseq (79 ∷ 80 ∷ 84 ∷ 73 ∷ 79 ∷ 78 ∷ 83 ∷ []) v → o ≡ true → {a : Result Judged Refused}
      → a ≡ judged_by m slots h OtherResponse (79 ∷ 80 ∷ 84 ∷ 73 ∷ 79 ∷ 78 ∷ 83 ∷ []) → a ≡ response_to m slots h status (cseq_method v)
  unfolding response_to response_column same text all is_token
  options ho q e = e ∙ rw (named (79 ∷ 80 ∷ 84 ∷ 73 ∷ 79 ∷ 78 ∷ 83 ∷ []) (omega arith) refl ho q)

  unknown : {i b k o : Bool} → i ≡ is_cseq (73 ∷ 78 ∷ 86 ∷ 73 ∷ 84 ∷ 69 ∷ []) v → i ≡ false → b ≡ is_cseq (66 ∷ 89 ∷ 69 ∷ []) v → b ≡ false
      → k ≡ is_cseq (67 ∷ 65 ∷ 78 ∷ 67 ∷ 69 ∷ 76 ∷ []) v → k ≡ false → o ≡ is_cseq (79 ∷ 80 ∷ 84 ∷ 73 ∷ 79 ∷ 78 ∷ 83 ∷ []) v → o ≡ false
      → {x : Refused} → x ≡ bare_refused 6 0 → Err x ≡ response_to m slots h status (cseq_method v)
  unfolding response_to response_column text all is_token
  unknown hi ei hb eb hk ek ho eo hx =
      rw (
        hx,
        tested (73 ∷ 78 ∷ 86 ∷ 73 ∷ 84 ∷ 69 ∷ []) (omega arith) refl hi ∙ ei,
        tested (66 ∷ 89 ∷ 69 ∷ []) (omega arith) refl hb ∙ eb,
        tested (67 ∷ 65 ∷ 78 ∷ 67 ∷ 69 ∷ 76 ∷ []) (omega arith) refl hk ∙ ek,
        tested (79 ∷ 80 ∷ 84 ∷ 73 ∷ 79 ∷ 78 ∷ 83 ∷ []) (omega arith) refl ho ∙ eo,
      )

pub returns-then-is_cseq : goal.returns-then-is_cseq
returns-then-is_cseq c = search invite

pub returns-then-is_cseq-2 : goal.returns-then-is_cseq-2
returns-then-is_cseq-2 c = search bye

pub returns-then-is_cseq-3 : goal.returns-then-is_cseq-3
returns-then-is_cseq-3 c = search cancel

pub returns-then-is_cseq-4 : goal.returns-then-is_cseq-4
returns-then-is_cseq-4 c = search options

pub returns : goal.returns
returns c = search unknown
