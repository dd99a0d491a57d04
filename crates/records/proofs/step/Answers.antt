-- By the refusal at the front of the bytes.
use mathlib.Core.Path.{◌≡◌, sym, ◌∙◌}
use mathlib.Core.List.{List, [], ◌∷◌}
use Prim.Native.Nat.{ℕ, ◌<◌}
use native.Mathlib.Omega.{arith}
use lib.ListN.{length}
use lib.Dec.{eqb}
use mathlib.Core.Bool.{Bool, true, false}
use borrow.Author.Tests.{ne_eqb, eqb-true, eqb-false}
use Rattle.records.specs.Records.{record_at, refusal_at}
use Rattle.records.specs.Running.{state_of, taken, stepped}
use Rattle.records.specs.declared.Replay.{Replay}
use Rattle.records.specs.declared.record.End.{End}
use Rattle.records.specs.declared.record.End.TheVariants.{BadMark, CutShort, TooMany}
use Rattle.records.specs.Kinds.{end_number}
use Rattle.records.proofs.Steps.{step_whole, step_bad}
use borrow.Author.Rules.{rules}
use Rattle.records.proofs.step.Goals as goal

not_zero : (e : End) → end_number e ≡ 0 → ⊥
not_zero BadMark q = cc
not_zero CutShort q = cc
not_zero TooMany q = cc

module _ (st : Replay) (calls : List ℕ) where
  has_ended : (s : List ℕ) → (st.end ≡ 0 → ⊥) → state_of st calls ≡ stepped (state_of st calls) s
  unfolding stepped
  has_ended s nz = sym (rw (ne_eqb st.end 0 nz))

  nothing : (s : List ℕ) → st.end ≡ 0 → {t : Bool} → t ≡ eqb (length s) 0 → t ≡ true → state_of st calls ≡ stepped (state_of st calls) s
  unfolding stepped
  nothing [] e l y = sym (rw e)
  nothing (b ∷ s) e l y = absurd (omega (arith, eqb-true (length (b ∷ s)) 0 (sym l ∙ y)))

  module _ (s : List ℕ) (going : st.end ≡ 0) {t : Bool} (l : t ≡ eqb (length s) 0) (n : t ≡ false) where
    some : 0 < length s
    some = omega (arith, eqb-false (length s) 0 (sym l ∙ n))

    module _ {r : Replay} where
      refused : (e : End) → end_number e ≡ refusal_at s → r.counts ≡ st.counts → r.read ≡ st.read → r.end ≡ end_number e
          → state_of r calls ≡ stepped (state_of st calls) s
      refused e q a b c = rw (a, b, c) (rw q (sym (step_bad (state_of st calls) s going some (λ y. not_zero e (q ∙ y)))))

      whole : {side : ℕ} {m : List ℕ} → 0 ≡ refusal_at s → side ≡ (record_at s).side → m ≡ (record_at s).message → {left : List ℕ}
          → state_of r left ≡ taken (state_of st calls) side m → state_of r left ≡ stepped (state_of st calls) s
      whole z a b q = q ∙ rw (b, a) (sym (step_whole (state_of st calls) s going some (sym z)))

pub returns-then-st-ne0 : goal.returns-then-st-ne0
returns-then-st-ne0 c = search (has_ended, rules)

pub returns-then-is_empty : goal.returns-then-is_empty
returns-then-is_empty c = search (nothing, rules)

pub returns-in-Err : goal.returns-in-Err
unfolding stepped
returns-in-Err c = search (refused, rules)

pub returns-in-Ok : goal.returns-in-Ok
unfolding stepped
returns-in-Ok c = search (whole, rules)
