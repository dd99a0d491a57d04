-- Of the fields of which only that is asked, whether the value is empty.
use mathlib.Core.Path.{◌≡◌, refl, sym}
use mathlib.Core.Bool.{true}
use mathlib.Core.List.{List, [], ◌∷◌}
use Prim.Native.Nat.{ℕ}
use lib.Dec.{eqb, eqb-suc-zero}
use lib.ListN.{length}
use Rattle.std.proofs.Common.{inl, inr}
use Rattle.sip.specs.Values.{is_empty}
use Rattle.judgement.specs.Tallies.{only_filled}
use Rattle.judgement.proofs.findings.other.Goals as goal

filled : (k : ℕ) {n : ℕ} → only_filled k ≡ true → n ≡ k → only_filled n ≡ true
filled k f q = rw q f

emptied : (v : List ℕ) → is_empty v ≡ eqb (length v) 0
unfolding is_empty
emptied [] = refl
emptied (b ∷ s) = sym (eqb-suc-zero (length s))

pub returns-then-n-eq1 : goal.returns-then-n-eq1
returns-then-n-eq1 c =
    let h : only_filled c.args.n ≡ true =
    elim c.then-n-eq1.either [
      | inl q ↦ filled 1 refl q
      | inr d ↦ elim d [ inl q ↦ filled 7 refl q.1 | inr d ↦ elim d [ inl q ↦ filled 9 refl q.2 | inr d ↦ elim d [ inl q ↦ filled 10 refl q.3 | inr d ↦ elim d [ inl q ↦ filled 11 refl q.4 | inr q ↦ filled 18 refl q.5 ] ] ] ]
    ] in
    rw (h, emptied c.args.v.now) c.plain.ensures
