-- The tags of all Require fields are counted, and the place of the first that we lack is found among them.
use mathlib.Core.Path.{◌≡◌, refl, sym, ap, ◌∙◌}
use mathlib.Core.Bool.{Bool, true, false, cond}
use mathlib.Core.List.{List, [], ◌∷◌, ◌++◌}
use Prim.Native.Nat.{ℕ, suc, ◌+◌}
use native.Mathlib.Omega.{arith}
use lib.Dec.{eqb}
use lib.ListN.{length}
use borrow.Author.Tests.{eqb-true, ne_eqb}
use Rattle.sip.specs.Values.{required_tags, first_place, is_lacking}
use Rattle.sip.specs.Refusals.{Entry, all_tags, first_lacking}
use Rattle.values.specs.Answers.{require_at}
use Rattle.judgement.specs.declared.Tally.{Tally}
use Rattle.judgement.specs.Tallies.{finding, or_else, noted, no_tally, tallied}
use Rattle.judgement.proofs.Totals.{next, else_none, else_assoc}

-- the place a, n more being before; 0 stays 0
abbrev later : ℕ → ℕ → ℕ
later n a = cond (eqb a 0) 0 (n + a)

lacking_place : (n m : ℕ) (ts : List (List ℕ)) → first_place is_lacking (n + m) ts ≡ later n (first_place is_lacking m ts)
unfolding first_place
lacking_place n m [] = refl
lacking_place n m (t ∷ ts) = go (is_lacking t) (lacking_place n (suc m) ts)
  where
    go : (b : Bool) → first_place is_lacking (n + suc m) ts ≡ later n (first_place is_lacking (suc m) ts)
        → cond b (suc (n + m)) (first_place is_lacking (suc (n + m)) ts) ≡ later n (cond b (suc m) (first_place is_lacking (suc m) ts))
    go true q = rw (ne_eqb (suc m) 0 (λ z. omega arith)) (omega arith)
    go false q = let e : suc (n + m) ≡ n + suc m = omega arith in rw e q

lacking_append : (n : ℕ) (xs ys : List (List ℕ)) → first_place is_lacking n (xs ++ ys) ≡ or_else (first_place is_lacking n xs) (first_place is_lacking (n + length xs) ys)
unfolding first_place
lacking_append n [] ys = let e : n ≡ n + 0 = omega arith in ap (λ (m : ℕ). first_place is_lacking m ys) e
lacking_append n (x ∷ xs) ys = go (is_lacking x) (lacking_append (suc n) xs ys)
  where
    go : (b : Bool) → first_place is_lacking (suc n) (xs ++ ys) ≡ or_else (first_place is_lacking (suc n) xs) (first_place is_lacking (suc n + length xs) ys)
        → cond b (suc n) (first_place is_lacking (suc n) (xs ++ ys)) ≡ or_else (cond b (suc n) (first_place is_lacking (suc n) xs)) (first_place is_lacking (n + suc (length xs)) ys)
    go true q = rw (ne_eqb (suc n) 0 (λ z. omega arith))
    go false q = let e : n + suc (length xs) ≡ suc n + length xs = omega arith in rw e q

module _ (method : List ℕ) where
  -- what one Require adds
  count_is : (v : List ℕ) → (finding method 14 v).len ≡ length (required_tags v)
  unfolding finding require_at required_tags
  count_is v = refl

  place_is : (v : List ℕ) → (finding method 14 v).start ≡ first_place is_lacking 0 (required_tags v)
  unfolding finding require_at required_tags
  place_is v = refl

  place_in : (n : ℕ) (v : List ℕ) → later n (finding method 14 v).start ≡ first_place is_lacking n (required_tags v)
  place_in n v = let e : n + 0 ≡ n = omega arith in rw (place_is v) (sym (rw e at (lacking_place n 0 (required_tags v))))

  lacking_is : (t : Tally) (es : List Entry) → (tallied method t es).lacking ≡ or_else t.lacking (first_place is_lacking t.tags (all_tags es))
  unfolding tallied all_tags noted first_place
  lacking_is t [] = sym (else_none t.lacking)
  lacking_is t (e ∷ es) = lacking_is (next method t e) es ∙ go (eqb e.number 14) refl
    where
      go : (b : Bool) → eqb e.number 14 ≡ b
          → or_else (cond b (or_else t.lacking (later t.tags (finding method e.number e.value).start)) t.lacking)
          (first_place is_lacking (cond b (t.tags + (finding method e.number e.value).len) t.tags) (all_tags es))
          ≡ or_else t.lacking (first_place is_lacking t.tags (cond b (required_tags e.value ++ all_tags es) (all_tags es)))
      go true q =
          rw (eqb-true e.number 14 q, count_is e.value, place_in t.tags e.value, lacking_append t.tags (required_tags e.value) (all_tags es))
          (else_assoc t.lacking (first_place is_lacking t.tags (required_tags e.value)) (first_place is_lacking (t.tags + length (required_tags e.value)) (all_tags es)))
      go false q = refl

  pub total_lacking : (es : List Entry) → (tallied method no_tally es).lacking ≡ first_lacking es
  unfolding first_lacking
  total_lacking es = lacking_is no_tally es
