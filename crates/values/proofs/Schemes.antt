-- The scheme of a URI is sip or tel, so it is no other: by induction on the scheme, whose bytes are no colons.
use mathlib.Core.Path.{◌≡◌, refl, sym, ap, ◌∙◌}
use mathlib.Core.Bool.{Bool, true, false, false≢true, not, ◌&&◌, ◌||◌, or-true, and-false}
use mathlib.Core.List.{List, [], ◌∷◌, ◌++◌}
use Prim.Native.Nat.{ℕ, suc, ◌≤◌}
use native.Mathlib.Omega.{arith}
use lib.Dec.{eqb, ltb}
use lib.ListN.{length, take}
use borrow.Author.Tests.{eqb-false, eq-eqb, ne_eqb, not-true}
use Rattle.octets.specs.Classes.{text, is_token}
use Rattle.octets.specs.Scans.{run, all, lower, same_text}
use Rattle.octets.proofs.Runs.{run_yes, run_no}
use Rattle.sip.specs.Values.{is_empty, uri}
use Rattle.sip.specs.Refusals.{other_scheme}
use Rattle.sip.proofs.Tests.{all_first, all_others}
use Rattle.sip.proofs.Texts.{same_parts, lower_sign}

abbrev no_colon : ℕ → Bool
no_colon b = not (eqb b 58)

colon_lower : lower 58 ≡ 58
unfolding lower
colon_lower = refl

-- a text and a colon are the scheme, in any letter case
scheme : (x u : List ℕ) → all (λ (b : ℕ). no_colon (lower b)) x ≡ true → same_text (x ++ (58 ∷ [])) (take (suc (length x)) u) ≡ true
    → (run no_colon u ≡ length x) × (same_text x (take (length x) u) ≡ true)
unfolding same_text
scheme [] [] a e = absurd (false≢true e)
scheme [] (b ∷ u) a e =
    let z : b ≡ 58 = lower_sign 58 b (omega arith) (sym colon_lower ∙ (same_parts 58 b [] [] e).0) in
    (run_no no_colon b u (ap not (eq-eqb b 58 z)), refl)
scheme (x ∷ xs) [] a e = absurd (false≢true e)
scheme (x ∷ xs) (b ∷ u) a e =
    let p : lower x ≡ lower b = (same_parts x b (xs ++ (58 ∷ [])) (take (suc (length xs)) u) e).0 in
    let r : (run no_colon u ≡ length xs) × (same_text xs (take (length xs) u) ≡ true) = scheme xs u (all_others (λ (b : ℕ). no_colon (lower b)) x xs a) (same_parts x b (xs ++ (58 ∷ [])) (take (suc (length xs)) u) e).1 in
    let n : lower x ≡ 58 → ⊥ = eqb-false (lower x) 58 (not-true (eqb (lower x) 58) (all_first (λ (b : ℕ). no_colon (lower b)) x xs a)) in
    let m : no_colon b ≡ true = ap not (ne_eqb b 58 (λ z. n (p ∙ ap lower z ∙ colon_lower))) in
    (run_yes no_colon b u m ∙ ap suc r.0, rw (eq-eqb (lower x) (lower b) p) r.1)

-- where either is true, it is not that neither is
both : (a b c d e : Bool) → (d || e) ≡ true → (a && (b && (c && not (d || e)))) ≡ false
both a b c d e h = rw h (simp and-false)

module _ (u : List ℕ) (r : run no_colon u ≡ 3) where
  is : (same_text (text "sip") (take 3 u) || same_text (text "tel") (take 3 u)) ≡ true → other_scheme u ≡ false
  unfolding other_scheme
  is h =
      rw r
      (both (ltb 3 (length u)) (not (is_empty (take 3 u))) (all is_token (take 3 u)) (same_text (text "sip") (take 3 u)) (same_text (text "tel") (take 3 u)) h)

pub known : (u : List ℕ) → 1 ≤ (uri u).size → other_scheme u ≡ false
unfolding uri text all lower
known u h = go (same_text (text "sip:") (take 4 u)) (same_text (text "tel:") (take 4 u)) refl refl
  where
    go : (a b : Bool) → same_text (text "sip:") (take 4 u) ≡ a → same_text (text "tel:") (take 4 u) ≡ b → other_scheme u ≡ false
    go true b e f = let r = scheme (text "sip") u refl e in is u r.0 (rw r.1)
    go false true e f = let r = scheme (text "tel") u refl f in is u r.0 (rw r.1 (or-true (same_text (text "sip") (take 3 u))))
    go false false e f = let z : 1 ≤ 0 = rw (e, f) at h in absurd (omega arith)
