-- What two texts that are the same, or the same in any letter case, have in common.
use mathlib.Core.Path.{◌≡◌, refl, sym, ap, ◌∙◌}
use mathlib.Core.Bool.{Bool, true, false, false≢true, not, cond, ◌&&◌, or-true}
use mathlib.Core.List.{List, [], ◌∷◌, ◌++◌}
use Prim.Native.Nat.{ℕ, ◌+◌, ◌≤◌, ◌<◌}
use native.Mathlib.Omega.{arith}
use lib.Dec.{eqb, ltb}
use lib.ListN.{length, take, drop}
use borrow.Author.Tests.{eqb-true, eq-eqb, le-leb, ltb-true, not-true}
use Rattle.octets.specs.Classes.{within, is_token}
use Rattle.octets.specs.Scans.{all, lower, same, same_text}
use Rattle.sip.proofs.Tests.{never, and_left, and_right, range_low, range_high, all_first, all_others}

-- ---- the same, letter case and all

pub same_eq : (s t : List ℕ) → same s t ≡ true → s ≡ t
unfolding same
same_eq [] [] e = refl
same_eq [] (y ∷ t) e = never (cc)
same_eq (x ∷ s) [] e = never (cc)
same_eq (x ∷ s) (y ∷ t) e = go (eqb x y) refl e (same_eq s t)
  where
    go : (b : Bool) → eqb x y ≡ b → cond b (same s t) false ≡ true → (same s t ≡ true → s ≡ t) → x ∷ s ≡ y ∷ t
    go true p q ih = let k : x ≡ y = eqb-true x y p in rw (k, ih q)
    go false p q ih = never (cc)

pub same_refl : (s : List ℕ) → same s s ≡ true
unfolding same
same_refl [] = refl
same_refl (x ∷ s) = rw (eq-eqb x x refl, same_refl s)

-- ---- the same in any letter case

-- the same first byte, and the same others
pub same_parts : (x y : ℕ) (xs ys : List ℕ) → same_text (x ∷ xs) (y ∷ ys) ≡ true → (lower x ≡ lower y) × (same_text xs ys ≡ true)
unfolding same_text
same_parts x y xs ys e = go (eqb (lower x) (lower y)) refl e
  where
    go : (t : Bool) → eqb (lower x) (lower y) ≡ t → cond t (same_text xs ys) false ≡ true → (lower x ≡ lower y) × (same_text xs ys ≡ true)
    go true p q = (eqb-true (lower x) (lower y) p, q)
    go false p q = absurd (false≢true q)

-- a sign, as a space or a colon, is no letter's small form
pub lower_sign : (c b : ℕ) → c < 97 → c ≡ lower b → b ≡ c
unfolding lower
lower_sign c b h e = go (within 65 90 b) refl e
  where
    go : (t : Bool) → within 65 90 b ≡ t → c ≡ cond t (b + 32) b → b ≡ c
    go true p q = let l : 65 ≤ b = range_low 65 90 b p in absurd (omega arith)
    go false p q = sym q

-- texts without letters that are the same in any letter case are the same
pub same_signs : (xs ys : List ℕ) → all (λ (b : ℕ). not (within 65 90 b) && ltb b 97) xs ≡ true → same_text xs ys ≡ true → ys ≡ xs
unfolding all same_text lower
same_signs [] [] a e = refl
same_signs [] (y ∷ ys) a e = absurd (false≢true e)
same_signs (x ∷ xs) [] a e = absurd (false≢true e)
same_signs (x ∷ xs) (y ∷ ys) a e =
    let (p, q) = same_parts x y xs ys e in
    let sign : (not (within 65 90 x) && ltb x 97) ≡ true = all_first (λ (b : ℕ). not (within 65 90 b) && ltb b 97) x xs a in
    let plain : within 65 90 x ≡ false = not-true (within 65 90 x) (and_left (not (within 65 90 x)) (ltb x 97) sign) in
    let r : x ≡ lower y = (rw plain at p) in
    let low : x < 97 = ltb-true x 97 (and_right (not (within 65 90 x)) (ltb x 97) sign) in
    rw (lower_sign x y low r, same_signs xs ys (all_others (λ (b : ℕ). not (within 65 90 b) && ltb b 97) x xs a) q)

-- the front and the rest of two such texts
pub same_front : (xs zs ys : List ℕ) → same_text (xs ++ zs) ys ≡ true
    → (same_text xs (take (length xs) ys) ≡ true) × (same_text zs (drop (length xs) ys) ≡ true)
unfolding same_text
same_front [] zs ys e = (refl, e)
same_front (x ∷ xs) zs [] e = absurd (false≢true e)
same_front (x ∷ xs) zs (y ∷ ys) e =
    let (p, q) = same_parts x y (xs ++ zs) ys e in
    let (a, b) = same_front xs zs ys q in
    (rw (eq-eqb (lower x) (lower y) p) a, b)

-- a capital and its small letter are both token bytes
small_token : (b : ℕ) → 97 ≤ b → b ≤ 122 → is_token b ≡ true
unfolding is_token
small_token b l h = simp (le-leb 97 b l, le-leb b 122 h, or-true)

token_lower : (b : ℕ) → is_token (lower b) ≡ is_token b
unfolding is_token lower
token_lower b = go (within 65 90 b) refl
  where
    go : (t : Bool) → within 65 90 b ≡ t → is_token (cond t (b + 32) b) ≡ is_token b
    go true q =
        let l : 65 ≤ b = range_low 65 90 b q in
        let h : b ≤ 90 = range_high 65 90 b q in
        small_token (b + 32) (omega arith) (omega arith) ∙ sym (simp q)
    go false q = refl

pub same_token : (xs ys : List ℕ) → same_text xs ys ≡ true → all is_token xs ≡ true → all is_token ys ≡ true
unfolding same_text all
same_token [] [] e a = refl
same_token [] (y ∷ ys) e a = absurd (false≢true e)
same_token (x ∷ xs) [] e a = refl
same_token (x ∷ xs) (y ∷ ys) e a =
    let (p, q) = same_parts x y xs ys e in
    let t : is_token y ≡ true = sym (token_lower y) ∙ ap is_token (sym p) ∙ token_lower x ∙ all_first is_token x xs a in
    rw (t, same_token xs ys q (all_others is_token x xs a))
