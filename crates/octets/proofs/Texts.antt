-- Comparison of texts. `same` and `same_text` are one comparison by a form of the bytes, whose laws are by induction on both texts.
use mathlib.Core.Path.{◌≡◌, refl, sym, ap, ◌∙◌}
use mathlib.Core.Bool.{Bool, true, false, cond, ◌&&◌, and-false}
use mathlib.Core.List.{List, [], ◌∷◌}
use Prim.Native.Nat.{ℕ, suc, ◌+◌, ◌≤◌, ◌<◌}
use native.Mathlib.Omega.{arith}
use lib.Dec.{eqb, leb, ltb}
use lib.Pointwise.{pointwise}
use lib.ListN.{length, drop, get_or, drop_of_length-le}
use borrow.Author.Tests.{eq-eqb, ne_eqb, eqb-true, lt-leb, le-leb, ltb-true, ltb-false}
use Rattle.std.specs.Char.{to_ascii_lowercase}
use Rattle.octets.specs.Scans.{lower, same, same_text}
use Rattle.octets.proofs.Places.{drop1}

-- the texts agree in the form f of their bytes
unfoldable pub agree : (ℕ → ℕ) → List ℕ → List ℕ → Bool
agree f [] [] = true
agree f [] (y ∷ ys) = false
agree f (x ∷ xs) [] = false
agree f (x ∷ xs) (y ∷ ys) = let r = agree f xs ys in cond (eqb (f x) (f y)) r false

pub same_agree : (s t : List ℕ) → same s t ≡ agree (λ b. b) s t
unfolding agree same
same_agree [] [] = refl
same_agree [] (y ∷ ys) = refl
same_agree (x ∷ xs) [] = refl
same_agree (x ∷ xs) (y ∷ ys) = rw (same_agree xs ys)

pub same_text_agree : (s t : List ℕ) → same_text s t ≡ agree lower s t
unfolding agree same_text
same_text_agree [] [] = refl
same_text_agree [] (y ∷ ys) = refl
same_text_agree (x ∷ xs) [] = refl
same_text_agree (x ∷ xs) (y ∷ ys) = rw (same_text_agree xs ys)

never : false ≡ true → ⊥
never e = let z : ◌≡◌ {A = ℕ} 0 1 = cc in omega arith

module _ (f : ℕ → ℕ) where
  agree_first : (x y : ℕ) (xs ys : List ℕ) → agree f (x ∷ xs) (y ∷ ys) ≡ true → (f x ≡ f y) × (agree f xs ys ≡ true)
  unfolding agree
  agree_first x y xs ys e = go (eqb (f x) (f y)) refl
    where
      go : (t : Bool) → eqb (f x) (f y) ≡ t → (f x ≡ f y) × (agree f xs ys ≡ true)
      go true q = (eqb-true (f x) (f y) q, rw q at e)
      go false q = absurd (never (rw q at e))

  pub agree_length : (s t : List ℕ) → agree f s t ≡ true → length s ≡ length t
  unfolding agree
  agree_length [] [] e = refl
  agree_length [] (y ∷ ys) e = absurd (never e)
  agree_length (x ∷ xs) [] e = absurd (never e)
  agree_length (x ∷ xs) (y ∷ ys) e = ap suc (agree_length xs ys (agree_first x y xs ys e).1)

both : (t u : Bool) → (t && u) ≡ cond t u false
both true u = refl
both false u = refl

-- the library's comparison of slices
pub same_pointwise : (s t : List ℕ) → pointwise eqb s t ≡ same s t
unfolding same
same_pointwise [] [] = refl
same_pointwise [] (y ∷ ys) = refl
same_pointwise (x ∷ xs) [] = refl
same_pointwise (x ∷ xs) (y ∷ ys) = rw (same_pointwise xs ys) (both (eqb x y) (same xs ys))

-- the library's small form of a letter
pub small_form : (b : ℕ) → to_ascii_lowercase b ≡ lower b
unfolding lower
small_form b = go (ltb b 65) refl (ltb b 91) refl
  where
    go : (t : Bool) → ltb b 65 ≡ t → (u : Bool) → ltb b 91 ≡ u → to_ascii_lowercase b ≡ lower b
    go true e u f = rw (e, lt-leb 65 b (ltb-true b 65 e))
    go false e true f = rw (e, f, le-leb 65 b (ltb-false b 65 e), le-leb b 90 (omega (arith, ltb-true b 91 f)))
    go false e false f = rw (e, f, lt-leb b 90 (omega (arith, ltb-false b 91 f)), and-false (leb 65 b))

-- a comparison that is `agree f`, by a loop over the places of both texts
module _ (g : List ℕ → List ℕ → Bool) (f : ℕ → ℕ) (is : (s t : List ℕ) → g s t ≡ agree f s t) (s t : List ℕ) where
  pub lengths_differ : (length s ≡ length t → ⊥) → false ≡ g s t
  lengths_differ h = go (g s t) refl
    where
      go : (b : Bool) → g s t ≡ b → false ≡ b
      go true e = absurd (h (agree_length f s t (sym (is s t) ∙ e)))
      go false e = refl

  module _ (l : length s ≡ length t) (i : ℕ) (e : g s t ≡ g (drop i s) (drop i t)) where
    pub ended : length s ≤ i → true ≡ g s t
    unfolding agree
    ended h =
        let k : length t ≤ i = omega arith in
        sym (e ∙ is (drop i s) (drop i t) ∙ rw (drop_of_length-le s h, drop_of_length-le t k))

    module _ (h : i < length s) {x y : ℕ} (hx : x ≡ f (get_or s i 0)) (hy : y ≡ f (get_or t i 0)) where
      at : agree f (drop i s) (drop i t) ≡ cond (eqb x y) (agree f (drop (i + 1) s) (drop (i + 1) t)) false
      unfolding agree
      at = let k : i < length t = omega arith in rw (drop1 s i h, drop1 t i k, hx, hy)

      pub bytes_differ : (x ≡ y → ⊥) → false ≡ g s t
      bytes_differ n = sym (e ∙ is (drop i s) (drop i t) ∙ at ∙ rw (ne_eqb x y n))

      pub bytes_agree : {k : ℕ} → x ≡ y → k ≡ i + 1 → g s t ≡ g (drop k s) (drop k t)
      bytes_agree q z = rw z (e ∙ is (drop i s) (drop i t) ∙ at ∙ rw (eq-eqb x y q) (sym (is (drop (i + 1) s) (drop (i + 1) t))))

-- texts that are the same in any letter case have one length
pub same_text_length : (s t : List ℕ) → same_text s t ≡ true → length s ≡ length t
same_text_length s t e = agree_length lower s t (sym (same_text_agree s t) ∙ e)
