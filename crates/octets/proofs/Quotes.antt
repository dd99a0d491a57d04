-- Laws of `closes` and `quoted`, by induction on the text; at a place, by the byte that stands there and, after a backslash, the next.
use mathlib.Core.Path.{◌≡◌, refl, sym, ◌∙◌}
use mathlib.Core.Bool.{Bool, true, false, cond}
use mathlib.Core.List.{List, [], ◌∷◌}
use Prim.Native.Nat.{ℕ, zero, suc, ◌+◌, ◌≤◌, ◌<◌}
use native.Mathlib.Omega.{arith}
use lib.Dec.{eqb, ltb}
use lib.ListN.{length, drop, get_or, drop_of_length-le}
use borrow.Author.Tests.{ne_eqb, ltb-true, ltb-false}
use Rattle.octets.specs.Scans.{starts, more, closes, quoted}
use Rattle.octets.proofs.Places.{drop1, drop2}

more_le : (n m : ℕ) → n ≤ m → more n ≤ suc m
more_le zero m h = omega arith
more_le (suc n) m h = omega arith

pub closes_le : (t : Bool) (s : List ℕ) → closes t s ≤ length s
unfolding closes
closes_le t [] = omega arith
closes_le true (b ∷ s) = more_le (closes false s) (length s) (closes_le false s)
closes_le false (b ∷ s) = go (eqb b 34) (eqb b 92) (more_le (closes true s) (length s) (closes_le true s)) (more_le (closes false s) (length s) (closes_le false s))
  where
    go : (t u : Bool) → more (closes true s) ≤ suc (length s) → more (closes false s) ≤ suc (length s)
        → cond t 1 (cond u (more (closes true s)) (more (closes false s))) ≤ suc (length s)
    go true u x y = omega arith
    go false true x y = x
    go false false x y = y

pub quoted_le : (s : List ℕ) → quoted s ≤ length s
unfolding quoted
quoted_le [] = omega arith
quoted_le (b ∷ s) = go (eqb b 34)
  where
    go : (t : Bool) → cond t (more (closes false s)) 0 ≤ suc (length s)
    go true = more_le (closes false s) (length s) (closes_le false s)
    go false = omega arith

-- ---- a loop that looks for the closing quote

-- a size with i bytes more, where there is one
abbrev pub plus : ℕ → ℕ → ℕ
plus i zero = zero
plus i (suc n) = i + suc n

plus_more : (i n : ℕ) → plus i (more n) ≡ plus (i + 1) n
plus_more i zero = refl
plus_more i (suc n) = omega arith

plus_more2 : (i n : ℕ) → plus i (more (more n)) ≡ plus (i + 2) n
plus_more2 i zero = refl
plus_more2 i (suc n) = omega arith

more_one : (n : ℕ) → more n ≡ plus 1 n
more_one zero = refl
more_one (suc n) = omega arith

module _ (s : List ℕ) where
  pub no_quote : starts 34 s ≡ false → 0 ≡ quoted s
  unfolding quoted
  no_quote h = rw h

  pub begins : starts 34 s ≡ true → quoted s ≡ plus 1 (closes false (drop 1 s))
  unfolding quoted
  begins h = rw h (more_one (closes false (drop 1 s)))

  module _ (i : ℕ) (e : quoted s ≡ plus i (closes false (drop i s))) where
    pub ended : length s ≤ i → 0 ≡ quoted s
    unfolding closes
    ended h = sym (e ∙ rw (drop_of_length-le s h))

    module _ (h : i < length s) where
      pub closed : get_or s i 0 ≡ 34 → i + 1 ≡ quoted s
      unfolding closes
      closed q = sym (e ∙ rw (drop1 s i h, q))

      module _ (n : get_or s i 0 ≡ 34 → ⊥) where
        pub one : {k : ℕ} → (get_or s i 0 ≡ 92 → ⊥) → k ≡ i + 1 → quoted s ≡ plus k (closes false (drop k s))
        unfolding closes
        one m z = rw z (e ∙ rw (drop1 s i h, ne_eqb (get_or s i 0) 34 n, ne_eqb (get_or s i 0) 92 m) (plus_more i (closes false (drop (i + 1) s))))

        cut : get_or s i 0 ≡ 92 → length s ≤ i + 1 → 0 ≡ quoted s
        unfolding closes
        cut q l = sym (e ∙ rw (drop1 s i h, q, drop_of_length-le s l))

        two : {k : ℕ} → get_or s i 0 ≡ 92 → i + 1 < length s → k ≡ i + 2 → quoted s ≡ plus k (closes false (drop k s))
        unfolding closes
        two q l z = rw z (e ∙ rw (drop2 s i l, q) (plus_more2 i (closes false (drop (i + 2) s))))

        -- past the end too, where nothing closes
        pub slash : {k : ℕ} → get_or s i 0 ≡ 92 → k ≡ i + 2 → quoted s ≡ plus k (closes false (drop k s))
        unfolding closes
        slash {k} q z = go (ltb (i + 1) (length s)) refl
          where
            go : (t : Bool) → ltb (i + 1) (length s) ≡ t → quoted s ≡ plus k (closes false (drop k s))
            go true g = two q (ltb-true (i + 1) (length s) g) z
            go false g =
                let l : length s ≤ i + 1 = ltb-false (i + 1) (length s) g in
                let m : length s ≤ k = omega arith in
                sym (cut q l) ∙ rw (drop_of_length-le s m)
