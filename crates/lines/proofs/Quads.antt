-- Four bytes and the number that they make: equal numbers are equal bytes, by linear arithmetic. Words that stand one after the other, or share bytes, are one text.
use mathlib.Core.Path.{◌≡◌, refl, sym, ap, ◌∙◌}
use mathlib.Core.Bool.{Bool, true, false, cond}
use mathlib.Core.List.{List, [], ◌∷◌}
use Prim.Native.Nat.{ℕ, ◌+◌, ◌-◌, ◌*◌, ◌≤◌, ◌<◌}
use native.Mathlib.Omega.{arith}
use lib.Dec.{eqb}
use lib.ListN.{length, take, drop, get_or}
use lib.Seq.{take-take, take-add, take-length, drop-drop}
use Rattle.std.proofs.lemmas.List.{drop-take}
use borrow.Author.Tests.{eq-eqb, eqb-true, eqb-false}
use Rattle.octets.specs.Scans.{same}
use Rattle.octets.proofs.Places.{drop1, drop3}
use Rattle.lines.specs.Passes.{quad, Bytes}
use Rattle.lines.proofs.Values.{never}

-- ---- one word

module _ (a b c d a' b' c' d' : ℕ) where
  abbrev alike : Bool → Bool → Bool → Bool → Bool
  alike t u v w = cond t (cond u (cond v (cond w true false) false) false) false

  quad_same : a < 256 → b < 256 → c < 256 → d < 256 → a' < 256 → b' < 256 → c' < 256 → d' < 256
      → {x : ℕ} → x ≡ a + 256 * b + 65536 * (c + 256 * d) → {y : ℕ} → y ≡ a' + 256 * b' + 65536 * (c' + 256 * d')
      → eqb x y ≡ same (a ∷ b ∷ c ∷ d ∷ []) (a' ∷ b' ∷ c' ∷ d' ∷ [])
  unfolding same
  quad_same ha hb hc hd ha' hb' hc' hd' {x} hx {y} hy = go (eqb x y) refl
    where
      unlike : (x ≡ y → ⊥) → (t u v w : Bool) → eqb a a' ≡ t → eqb b b' ≡ u → eqb c c' ≡ v → eqb d d' ≡ w → false ≡ alike t u v w
      unlike n false u v w p q r s = refl
      unlike n true false v w p q r s = refl
      unlike n true true false w p q r s = refl
      unlike n true true true false p q r s = refl
      unlike n true true true true p q r s =
          absurd (n (omega (arith, eqb-true a a' p, eqb-true b b' q, eqb-true c c' r, eqb-true d d' s)))

      go : (t : Bool) → eqb x y ≡ t → t ≡ alike (eqb a a') (eqb b b') (eqb c c') (eqb d d')
      go true e =
          let z : x ≡ y = eqb-true x y e in
          rw (eq-eqb a a' (omega arith), eq-eqb b b' (omega arith), eq-eqb c c' (omega arith), eq-eqb d d' (omega arith))
      go false e = unlike (λ z. let w : eqb x y ≡ true = eq-eqb x y z in never (sym e ∙ w)) (eqb a a') (eqb b b') (eqb c c') (eqb d d') refl refl refl refl

four_here : (s : List ℕ) (at : ℕ) → at + 4 ≤ length s
    → take 4 (drop at s) ≡ get_or s at 0 ∷ get_or s (at + 1) 0 ∷ get_or s (at + 2) 0 ∷ get_or s (at + 3) 0 ∷ []
four_here s at h = let l : at + 2 < length s = omega arith in let k : at + 3 < length s = omega arith in rw (drop3 s at l, drop1 s (at + 3) k)

-- the words at two places are the same four bytes or not
word_same : (s : List ℕ) (i : ℕ) (t : List ℕ) (j : ℕ) → i + 4 ≤ length s → j + 4 ≤ length t → Bytes s i → Bytes t j
    → {x y : ℕ} → x ≡ quad s i → y ≡ quad t j → eqb x y ≡ same (take 4 (drop i s)) (take 4 (drop j t))
word_same s i t j h k b c hx hy =
    let z : (l : List ℕ) (n : ℕ) → n + 0 ≡ n = λ l n. omega arith in
    let b0 : get_or s i 0 < 256 = rw (z s i) at (b.byte 0 (omega arith)) in
    let c0 : get_or t j 0 < 256 = rw (z t j) at (c.byte 0 (omega arith)) in
    quad_same _ _ _ _ _ _ _ _ b0 (b.byte 1 (omega arith)) (b.byte 2 (omega arith)) (b.byte 3 (omega arith))
    c0 (c.byte 1 (omega arith)) (c.byte 2 (omega arith)) (c.byte 3 (omega arith)) hx hy
    ∙ rw (four_here s i h, four_here t j k)

pub same_is : (s t : List ℕ) → same s t ≡ true → s ≡ t
unfolding same
same_is [] [] e = refl
same_is [] (y ∷ ys) e = never e
same_is (x ∷ xs) [] e = never e
same_is (x ∷ xs) (y ∷ ys) e = go (eqb x y) refl e (same_is xs ys)
  where
    go : (t : Bool) → eqb x y ≡ t → cond t (same xs ys) false ≡ true → (same xs ys ≡ true → xs ≡ ys) → x ∷ xs ≡ y ∷ ys
    go true p q f = rw (eqb-true x y p, f q)
    go false p q f = never q

same_refl : (s : List ℕ) → same s s ≡ true
unfolding same
same_refl [] = refl
same_refl (x ∷ xs) = rw (eq-eqb x x refl, same_refl xs)

-- ---- a text that stands at a place, word by word: its first i bytes do

pub record Stood (s : List ℕ) (at : ℕ) (t : List ℕ) (i : ℕ) : Type 0 where
  pub stood : take i (drop at s) ≡ take i t

module _ (s : List ℕ) (at : ℕ) (t : List ℕ) where
  pub none_stood : Stood s at t 0
  none_stood = record { stood = refl }

module _ (s : List ℕ) (at : ℕ) (t : List ℕ) (fits : at + length t ≤ length s) where
  module _ (i : ℕ) (h : Stood s at t i) (l : i + 4 ≤ length t) {j : ℕ} (hj : j ≡ at + i) (b : Bytes s j) (c : Bytes t i) {x y : ℕ} (hx : x ≡ quad s j) (hy : y ≡ quad t i) where
    words : eqb x y ≡ same (take 4 (drop i (drop at s))) (take 4 (drop i t))
    words = word_same s j t i (omega arith) l b c hx hy ∙ rw (drop-drop i at s, ← hj)

    pub next_stood : x ≡ y → {k : ℕ} → k ≡ i + 4 → Stood s at t k
    next_stood q {k} z =
        let e : take 4 (drop i (drop at s)) ≡ take 4 (drop i t) = same_is _ _ (sym words ∙ eq-eqb x y q) in
        record { stood = rw z (take-add i 4 (drop at s) ∙ rw (h.stood, e) (sym (take-add i 4 t))) }

    pub not_stood : (x ≡ y → ⊥) → false ≡ same (take (length t) (drop at s)) t
    not_stood n = go (same (take (length t) (drop at s)) t) refl
      where
        go : (u : Bool) → same (take (length t) (drop at s)) t ≡ u → false ≡ u
        go true e =
            let w : take (length t) (drop at s) ≡ t = same_is _ _ e in
            let m : ℕ = length t - i in
            let q : i + m ≡ length t = omega arith in
            let r : drop i (take (i + m) (drop at s)) ≡ drop i t = rw q (ap (drop i) w) in
            let v : take 4 (drop i (drop at s)) ≡ take 4 (drop i t)
            = sym (take-take 4 m (drop i (drop at s)) (omega arith)) ∙ ap (take 4) (sym (drop-take i m (drop at s)) ∙ r) in
            absurd (n (eqb-true x y (words ∙ rw v (same_refl (take 4 (drop i t))))))
        go false e = refl

  pub word_stood : (i : ℕ) → Stood s at t i → i < length t - 4 → {j : ℕ} → j ≡ at + i → Bytes s j → Bytes t i
      → {x y : ℕ} → x ≡ quad s j → y ≡ quad t i → x ≡ y → {k : ℕ} → k ≡ i + 4 → Stood s at t k
  word_stood i h l hj b c hx hy q z = next_stood i h (omega arith) hj b c hx hy q z

  -- the last four bytes decide
  pub last_word : {i : ℕ} → Stood s at t i → {last : ℕ} → last ≤ i → last + 4 ≡ length t → {j : ℕ} → j ≡ at + last → Bytes s j → Bytes t last
      → {x y : ℕ} → x ≡ quad s j → y ≡ quad t last → eqb x y ≡ same (take (length t) (drop at s)) t
  last_word {i} h {last} l z {j} hj b c {x} {y} hx hy = go (eqb x y) refl
    where
      before : Stood s at t last
      before = record { stood = sym (take-take last i (drop at s) l) ∙ ap (take last) h.stood ∙ take-take last i t l }

      go : (u : Bool) → eqb x y ≡ u → u ≡ same (take (length t) (drop at s)) t
      go true e =
          let w = next_stood last before (omega arith) hj b c hx hy (eqb-true x y e) (sym z) in
          let v : take (length t) (drop at s) ≡ t = w.stood ∙ take-length t in
          sym (rw v (same_refl t))
      go false e = not_stood last before (omega arith) hj b c hx hy (eqb-false x y e)
