-- What is found in a value is the answer of the reader for its number; only a CSeq asks for the method.
use mathlib.Core.Path.{◌≡◌, refl, sym, ap, ◌∙◌}
use mathlib.Core.Bool.{Bool, true, false, not, cond}
use mathlib.Core.List.{List, []}
use Prim.Native.Nat.{ℕ}
use lib.Dec.{eqb}
use borrow.Author.Tests.{ne_eqb}
use Rattle.sip.specs.Values.{is_empty}
use Rattle.values.specs.Answers.{whole_number}
use Rattle.judgement.specs.declared.Finding.{Finding}
use Rattle.judgement.specs.declared.Tally.{Tally}
use Rattle.judgement.specs.Tallies.{found, found_whole, only_filled, finding, noted, counted}

-- what is found where no reader is asked
abbrev pub filled : ℕ → List ℕ → Finding
filled n v = found (cond (only_filled n) (not (is_empty v)) true) 0 0

module _ (method : List ℕ) (n : ℕ) (v : List ℕ) where
  module _ {f : Finding} where
    pub read : (k : ℕ) → eqb k 6 ≡ false → n ≡ k → f ≡ finding [] k v → f ≡ finding method n v
    unfolding finding
    read k z q e = e ∙ rw (q, z)

    pub hops : n ≡ 2 → f ≡ found_whole (whole_number 3 255 v) → f ≡ finding method n v
    unfolding finding
    hops q e = e ∙ rw q

    pub cut : n ≡ 8 → f ≡ found_whole (whole_number 5 99999 v) → f ≡ finding method n v
    unfolding finding
    cut q e = e ∙ rw q

    pub sequence : n ≡ 6 → f ≡ finding method 6 v → f ≡ finding method n v
    sequence q e = e ∙ rw q

    pub other : (n ≡ 2 → ⊥) → (n ≡ 3 → ⊥) → (n ≡ 4 → ⊥) → (n ≡ 5 → ⊥) → (n ≡ 6 → ⊥) → (n ≡ 8 → ⊥) → (n ≡ 14 → ⊥) → (n ≡ 15 → ⊥)
        → (n ≡ 16 → ⊥) → f ≡ filled n v → f ≡ finding method n v
    unfolding finding
    other n2 n3 n4 n5 n6 n8 n14 n15 n16 e =
        e
        ∙ rw (ne_eqb n 2 n2, ne_eqb n 3 n3, ne_eqb n 4 n4, ne_eqb n 5 n5, ne_eqb n 6 n6, ne_eqb n 8 n8, ne_eqb n 14 n14, ne_eqb n 15 n15, ne_eqb n 16 n16)
        (go (only_filled n))
      where
        go : (b : Bool) → found (cond b (not (is_empty v)) true) 0 0 ≡ cond b (found (not (is_empty v)) 0 0) (found true 0 0)
        go true = refl
        go false = refl

  -- ---- and noted

  module _ (t : Tally) {f : Finding} {r : Tally} where
    pub read_noted : (k : ℕ) → eqb k 6 ≡ false → n ≡ k → f ≡ finding [] k v → r ≡ noted t k f → r ≡ noted t n (finding method n v)
    read_noted k z q e h = h ∙ ap (λ (j : ℕ). noted t j f) (sym q) ∙ ap (noted t n) (read k z q e)

    pub hops_noted : n ≡ 2 → f ≡ found_whole (whole_number 3 255 v) → r ≡ noted t 2 f → r ≡ noted t n (finding method n v)
    hops_noted q e h = h ∙ ap (λ (j : ℕ). noted t j f) (sym q) ∙ ap (noted t n) (hops q e)

    pub cut_noted : n ≡ 8 → f ≡ found_whole (whole_number 5 99999 v) → r ≡ noted t 8 f → r ≡ noted t n (finding method n v)
    cut_noted q e h = h ∙ ap (λ (j : ℕ). noted t j f) (sym q) ∙ ap (noted t n) (cut q e)

    pub sequence_noted : n ≡ 6 → f ≡ finding method 6 v → r ≡ noted t 6 f → r ≡ noted t n (finding method n v)
    sequence_noted q e h = h ∙ ap (λ (j : ℕ). noted t j f) (sym q) ∙ ap (noted t n) (sequence q e)

    pub other_noted : (n ≡ 2 → ⊥) → (n ≡ 3 → ⊥) → (n ≡ 4 → ⊥) → (n ≡ 5 → ⊥) → (n ≡ 6 → ⊥) → (n ≡ 8 → ⊥) → (n ≡ 14 → ⊥) → (n ≡ 15 → ⊥)
        → (n ≡ 16 → ⊥) → f ≡ filled n v → r ≡ counted t n f.good → r ≡ noted t n (finding method n v)
    unfolding counted noted
    other_noted n2 n3 n4 n5 n6 n8 n14 n15 n16 e h =
        let o : f ≡ finding method n v = other n2 n3 n4 n5 n6 n8 n14 n15 n16 e in
        h ∙ rw (ne_eqb n 2 n2, ne_eqb n 3 n3, ne_eqb n 4 n4, ne_eqb n 8 n8, ne_eqb n 14 n14, ne_eqb n 15 n15, ne_eqb n 16 n16, ← o)
