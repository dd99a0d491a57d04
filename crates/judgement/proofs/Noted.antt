-- A field is noted in two steps: what is noted of every field, then what a Require, a P-Asserted-Identity or the first of another number says.
use mathlib.Core.Path.{◌≡◌, refl, sym, ap, ◌∙◌}
use mathlib.Core.Bool.{Bool, true, false, not, ◌&&◌}
use Prim.Native.Nat.{ℕ, ◌+◌, ◌<◌, ◌^◌}
use lib.Dec.{eqb}
use borrow.Author.Tests.{eqb-true, ne_eqb}
use Rattle.judgement.specs.declared.Finding.{Finding}
use Rattle.judgement.specs.declared.Tally.{Tally}
use Rattle.judgement.specs.Sets.{has}
use Rattle.judgement.specs.Tallies.{fitting, noted, counted, required, identified, said}

module _ (seen n k : ℕ) where
  like : (b : Bool) → has seen n ≡ b → eqb n k ≡ true → has seen k ≡ b
  like b h z = ap (has seen) (sym (eqb-true n k z)) ∙ h

  -- a number that came before is the first of none
  came : has seen n ≡ true → (c : Bool) → eqb n k ≡ c → (c && not (has seen k)) ≡ false
  came h true z = rw (like true h z)
  came h false z = refl

  -- and one that did not is the first of its own
  new : has seen n ≡ false → (c : Bool) → eqb n k ≡ c → (c && not (has seen k)) ≡ c
  new h true z = rw (like false h z)
  new h false z = refl

module _ (t : Tally) (n : ℕ) (f : Finding) where
  pub identity_noted : n ≡ 15 → {b : Bool} → b ≡ fitting t.schemes f → {p : Tally} → p ≡ counted t n b → {r : Tally} → r ≡ identified p f
      → r ≡ noted t n f
  unfolding noted counted identified
  identity_noted q g e h = h ∙ rw (e, q, g)

  module _ {p : Tally} (e : p ≡ counted t n f.good) where
    tags_same : p.tags ≡ t.tags
    unfolding counted
    tags_same = rw e

    pub len_fits : t.tags + f.len < 2 ^ 32 → p.tags + f.len < 2 ^ 32
    len_fits h = rw tags_same h

    pub start_fits : t.tags + f.start < 2 ^ 32 → p.tags + f.start < 2 ^ 32
    start_fits h = rw tags_same h

    module _ {r : Tally} where
      pub require_noted : n ≡ 14 → r ≡ required p f → r ≡ noted t n f
      unfolding noted counted required
      require_noted q h = h ∙ rw (e, q)

      module _ (other : n ≡ 15 → ⊥) (another : n ≡ 14 → ⊥) where
        pub again_noted : {b : Bool} → b ≡ has t.seen n → b ≡ true → r ≡ p → r ≡ noted t n f
        unfolding noted counted
        again_noted s q h =
            let none_is : (k : ℕ) → (eqb n k && not (has t.seen k)) ≡ false = λ k. came t.seen n k (sym s ∙ q) (eqb n k) refl in
            h ∙ rw (e, ne_eqb n 15 other, ne_eqb n 14 another, none_is 2, none_is 3, none_is 4, none_is 8, none_is 16)

        pub first_noted : has t.seen n ≡ false → r ≡ said p n f → r ≡ noted t n f
        unfolding noted counted said
        first_noted s h =
            let own_is : (k : ℕ) → (eqb n k && not (has t.seen k)) ≡ eqb n k = λ k. new t.seen n k s (eqb n k) refl in
            h ∙ rw (e, ne_eqb n 15 other, ne_eqb n 14 another, own_is 2, own_is 3, own_is 4, own_is 8, own_is 16)

        pub new_noted : {b : Bool} → b ≡ has t.seen n → b ≡ false → r ≡ said p n f → r ≡ noted t n f
        new_noted s q h = first_noted (sym s ∙ q) h
