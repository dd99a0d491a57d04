-- The first slot of a number: the loop over the slots, and the value that it speaks of.
use mathlib.Core.Path.{◌≡◌, refl, sym, ap, ◌∙◌}
use mathlib.Core.Bool.{Bool, true, false, cond}
use mathlib.Core.List.{List, ◌∷◌}
use mathlib.Core.Option.{some}
use Prim.Native.Nat.{ℕ, zero, suc, ◌+◌, ◌-◌, ◌≤◌, ◌<◌}
use native.Mathlib.Omega.{arith}
use native.Mathlib.Numerals.{add-one}
use lib.Dec.{eqb}
use lib.ListN.{length}
use borrow.Author.Tests.{eqb-true, eq-eqb, ne_eqb}
use Rattle.sip.specs.Refusals.{value_of, occurs}
use Rattle.sip.proofs.Tests.{never}
use Rattle.lines.specs.declared.Slot.{Slot}
use Rattle.lines.specs.Index.{no_slot, slot_at}
use Rattle.judgement.specs.Sets.{has}
use Rattle.judgement.specs.Entries.{Within, value_at, entry_at, entries_from, first_slot}

module _ (n : ℕ) (ns : List ℕ) where
  module _ (count i : ℕ) (h : first_slot n ns count 0 ≡ first_slot n ns (count - i) i) where
    step : i < count → first_slot n ns (count - i) i ≡ cond (eqb (slot_at ns i).number n) (slot_at ns i) (first_slot n ns (count - suc i) (suc i))
    unfolding first_slot
    step l = let z : count - i ≡ suc (count - suc i) = omega arith in rw z

    pub found_slot : i < count → {s : Slot} → s ≡ slot_at ns i → s.number ≡ n → s ≡ first_slot n ns count 0
    found_slot l {s} e q = e ∙ sym (h ∙ step l ∙ rw (eq-eqb (slot_at ns i).number n (ap (λ (x : Slot). x.number) (sym e) ∙ q)))

    pub other_slot : i < count → {s : Slot} → s ≡ slot_at ns i → (s.number ≡ n → ⊥) → {j : ℕ} → j ≡ i + 1 → first_slot n ns count 0 ≡ first_slot n ns (count - j) j
    other_slot l {s} e q {j} f =
        let y : j ≡ suc i = f ∙ add-one i in
        h ∙ step l ∙ rw (ne_eqb (slot_at ns i).number n (λ z. q (ap (λ (x : Slot). x.number) e ∙ z)), y)

    pub no_slot_lem : count ≤ i → no_slot ≡ first_slot n ns count 0
    unfolding first_slot
    no_slot_lem l = let z : count - i ≡ 0 = omega arith in sym (h ∙ rw z)

  pub begun_slot : (count : ℕ) → first_slot n ns count 0 ≡ first_slot n ns (count - 0) 0
  begun_slot count = let z : count - 0 ≡ count = omega arith in rw z

  module _ (m : List ℕ) (within : Within m ns) where
    first_fits : (k i : ℕ) → (first_slot n ns k i).start + (first_slot n ns k i).len ≤ length m
    unfolding first_slot
    first_fits zero i = omega arith
    first_fits (suc k) i = go (eqb (slot_at ns i).number n) (first_fits k (suc i))
      where
        go : (b : Bool) → (first_slot n ns k (suc i)).start + (first_slot n ns k (suc i)).len ≤ length m
            → (cond b (slot_at ns i) (first_slot n ns k (suc i))).start + (cond b (slot_at ns i) (first_slot n ns k (suc i))).len ≤ length m
        go true l = within i
        go false l = l

    pub slot_fits : (count : ℕ) {s : Slot} → s ≡ first_slot n ns count 0 → s.start + s.len ≤ length m
    slot_fits count e = rw e (first_fits count 0)

  -- in a set that has the number, its first value is that of the slot
  pub slot_value : (set : ℕ) (m : List ℕ) → has set n ≡ true → (k i : ℕ) → occurs n (entries_from set m ns k i) ≡ true
      → value_of n (entries_from set m ns k i) ≡ some (value_at m (first_slot n ns k i))
  unfolding entries_from first_slot occurs value_of
  slot_value set m h zero i e = never (cc)
  slot_value set m h (suc k) i e = go (has set (slot_at ns i).number) (eqb (slot_at ns i).number n) refl refl e (slot_value set m h k (suc i))
    where
      go : (a b : Bool) → has set (slot_at ns i).number ≡ a → eqb (slot_at ns i).number n ≡ b
          → occurs n (cond a (entry_at m (slot_at ns i) ∷ entries_from set m ns k (suc i)) (entries_from set m ns k (suc i))) ≡ true
          → (occurs n (entries_from set m ns k (suc i)) ≡ true
          → value_of n (entries_from set m ns k (suc i)) ≡ some (value_at m (first_slot n ns k (suc i))))
          → value_of n (cond a (entry_at m (slot_at ns i) ∷ entries_from set m ns k (suc i)) (entries_from set m ns k (suc i)))
          ≡ some (value_at m (cond b (slot_at ns i) (first_slot n ns k (suc i))))
      go true true x y e r = rw y
      go true false x y e r = rw y (r (rw y at e))
      go false true x y e r = let z : has set n ≡ false = rw (eqb-true (slot_at ns i).number n y) at x in never (cc)
      go false false x y e r = r e
