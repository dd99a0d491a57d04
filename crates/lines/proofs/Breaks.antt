-- A line break in a text: at a place by the byte that stands there, and in the part of a value that is left.
use mathlib.Core.Path.{◌≡◌, refl, sym, ap, ◌∙◌}
use mathlib.Core.Bool.{Bool, true, false, not, cond, ◌||◌}
use mathlib.Core.List.{List, [], ◌∷◌}
use Prim.Native.Nat.{ℕ, zero, suc, ◌+◌, ◌-◌, ◌*◌, ◌≤◌, ◌<◌}
use native.Mathlib.Omega.{arith}
use lib.ListN.{length, take, drop}
use borrow.Author.Tests.{not-true}
use Rattle.octets.specs.Classes.{bit, is_break, is_gap}
use Rattle.octets.specs.Scans.{run, any}
use Rattle.sip.specs.Lines.{unless_last, trim_end, trim}
use Rattle.sip.specs.Values.{is_empty}
use Rattle.sip.specs.Readings.{no_span}
use Rattle.sip.specs.declared.Span.{Span}
use Rattle.lines.specs.Sizes.{value_part}
use Rattle.lines.specs.Passes.{slot_for}
use Rattle.lines.specs.declared.Slot.{Slot}

-- ---- the part that is left

module _ (p : ℕ → Bool) where
  -- it stands at the front
  pub trim_end_take : (s : List ℕ) → trim_end p s ≡ take (length (trim_end p s)) s
  unfolding trim_end
  trim_end_take [] = refl
  trim_end_take (b ∷ s) = go (trim_end p s) (trim_end_take s)
    where
      last : (t : Bool) → cond t [] (b ∷ []) ≡ take (length (cond t [] (b ∷ []))) (b ∷ s)
      last true = refl
      last false = refl

      go : (y : List ℕ) → y ≡ take (length y) s → unless_last p b y ≡ take (length (unless_last p b y)) (b ∷ s)
      go [] e = last (p b)
      go (c ∷ y) e = ap (λ (x : List ℕ). b ∷ x) e

  -- of which a line break is one of the text
  any_take : (n : ℕ) (s : List ℕ) → any p s ≡ false → any p (take n s) ≡ false
  unfolding any
  any_take zero s e = refl
  any_take (suc n) [] e = refl
  any_take (suc n) (b ∷ s) e = go (p b) (any_take n s) e
    where
      go : (t : Bool) → (any p s ≡ false → any p (take n s) ≡ false) → (t || any p s) ≡ false → (t || any p (take n s)) ≡ false
      go true f q = q
      go false f q = f q

  any_drop : (n : ℕ) (s : List ℕ) → any p s ≡ false → any p (drop n s) ≡ false
  unfolding any
  any_drop zero s e = e
  any_drop (suc n) [] e = refl
  any_drop (suc n) (b ∷ s) e = go (p b) (any_drop n s) e
    where
      go : (t : Bool) → (any p s ≡ false → any p (drop n s) ≡ false) → (t || any p s) ≡ false → any p (drop n s) ≡ false
      go true f q = let z : ◌≡◌ {A = ℕ} 0 1 = cc in absurd (omega arith)
      go false f q = f q

-- a value without its gaps is a part of it
pub trim_part : (v : List ℕ) → trim is_gap v ≡ take (length (trim is_gap v)) (drop (run is_gap v) v)
unfolding trim
trim_part v = trim_end_take is_gap (drop (run is_gap v) v)

-- ---- the slot of a value, by its part

-- g bytes are before the part t
abbrev slot_by : ℕ → ℕ → ℕ → List ℕ → Slot
slot_by number at g t =
    let q = cond (is_empty t) no_span (record { start = at + g; len = length t }) in
    record { number = number; start = q.start; len = q.len; folded = any is_break t }

module _ (number at : ℕ) (v : List ℕ) {p : Span} (hp : p ≡ value_part v) where
  part_by : p ≡ cond (is_empty (trim is_gap v)) no_span (record { start = run is_gap v; len = length (trim is_gap v) })
  unfolding value_part
  part_by = hp

  pub empty_slot : {l : ℕ} → l ≡ p.len → l < 1 → record { number = number; start = 0; len = 0; folded = false } ≡ slot_for number at v
  unfolding slot_for is_empty any
  empty_slot {l} k h = go (trim is_gap v) part_by
    where
      go : (t : List ℕ) → p ≡ cond (is_empty t) no_span (record { start = run is_gap v; len = length t })
          → record { number = number; start = 0; len = 0; folded = false } ≡ slot_by number at (run is_gap v) t
      go [] e = refl
      go (b ∷ t) e = absurd (omega (arith, ap (λ (x : Span). x.len) e))

  module _ {l : ℕ} (k : l ≡ p.len) (h : 1 ≤ l) where
    part_is : p ≡ record { start = run is_gap v; len = length (trim is_gap v) }
    unfolding is_empty
    part_is = go (trim is_gap v) part_by
      where
        go : (t : List ℕ) → p ≡ cond (is_empty t) no_span (record { start = run is_gap v; len = length t }) → p ≡ record { start = run is_gap v; len = length t }
        go [] e = absurd (omega (arith, ap (λ (x : Span). x.len) e))
        go (b ∷ t) e = e

    module _ {i : ℕ} (hi : i ≡ at + p.start) where
      slot_by_lem : {f : Bool} → f ≡ any is_break (trim is_gap v) → record { number = number; start = i; len = l; folded = f } ≡ slot_for number at v
      unfolding slot_for is_empty
      slot_by_lem {f} e =
          let a : at + run is_gap v ≡ i = sym (hi ∙ ap (λ (x : Span). at + x.start) part_is) in
          let b : length (trim is_gap v) ≡ l = sym (k ∙ ap (λ (x : Span). x.len) part_is) in
          go (trim is_gap v) a b e
        where
          go : (t : List ℕ) → at + run is_gap v ≡ i → length t ≡ l → f ≡ any is_break t
              → record { number = number; start = i; len = l; folded = f } ≡ slot_by number at (run is_gap v) t
          go [] a b e = absurd (omega arith)
          go (c ∷ t) a b e = rw (a, e, ← b)

      pub plain_slot : {d : Bool} → d ≡ any is_break v → not d ≡ true → record { number = number; start = i; len = l; folded = false } ≡ slot_for number at v
      plain_slot {d} hd q =
          let n : any is_break v ≡ false = sym hd ∙ not-true d q in
          slot_by_lem (sym (ap (any is_break) (trim_part v) ∙ any_take is_break (length (trim is_gap v)) (drop (run is_gap v) v) (any_drop is_break (run is_gap v) v n)))

      pub unfolded_slot : {d : Bool} → d ≡ any is_break v → d ≡ false → record { number = number; start = i; len = l; folded = d } ≡ slot_for number at v
      unfolded_slot {d} hd q = rw q (plain_slot hd (rw q))

      pub broken_slot :
          {g e : ℕ} → g ≡ p.start → e ≡ g + l → {f : Bool} → f ≡ any is_break (take (e - g) (drop g v))
          → record { number = number; start = i; len = l; folded = f } ≡ slot_for number at v
      broken_slot {g} {e} hg he hf =
          let a : g ≡ run is_gap v = hg ∙ ap (λ (z : Span). z.start) part_is in
          let b : e - g ≡ length (trim is_gap v) = omega (arith, ap (λ (z : Span). z.len) part_is) in
          slot_by_lem (hf ∙ ap (any is_break) (rw (b, a) (sym (trim_part v))))

-- ---- a value on one line that stands after one space

pub after_space : {n : ℕ} (r : Bool) → r ≡ true → 2 * bit r ≤ n → 2 ≤ n
after_space r q k = omega (arith, rw q at k)

module _ (number at : ℕ) (v : List ℕ) (r : Bool) (q : r ≡ true) (k : 2 * bit r ≤ length v) where
  pub spaced_slot : {d : Bool} → d ≡ any is_break v → not d ≡ true
      → value_part v ≡ cond r (record { start = 1; len = length v - 1 }) (value_part v)
      → {i : ℕ} → i ≡ at + 1 → {l : ℕ} → l ≡ length v - 1
      → record { number = number; start = i; len = l; folded = false } ≡ slot_for number at v
  spaced_slot hd n e {i} hi {l} hl =
      let p : value_part v ≡ record { start = 1; len = length v - 1 } = rw q at e in
      let b : l ≡ (value_part v).len = rw p hl in
      let a : i ≡ at + (value_part v).start = rw p hi in
      plain_slot number at v refl b (omega (arith, after_space r q k)) a hd n
