-- The first bytes of two parts compared at once: where the mask has no ones, bytes are the same whatever they are.
use mathlib.Core.Path.{◌≡◌, refl, sym, ap, ◌∙◌}
use mathlib.Core.Bool.{Bool, true, false, not, cond, ◌&&◌, and-true, and-false}
use mathlib.Core.List.{List, ◌++◌}
use Prim.Native.Nat.{ℕ, suc, ◌+◌, ◌-◌, ◌≤◌, ◌<◌, min}
use native.Mathlib.Omega.{arith}
use lib.Bits.{bit_and, and_zero_r, and_mask}
use lib.Dec.{eqb, ltb}
use lib.ListN.{length, take, drop, get_or, replicate, length-replicate, get_or-replicate, get_or-append}
use lib.Seq.{get_or-append-add, get_or-take, get_or-drop}
use borrow.Author.Tests.{eq-eqb, ne_eqb, ltb-true, ltb-false}
use Rattle.octets.specs.Scans.{same}
use Rattle.sip.proofs.Texts.{same_eq}
use Rattle.calls.specs.Parts.{keeping}
use Rattle.calls.proofs.Texts.{same_next, not_not}

-- ---- comparing with it: i bytes are looked at

mask_at : (n i : ℕ) → n ≤ 65 → i < 65 → ◌≡◌ {A = ℕ} (get_or keeping (65 - n + i) 0) (cond (ltb i n) 255 0)
unfolding keeping
mask_at n i h k = go (ltb i n) refl
  where
    go : (b : Bool) → ltb i n ≡ b → ◌≡◌ {A = ℕ} (get_or (replicate 65 255 ++ replicate 65 0) (65 - n + i) 0) (cond b 255 0)
    go true e =
        let l = ltb-true i n e in
        let m : 65 - n + i < 65 = omega arith in
        get_or-append (replicate 65 255) (replicate 65 0) 0 (65 - n + i) (rw (length-replicate {A = ℕ} 65 255) m)
        ∙ get_or-replicate {A = ℕ} 65 (65 - n + i) 255 0 m
    go false e =
        let l = ltb-false i n e in
        let z : 65 - n + i ≡ 65 + (i - n) = omega arith in
        let m : i - n < 65 = omega arith in
        rw z (get_or-append-add (replicate 65 255) (replicate 65 0) (i - n) 0 ∙ get_or-replicate {A = ℕ} 65 (i - n) 0 0 m)

and_ones : (x : ℕ) → x < 256 → bit_and x 255 ≡ x
and_ones x h = and_mask x 8 ∙ omega arith

module _ (a b : List ℕ) (n : ℕ) where
  -- the bytes that are looked at, of the n that count
  unfoldable pub Alike : ℕ → Bool
  Alike i = same (take (min i n) a) (take (min i n) b)

  pub alike_start : {i : ℕ} → i ≡ 0 → false ≡ not (Alike i)
  unfolding Alike same
  alike_start e = let z : min 0 n ≡ 0 = omega arith in rw (e, z)

  pub alike_end : (i : ℕ) → i ≤ 65 → 65 ≤ i → n ≤ 65 → {f : Bool} → f ≡ not (Alike i) → not f ≡ same (take n a) (take n b)
  unfolding Alike
  alike_end i h k l e = let z : min i n ≡ n = omega arith in rw (e, z) (not_not (same (take n a) (take n b)))

  module _ (la : length a ≡ 65) (lb : length b ≡ 65) (hn : n ≤ 65) (i : ℕ) (hi : i < 65) {j : ℕ} (q : j ≡ i + 1) {mask : List ℕ} (em : mask ≡ take 65 (drop (65 - n) keeping)) where
    abbrev x : ℕ
    x = get_or a i 0

    abbrev y : ℕ
    y = get_or b i 0

    module _ (hx : x < 256) (hy : y < 256) where
      abbrev kept : ℕ
      kept = get_or mask i 0

      kept_is : ◌≡◌ {A = ℕ} kept (cond (ltb i n) 255 0)
      kept_is = rw em (get_or-take 65 (drop (65 - n) keeping) i 0 hi ∙ get_or-drop (65 - n) keeping i 0 ∙ mask_at n i hn hi)

      -- one byte more is alike, unless it is found to differ
      alike_step : Alike j ≡ (Alike i && eqb (bit_and x kept) (bit_and y kept))
      unfolding Alike
      alike_step = rw kept_is (go (ltb i n) refl)
        where
          go : (c : Bool) → ltb i n ≡ c
              → same (take (min j n) a) (take (min j n) b)
              ≡ (same (take (min i n) a) (take (min i n) b) && eqb (bit_and x (cond c 255 0)) (bit_and y (cond c 255 0)))
          go true e =
              let h = ltb-true i n e in
              let v : min j n ≡ suc i = omega arith in
              let w : min i n ≡ i = omega arith in
              rw (v, w, and_ones x hx, and_ones y hy) (same_next a b i (omega arith) (omega arith))
          go false e =
              let h = ltb-false i n e in
              let v : min j n ≡ n = omega arith in
              let w : min i n ≡ n = omega arith in
              rw (v, w, and_zero_r x, and_zero_r y) (sym (and-true (same (take n a) (take n b))))

      pub unlike_found : (bit_and x kept ≡ bit_and y kept → ⊥) → {g : Bool} → g ≡ true → g ≡ not (Alike j)
      unlike_found e o = o ∙ sym (rw (alike_step, ne_eqb (bit_and x kept) (bit_and y kept) e, and-false (Alike i)))

      pub unlike_not : bit_and x kept ≡ bit_and y kept → {f : Bool} → f ≡ not (Alike i) → {g : Bool} → g ≡ f → g ≡ not (Alike j)
      unlike_not e w o = o ∙ w ∙ sym (rw (alike_step, eq-eqb (bit_and x kept) (bit_and y kept) e, and-true (Alike i)))

-- ---- one byte first

module _ (a b : List ℕ) (n : ℕ) where
  pub joins_not : 1 ≤ n → {one : ℕ} → one ≡ min 1 (n - 1) → (get_or a one 0 ≡ get_or b one 0 → ⊥)
      → eqb (get_or a one 0) (get_or b one 0) ≡ same (take n a) (take n b)
  joins_not h {one} g d = ne_eqb (get_or a one 0) (get_or b one 0) d ∙ go (same (take n a) (take n b)) refl
    where
      go : (s : Bool) → same (take n a) (take n b) ≡ s → false ≡ s
      go true z =
          let w = same_eq (take n a) (take n b) z in
          let v : get_or a one 0 ≡ get_or b one 0 =
          sym (get_or-take n a one 0 (omega arith)) ∙ ap (λ (u : List ℕ). get_or u one 0) w ∙ get_or-take n b one 0 (omega arith) in
          absurd (d v)
      go false z = refl
