-- A run of value bytes by blocks: a byte that is no control character is a value byte, and sixteen of them are one step of the run.
use mathlib.Core.Path.{◌≡◌, refl, sym, ◌∙◌}
use mathlib.Core.Bool.{Bool, true, false, not, cond, ◌||◌}
use mathlib.Core.List.{List}
use Prim.Native.Nat.{ℕ, ◌+◌, ◌≤◌, ◌<◌}
use native.Mathlib.Omega.{arith}
use lib.Dec.{eqb, ltb}
use lib.ListN.{length, drop, get_or}
use borrow.Author.Tests.{ne_eqb, eqb-false, lt-ltb, ltb-true, ltb-false, le-leb, lt-leb, not-false}
use Rattle.octets.specs.Classes.{is_value}
use Rattle.octets.specs.Scans.{run}
use Rattle.octets.proofs.Runs.{run_at}

-- ---- one byte

module _ (b : ℕ) where
  pub low_control : b < 32 → ltb b 32 ≡ (ltb b 32 || eqb b 127)
  low_control h = rw (lt-ltb b 32 h)

  visible : 32 ≤ b → (b ≡ 127 → ⊥) → b < 256 → is_value b ≡ true
  unfolding is_value
  visible h n l = go (ltb b 127) refl
    where
      go : (t : Bool) → ltb b 127 ≡ t → is_value b ≡ true
      go true e = let k : b ≤ 126 = omega (arith, ltb-true b 127 e) in rw (ne_eqb b 9 (λ z. omega arith), le-leb 32 b h, le-leb b 126 k)
      go false e =
          let k : 126 < b = omega (arith, ltb-false b 127 e) in
          let j : 128 ≤ b = omega (arith, ltb-false b 127 e) in
          rw (ne_eqb b 9 (λ z. omega arith), le-leb 32 b h, lt-leb b 126 k, le-leb 128 b j, le-leb b 255 (omega arith))

  no_control : b < 256 → (ltb b 32 || eqb b 127) ≡ false → is_value b ≡ true
  no_control l e = go (ltb b 32) (eqb b 127) refl refl e
    where
      go : (t u : Bool) → ltb b 32 ≡ t → eqb b 127 ≡ u → (t || u) ≡ false → is_value b ≡ true
      go true u p q h = let z : ◌≡◌ {A = ℕ} 0 1 = cc in absurd (omega arith)
      go false true p q h = let z : ◌≡◌ {A = ℕ} 0 1 = cc in absurd (omega arith)
      go false false p q h = visible (ltb-false b 32 p) (eqb-false b 127 q) l

-- ---- a block, of which j bytes are looked at

-- as long as no control character is found, they are value bytes
unfoldable pub Looked : List ℕ → ℕ → Bool → ℕ → Type 0
Looked s at found j = run is_value (drop at s) ≡ cond found (run is_value (drop at s)) (j + run is_value (drop (at + j) s))

module _ (s : List ℕ) (at : ℕ) where
  pub none_looked : Looked s at false 0
  unfolding Looked
  none_looked = let z : at + 0 ≡ at = omega arith in rw z (omega arith)

  pub found_looked : {f : Bool} → f ≡ true → (j : ℕ) → Looked s at f j
  unfolding Looked
  found_looked e j = rw e

  module _ (f : Bool) (j : ℕ) (h : Looked s at f j) where
    pub next_looked : at + 16 ≤ length s → j < 16 → get_or s (at + j) 0 < 256
        → {a : Bool} → a ≡ (ltb (get_or s (at + j) 0) 32 || eqb (get_or s (at + j) 0) 127) → a ≡ false
        → {g : Bool} → g ≡ f → {k : ℕ} → k ≡ j + 1 → Looked s at g k
    unfolding Looked
    next_looked l m r q n e {k} z = rw e (go f h)
      where
        step : run is_value (drop (at + j) s) ≡ 1 + run is_value (drop (at + k) s)
        step =
            let y : at + k ≡ at + j + 1 = omega arith in
            rw y (run_at is_value s (at + j) (omega arith) (no_control (get_or s (at + j) 0) r (sym q ∙ n)) ∙ omega arith)

        go : (f : Bool) → run is_value (drop at s) ≡ cond f (run is_value (drop at s)) (j + run is_value (drop (at + j) s))
            → run is_value (drop at s) ≡ cond f (run is_value (drop at s)) (k + run is_value (drop (at + k) s))
        go true h = refl
        go false h = omega (arith, step)

    pub block_looked : j ≤ 16 → 16 ≤ j
        → run is_value (drop at s) ≡ cond (not f) (16 + run is_value (drop (at + 16) s)) (run is_value (drop at s))
    unfolding Looked
    block_looked l k = let z : j ≡ 16 = omega arith in go f (rw z at h)
      where
        go : (f : Bool) → run is_value (drop at s) ≡ cond f (run is_value (drop at s)) (16 + run is_value (drop (at + 16) s))
            → run is_value (drop at s) ≡ cond (not f) (16 + run is_value (drop (at + 16) s)) (run is_value (drop at s))
        go true h = refl
        go false h = h

-- ---- the blocks of a run, which have come to i

module _ (s : List ℕ) (at i : ℕ) (e : at + run is_value (drop at s) ≡ i + run is_value (drop i s)) where
  pub block_next : (a : Bool) → run is_value (drop i s) ≡ cond a (16 + run is_value (drop (i + 16) s)) (run is_value (drop i s)) → not a ≡ false
      → {k : ℕ} → k ≡ i + 16 → at + run is_value (drop at s) ≡ k + run is_value (drop k s)
  block_next a h n z = rw z (omega (arith, rw (not-false a n) at h))

  pub blocks_then : {r : ℕ} → r ≡ i + run is_value (drop i s) → r ≡ at + run is_value (drop at s)
  blocks_then q = omega arith
