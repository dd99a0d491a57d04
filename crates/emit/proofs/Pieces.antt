-- A text is folded from a place on: a byte that is no gap by itself, and a maximal run of gap bytes at once.
use mathlib.Core.Path.{◌≡◌, sym, ◌∙◌}
use mathlib.Core.Bool.{Bool, true, false}
use mathlib.Core.List.{List, [], ◌∷◌, ◌++◌}
use Prim.Native.Nat.{ℕ, zero, suc, ◌+◌, ◌-◌, ◌≤◌, ◌<◌}
use native.Mathlib.Omega.{arith}
use lib.ListN.{length, take, drop, get_or, drop_of_length-le}
use lib.Seq.{drop-drop}
use Rattle.octets.specs.Classes.{is_break, is_gap}
use Rattle.octets.specs.Scans.{run, any}
use Rattle.octets.proofs.Places.{drop1}
use Rattle.octets.proofs.Runs.{run_at}
use Rattle.sip.specs.Lines.{joined, folded, unfolded_at}
use Rattle.sip.proofs.Canonical.{folded_byte, folded_run}
use Rattle.sip.proofs.Unfolded.{from_in, from_past, unfolded_first, unfolded_next, unfolded_run}

-- ---- a run, joined, by the answer t whether it holds a break

module _ (g : List ℕ) {t : Bool} (e : t ≡ any is_break g) where
  pub joined_space : t ≡ true → joined g ≡ 32 ∷ []
  unfolding joined
  joined_space q = rw (← e, q)

  pub joined_same : t ≡ false → joined g ≡ g
  unfolding joined
  joined_same q = rw (← e, q)

-- ---- at the place i of v, by the answer t whether a gap byte stands there

module _ (v : List ℕ) (i : ℕ) (h : i < length v) {t : Bool} (q : t ≡ is_gap (get_or v i 0)) where
  module _ (o : t ≡ false) where
    pub byte_folded : {j : ℕ} → j ≡ i + 1 → folded 0 (drop i v) ≡ get_or v i 0 ∷ folded 0 (drop j v)
    byte_folded z = rw (z, drop1 v i h) (folded_byte (get_or v i 0) (drop (i + 1) v) (sym q ∙ o))

    pub byte_found : (k : ℕ) → k < 1 → unfolded_at k 0 (drop i v) ≡ 0
    byte_found k l = let z : k ≡ 0 = omega arith in rw (z, drop1 v i h) (unfolded_first (get_or v i 0) (drop (i + 1) v) (sym q ∙ o))

    pub byte_past : {j : ℕ} (k : ℕ) → 1 ≤ k → j ≡ i + 1 → unfolded_at k 0 (drop i v) ≡ suc (unfolded_at (k - 1) 0 (drop j v))
    byte_past zero l z = absurd (omega arith)
    byte_past (suc k) l z =
        let n : suc k - 1 ≡ k = omega arith in
        rw (n, z, drop1 v i h) (unfolded_next (get_or v i 0) (drop (i + 1) v) (sym q ∙ o) k)

  -- the run ends at e, and its bytes are p
  module _ (y : t ≡ true) {j e : ℕ} (z : j ≡ i + 1) (r : e ≡ j + run is_gap (drop j v)) {p : List ℕ} (a : p ≡ take (e - i) (drop i v)) where
    ends : e ≡ i + run is_gap (drop i v)
    ends = omega (arith, r, rw z at r, run_at is_gap v i h (sym q ∙ y))

    bytes : p ≡ take (run is_gap (drop i v)) (drop i v)
    bytes = let n : e - i ≡ run is_gap (drop i v) = omega (arith, ends) in a ∙ rw n

    left : drop (run is_gap (drop i v)) (drop i v) ≡ drop e v
    left = drop-drop (run is_gap (drop i v)) i v ∙ rw ends

    pub run_folded : folded 0 (drop i v) ≡ joined p ++ folded 0 (drop e v)
    run_folded = folded_run (drop i v) ∙ rw (bytes, left)

    module _ (k : ℕ) {m : ℕ} (l : m ≡ length (joined p)) where
      size : m ≡ length (joined (take (run is_gap (drop i v)) (drop i v)))
      size = rw (← bytes) l

      pub run_found : k < m → unfolded_at k 0 (drop i v) ≡ k
      run_found b = unfolded_run k (drop i v) ∙ from_in k (run is_gap (drop i v)) (drop i v) (omega (arith, size))

      pub run_past : m ≤ k → i + unfolded_at k 0 (drop i v) ≡ e + unfolded_at (k - m) 0 (drop e v)
      run_past b =
          let f : unfolded_at k 0 (drop i v) ≡ run is_gap (drop i v) + unfolded_at (k - m) 0 (drop e v)
          = unfolded_run k (drop i v) ∙ from_past k (run is_gap (drop i v)) (drop i v) (omega (arith, size)) ∙ rw (← size, left) in
          omega (arith, ends)

pub folded_end : (v : List ℕ) {i : ℕ} → length v ≤ i → folded 0 (drop i v) ≡ []
unfolding folded
folded_end v h = rw (drop_of_length-le v h)
