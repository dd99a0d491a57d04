-- Laws of `trim_end`, by induction on the text; and of the part of a value that is left.
use mathlib.Core.Path.{◌≡◌, refl, sym, ◌∙◌}
use mathlib.Core.Bool.{Bool, true, false, not, cond}
use mathlib.Core.List.{List, [], ◌∷◌}
use Prim.Native.Nat.{ℕ, zero, suc, ◌+◌, ◌-◌, ◌*◌, ◌≤◌, ◌<◌}
use native.Mathlib.Omega.{arith}
use lib.Dec.{ltb}
use lib.ListN.{length, take, drop, get_or, length-drop}
use lib.Seq.{get_or-drop}
use borrow.Author.Tests.{not-true, not-false, ne_eqb, ltb-true}
use Rattle.octets.specs.Classes.{bit, is_gap}
use Rattle.octets.specs.Scans.{run}
use Rattle.octets.proofs.Places.{drop_slice}
use Rattle.octets.proofs.Runs.{run_at, run_stop}
use Rattle.sip.specs.Lines.{unless_last, trim_end, trim}
use Rattle.sip.specs.Readings.{no_span}
use Rattle.sip.specs.Values.{is_empty}
use Rattle.lines.specs.Sizes.{value_part}

module _ (p : ℕ → Bool) where
  all_go : (s : List ℕ) → ((k : ℕ) → k < length s → not (p (get_or s k 0)) ≡ false) → trim_end p s ≡ []
  unfolding trim_end
  all_go [] h = refl
  all_go (b ∷ s) h = rw (all_go s (λ k l. h (suc k) (omega arith)), not-false (p b) (h 0 (omega arith)))

  pub none_left : (s : List ℕ) → ((k : ℕ) → k < length s → not (p (get_or s k 0)) ≡ false) → 0 ≡ length (trim_end p s)
  none_left s h = rw (all_go s h)

  stays_before : (b : ℕ) (s : List ℕ) → 1 ≤ length s → 1 + length s ≡ length (unless_last p b s)
  stays_before b [] h = absurd (omega arith)
  stays_before b (x ∷ s) h = omega arith

  pub last_stays : (s : List ℕ) (i : ℕ) → i < length s → not (p (get_or s i 0)) ≡ true
      → ((k : ℕ) → i + 1 ≤ k → k < length s → not (p (get_or s k 0)) ≡ false) → i + 1 ≡ length (trim_end p s)
  unfolding trim_end
  last_stays [] i l f after = absurd (omega arith)
  last_stays (b ∷ s) zero l f after = rw (all_go s (λ k m. after (suc k) (omega arith) (omega arith)), not-true (p b) f)
  last_stays (b ∷ s) (suc i) l f after =
      let rest : i + 1 ≡ length (trim_end p s) = last_stays s i (omega arith) f (λ k m n. after (suc k) (omega arith) (omega arith)) in
      omega (arith, rest, stays_before b (trim_end p s) (omega (arith, rest)))

-- ---- the part of a value

module _ (s : List ℕ) {n : ℕ} (end : n ≡ 0 + run is_gap (drop 0 s)) {l : ℕ} (hl : l ≡ length (trim_end is_gap (take (length s - n) (drop n s)))) where
  hn : n ≡ run is_gap s
  hn = omega arith

  long_is : l ≡ length (trim is_gap s)
  unfolding trim
  long_is = hl ∙ rw (drop_slice s n, hn)

  pub no_part : l < 1 → no_span ≡ value_part s
  unfolding value_part is_empty
  no_part h = go (trim is_gap s) (omega (arith, long_is))
    where
      go : (v : List ℕ) → length v ≡ 0 → no_span ≡ cond (is_empty v) no_span (record { start = run is_gap s; len = length v })
      go [] z = refl
      go (b ∷ v) z = absurd (omega arith)

  pub a_part : 1 ≤ l → record { start = n; len = l } ≡ value_part s
  unfolding value_part is_empty
  a_part h = rw (hn, long_is) (go (trim is_gap s) (omega (arith, long_is)))
    where
      go : (v : List ℕ) → 1 ≤ length v → record { start = run is_gap s; len = length v } ≡ cond (is_empty v) no_span (record { start = run is_gap s; len = length v })
      go [] z = absurd (omega arith)
      go (b ∷ v) z = refl

-- ---- one space stands before it, and no gap at its ends

not_gap : (b : ℕ) → 32 < b → is_gap b ≡ false
unfolding is_gap
not_gap b h = rw (ne_eqb b 32 (λ z. omega arith), ne_eqb b 9 (λ z. omega arith), ne_eqb b 13 (λ z. omega arith), ne_eqb b 10 (λ z. omega arith))

module _ (s : List ℕ) where
  plain_part : 2 ≤ length s → get_or s 0 0 ≡ 32 → 32 < get_or s 1 0 → 32 < get_or s (length s - 1) 0 → value_part s ≡ record { start = 1; len = length s - 1 }
  unfolding is_gap
  plain_part h e f g =
      let t : List ℕ = drop 1 s in
      let long : length t ≡ length s - 1 = length-drop 1 s in
      let last : get_or t (length t - 1) 0 ≡ get_or s (length s - 1) 0 = let z : 1 + (length t - 1) ≡ length s - 1 = omega arith in get_or-drop 1 s (length t - 1) 0 ∙ rw z in
      let before : 1 ≡ 0 + run is_gap s = omega (arith, run_at is_gap s 0 (omega arith) (rw e), run_stop is_gap s 1 (omega arith) (not_gap (get_or s 1 0) f)) in
      let none : not (is_gap (get_or t (length t - 1) 0)) ≡ true = rw (last, not_gap (get_or s (length s - 1) 0) g) in
      let stays : length t ≡ length (trim_end is_gap t) = omega (arith, last_stays is_gap t (length t - 1) (omega arith) none (λ k m n. absurd (omega arith))) in
      sym (a_part s before (rw (drop_slice s 1) (omega arith)) (omega arith))

  pub plain_test : 2 ≤ length s → get_or s 0 0 ≡ 32 → 32 < get_or s 1 0
      → value_part s ≡ cond (ltb 32 (get_or s (length s - 1) 0)) (record { start = 1; len = length s - 1 }) (value_part s)
  plain_test h e f = go (ltb 32 (get_or s (length s - 1) 0)) refl
    where
      go : (t : Bool) → ltb 32 (get_or s (length s - 1) 0) ≡ t → value_part s ≡ cond t (record { start = 1; len = length s - 1 }) (value_part s)
      go true q = plain_part h e f (ltb-true 32 (get_or s (length s - 1) 0) q)
      go false q = refl

-- the bytes of what passes a test that asks for two
pub two_bytes : (n : ℕ) (t : Bool) → 2 ≤ n → 2 * bit t ≤ n
two_bytes n true h = omega arith
two_bytes n false h = omega arith
