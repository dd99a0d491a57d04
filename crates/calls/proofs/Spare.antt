-- The first place that is free or holds the pair of an earlier one: the places before k are neither.
use mathlib.Core.Path.{◌≡◌, refl, sym, ap, ◌∙◌}
use mathlib.Core.Bool.{Bool, true, false}
use mathlib.Core.List.{List, [], ◌∷◌, ◌++◌}
use mathlib.Core.Option.{Option, none, some}
use Prim.Native.Nat.{ℕ, zero, suc, ◌+◌, ◌*◌, ◌-◌, ◌≤◌, ◌<◌}
use native.Mathlib.Omega.{arith}
use lib.ListN.{length, take, drop, get_or}
use lib.Seq.{drop-drop}
use borrow.Author.Tests.{lt-ltb, le-ltb}
use Rattle.std.proofs.Common.{Option as Maybe, Some, None, position}
use Rattle.sip.specs.Calls.{Pair, places, pair_at, with_pair, pairs_in, first_where, starts_with0, first_spare, new_place}
use Rattle.sip.proofs.Tests.{never}
use Rattle.sip.proofs.Calls.Places.{spare_free, spare_again, spare_next}
use Rattle.calls.specs.Places.{is_taken, is_spare}
use Rattle.calls.specs.Parts.{firsts_of}
use Rattle.calls.proofs.Firsts.{places_end, places_step, found_first, found_within, unfound}
use Rattle.calls.proofs.Taken.{again_spare, new_spare, unformed_spare}

-- ---- one place more

places_snoc : (k : ℕ) (t : List ℕ) → places (suc k) t ≡ places k t ++ (take 194 (drop (k * 194) t) ∷ [])
unfolding places
places_snoc zero t = refl
places_snoc (suc k) t =
    let y : suc k * 194 ≡ 194 + k * 194 = omega arith in
    ap (λ (x : List (List ℕ)). take 194 t ∷ x) (places_snoc k (drop 194 t)) ∙ rw (y, drop-drop (k * 194) 194 t)

pairs_snoc : (cs : List (List ℕ)) (c : List ℕ) (p : Pair) → pair_at c ≡ some p → pairs_in (cs ++ (c ∷ [])) ≡ pairs_in cs ++ (p ∷ [])
unfolding pairs_in
pairs_snoc [] c p e = rw e
pairs_snoc (d ∷ cs) c p e = rw (pairs_snoc cs c p e) (go (pair_at d))
  where
    go : (o : Option Pair) → with_pair o (pairs_in cs ++ (p ∷ [])) ≡ with_pair o (pairs_in cs) ++ (p ∷ [])
    go none = refl
    go (some q) = refl

spare_yes : (before : List Pair) (c : List ℕ) (cs : List (List ℕ)) → is_spare before c ≡ true → first_spare before (c ∷ cs) ≡ 0
unfolding is_spare
spare_yes before c cs e = go (pair_at c) refl
  where
    go : (o : Option Pair) → pair_at c ≡ o → first_spare before (c ∷ cs) ≡ 0
    go none f = spare_free before c cs f
    go (some p) f = spare_again before c cs p f (rw (f, is_spare) at e)

spare_no : (k : ℕ) (t : List ℕ) (cs : List (List ℕ)) → is_spare (pairs_in (places k t)) (take 194 (drop (k * 194) t)) ≡ false
    → first_spare (pairs_in (places k t)) (take 194 (drop (k * 194) t) ∷ cs) ≡ suc (first_spare (pairs_in (places (suc k) t)) cs)
unfolding is_spare
spare_no k t cs e = go (pair_at (take 194 (drop (k * 194) t))) refl
  where
    go : (o : Option Pair) → pair_at (take 194 (drop (k * 194) t)) ≡ o
        → first_spare (pairs_in (places k t)) (take 194 (drop (k * 194) t) ∷ cs) ≡ suc (first_spare (pairs_in (places (suc k) t)) cs)
    go none f = let z : true ≡ false = rw (f, is_spare) at e in never (cc)
    go (some p) f =
        rw (places_snoc k t, pairs_snoc (places k t) (take 194 (drop (k * 194) t)) p f)
        (spare_next (pairs_in (places k t)) (take 194 (drop (k * 194) t)) cs p f (rw (f, is_spare) at e))

-- ---- the loop

-- the places before k are neither free nor a copy
unfoldable pub Passed : List ℕ → ℕ → Type 0
Passed t k = first_spare [] (places 32 t) ≡ k + first_spare (pairs_in (places k t)) (places (32 - k) (drop (k * 194) t))

module _ (t : List ℕ) where
  pub passed_start : {k : ℕ} → k ≡ 0 → Passed t k
  unfolding Passed pairs_in places
  passed_start {k} e = rw e (omega arith)

  module _ (k : ℕ) (e : Passed t k) where
    pub passed_end : 32 ≤ k → k ≡ first_spare [] (places 32 t)
    unfolding Passed first_spare
    passed_end h = sym (e ∙ rw (places_end 32 t h) (omega arith))

    module _ (l : length t ≡ 6208) (h : k < 32) where
      stops : is_spare (pairs_in (places k t)) (take 194 (drop (k * 194) t)) ≡ true → k ≡ first_spare [] (places 32 t)
      unfolding Passed
      stops y =
          let s = spare_yes (pairs_in (places k t)) (take 194 (drop (k * 194) t)) (places (32 - (k + 1)) (drop ((k + 1) * 194) t)) y in
          sym (e ∙ rw (places_step 32 t k h refl, s) (omega arith))

      module _ {d : List ℕ} (ed : d ≡ firsts_of 3 (places 32 t)) {v : ℕ} (ev : v ≡ get_or d k 0) where
        pub passed_again : v < k → k ≡ first_spare [] (places 32 t)
        passed_again g = stops (again_spare t l k h ed ev g)

        pub passed_next : k ≤ v → {b : Bool} → b ≡ is_taken (take 194 (drop (k * 194) t)) → b ≡ true → {j : ℕ} → j ≡ k + 1 → Passed t j
        unfolding Passed
        passed_next g eb n {j} q =
            let z : j ≡ suc k = omega arith in
            let s = spare_no k t (places (32 - j) (drop (j * 194) t)) (new_spare t l k h ed ev g eb n) in
            e ∙ rw (places_step 32 t k h q, s, ← z) (omega arith)

      pub passed_free : {b : Bool} → b ≡ is_taken (take 194 (drop (k * 194) t)) → b ≡ false → k ≡ first_spare [] (places 32 t)
      passed_free eb n = stops (unformed_spare t l k h eb n)

-- ---- where a new pair goes

module _ (t : List ℕ) {r : Maybe ℕ} (e : r ≡ position starts_with0 (places 32 t)) where
  pub new_empty : {k : ℕ} → r ≡ Some k → k ≡ new_place t
  unfolding new_place
  new_empty {k} f = rw (← found_first starts_with0 t e f, lt-ltb k 32 (found_within starts_with0 t e f))

  pub new_spare_place : r ≡ None → {s : ℕ} → s ≡ first_spare [] (places 32 t) → s ≡ new_place t
  unfolding new_place
  new_spare_place f g = rw (le-ltb (first_where starts_with0 (places 32 t)) 32 (unfound starts_with0 t e f)) g
