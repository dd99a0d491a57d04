-- Removing a pair: the places before k are as they shall be, and those from k on are still to be cleared.
use mathlib.Core.Path.{◌≡◌, refl, sym, ◌∙◌}
use mathlib.Core.Bool.{Bool, true, false, cond}
use mathlib.Core.List.{List, ◌++◌, map, append_assoc, append-nil}
use Prim.Native.Nat.{ℕ, zero, suc, ◌+◌, ◌*◌, ◌-◌, ◌≤◌, ◌<◌}
use native.Mathlib.Omega.{arith}
use lib.ListN.{length, take, drop, replicate, length-append, length-drop, length-replicate}
use lib.Seq.{take_all, take_at, drop_at, drop-drop, take-add, length-take-le}
use borrow.Rule.Slice.PartMut.{put_mid, mid_of}
use Rattle.sip.specs.Calls.{Pair, is_pair, places, table_of, free_place, first_where, cleared, removed}
use Rattle.sip.proofs.Calls.Tables.{removed_all}
use Rattle.calls.specs.Places.{says}
use Rattle.calls.proofs.Firsts.{place_long, places_end, places_step, from_passes, from_start}
use Rattle.calls.proofs.Placing.{written}
use Rattle.calls.proofs.Says.{says_holds}

-- the place is written over with zeros
pub blanked : (t : List ℕ) → length t ≡ 6208 → (k : ℕ) → k < 32 → {y : List ℕ}
    → y ≡ replicate (length (mid_of (k * 194) (k * 194 + 194 - k * 194) t)) 0
    → put_mid (k * 194) (k * 194 + 194 - k * 194) t y ≡ take (k * 194) t ++ (free_place ++ drop (k * 194 + 194) t)
unfolding free_place
blanked t l k h {y} e =
    let z : k * 194 + 194 - k * 194 ≡ 194 = omega arith in
    let n : length (mid_of (k * 194) (k * 194 + 194 - k * 194) t) ≡ 194 = rw z (place_long t l k h) in
    written t k y ∙ rw (e, n)

abbrev clearing : Pair → ℕ → List ℕ → List ℕ
clearing p n t = table_of (map (cleared p) (places n t))

module _ (p : Pair) (w : is_pair p ≡ true) where
  module _ (c : List ℕ) (l : length c ≡ 194) where
    unsaid_stays : says p c ≡ false → cleared p c ≡ c
    unfolding cleared
    unsaid_stays e = rw (← says_holds p w c l, e)

    said_goes : says p c ≡ true → cleared p c ≡ free_place
    unfolding cleared
    said_goes e = rw (← says_holds p w c l, e)

  -- the places up to the first that says the pair stay
  skipped : (n : ℕ) (t : List ℕ) → n * 194 ≤ length t → {m : ℕ} → m ≡ first_where (says p) (places n t)
      → clearing p n t ≡ take (m * 194) t ++ clearing p (n - m) (drop (m * 194) t)
  unfolding places table_of first_where
  skipped zero t l e = rw e
  skipped (suc n) t l {m} e = go (says p (take 194 t)) refl e (skipped n (drop 194 t) (rw (length-drop 194 t) (omega arith)) refl)
    where
      go : (b : Bool) → says p (take 194 t) ≡ b → m ≡ cond b 0 (suc (first_where (says p) (places n (drop 194 t))))
          → clearing p n (drop 194 t)
          ≡ take (first_where (says p) (places n (drop 194 t)) * 194) (drop 194 t)
          ++ clearing p (n - first_where (says p) (places n (drop 194 t))) (drop (first_where (says p) (places n (drop 194 t)) * 194) (drop 194 t))
          → cleared p (take 194 t) ++ clearing p n (drop 194 t) ≡ take (m * 194) t ++ clearing p (suc n - m) (drop (m * 194) t)
      go true x y i = let z : suc n - 0 ≡ suc n = omega arith in rw (y, z)
      go false x y i =
          let f : ℕ = first_where (says p) (places n (drop 194 t)) in
          let a : suc n - m ≡ n - f = omega arith in
          let b : m * 194 ≡ 194 + f * 194 = omega arith in
          rw (
            unsaid_stays (take 194 t) (length-take-le 194 t (omega arith)) x,
            i,
            a,
            b,
            take-add 194 (f * 194) t,
            ← drop-drop (f * 194) 194 t,
          ) (sym (append_assoc (take 194 t) (take (f * 194) (drop 194 t)) (clearing p (n - f) (drop (f * 194) (drop 194 t)))))

-- the places before k are as they shall be
unfoldable pub Cleared : Pair → List ℕ → List ℕ → ℕ → Type 0
Cleared p t₀ t k = removed p t₀ ≡ take (k * 194) t ++ clearing p (32 - k) (drop (k * 194) t)

module _ (p : Pair) (w : is_pair p ≡ true) (t₀ : List ℕ) where
  pub cleared_end : (t : List ℕ) → length t ≡ 6208 → (k : ℕ) → 32 ≤ k → Cleared p t₀ t k → t ≡ removed p t₀
  unfolding table_of Cleared
  cleared_end t l k h c = sym (c ∙ rw (places_end 32 t h, take_all (k * 194) t (omega arith)) (append-nil t))

  module _ (t : List ℕ) (l : length t ≡ 6208) (k : ℕ) (h : k < 32) (c : Cleared p t₀ t k) where
    abbrev here : List ℕ
    here = take 194 (drop (k * 194) t)

    here_long : length here ≡ 194
    here_long = place_long t l k h

    -- place k stays
    pub cleared_skip : {b : Bool} → b ≡ says p here → b ≡ false → {j : ℕ} → j ≡ k + 1 → Cleared p t₀ t j
    unfolding table_of Cleared
    cleared_skip eb n {j} q =
        let z : j * 194 ≡ k * 194 + 194 = omega arith in
        let s = unsaid_stays p w here here_long (sym eb ∙ n) in
        let x : List ℕ = clearing p (32 - j) (drop (k * 194 + 194) t) in
        c ∙ rw (places_step 32 t k h q, s, z, take-add (k * 194) 194 t) (sym (append_assoc (take (k * 194) t) here x))

    module _ {t' : List ℕ} (e : t' ≡ take (k * 194) t ++ (free_place ++ drop (k * 194 + 194) t)) where
      abbrev front : List ℕ
      front = take (k * 194) t ++ free_place

      abbrev back : List ℕ
      back = drop (k * 194 + 194) t

      split : t' ≡ front ++ back
      split = e ∙ sym (append_assoc (take (k * 194) t) free_place back)

      front_long : length front ≡ k * 194 + 194
      unfolding free_place
      front_long =
          length-append (take (k * 194) t) free_place
          ∙ omega (arith, length-take-le (k * 194) t (omega arith), length-replicate {A = ℕ} 194 0)

      -- place k is left free
      goes : says p here ≡ true → {j : ℕ} → j ≡ k + 1 → Cleared p t₀ t' j
      unfolding table_of Cleared
      goes y {j} q =
          let z : j * 194 ≡ k * 194 + 194 = omega arith in
          let a : take (k * 194 + 194) t' ≡ front = rw split (take_at front back (k * 194 + 194) front_long) in
          let b : drop (k * 194 + 194) t' ≡ back = rw split (drop_at front back (k * 194 + 194) front_long) in
          let d = said_goes p w here here_long y in
          c ∙ rw (places_step 32 t k h q, d, z, a, b) (sym (append_assoc (take (k * 194) t) free_place (clearing p (32 - j) back)))

      pub cleared_next : {b : Bool} → b ≡ says p here → b ≡ true → {j : ℕ} → j ≡ k + 1 → Cleared p t₀ t' j
      cleared_next eb y q = goes (sym eb ∙ y) q

  pub cleared_start : length t₀ ≡ 6208 → (k : ℕ) → k ≡ first_where (says p) (places 32 t₀) → k < 32 → {t : List ℕ}
      → t ≡ take (k * 194) t₀ ++ (free_place ++ drop (k * 194 + 194) t₀) → {j : ℕ} → j ≡ k + 1 → Cleared p t₀ t j
  unfolding Cleared
  cleared_start l k e h x q =
      let c : Cleared p t₀ t₀ k = removed_all t₀ l p ∙ skipped p w 32 t₀ (omega arith) e in
      let z : k ≡ 0 + first_where (says p) (places (32 - 0) (drop (0 * 194) t₀)) = e ∙ from_start (says p) t₀ refl in
      goes t₀ l k h c x (from_passes (says p) t₀ 0 z h) q
