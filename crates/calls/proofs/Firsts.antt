-- The places of a table, and the first place that passes a test, looked for from a place on.
use mathlib.Core.Path.{◌≡◌, refl, sym, ap, ◌∙◌}
use mathlib.Core.Bool.{Bool, true, false, cond, ◌&&◌}
use mathlib.Core.List.{List, [], ◌∷◌}
use Prim.Native.Nat.{ℕ, zero, suc, ◌+◌, ◌*◌, ◌-◌, ◌/◌, ◌≤◌, ◌<◌}
use native.Mathlib.Omega.{arith}
use lib.Dec.{ltb}
use lib.ListN.{length, take, drop, get_or, length-drop}
use lib.Seq.{take_all, drop-drop, length-take-le}
use borrow.Rule.Slice.PartMut.{mid_of}
use borrow.Author.Tests.{ltb-true, ltb-false, lt-ltb, le-ltb}
use Rattle.std.proofs.Common.{Option, Some, None, position}
use Rattle.std.specs.Simd.{first_chunks}
use Rattle.std.specs.List.{position_or_len}
use Rattle.std.proofs.lemmas.List.Recursion.{is_position_or_len}
use Rattle.sip.specs.Calls.{Pair, places, first_where}
use Rattle.sip.proofs.Tests.{never}
use Rattle.sip.proofs.Calls.Places.{places_length, first_where_lem}
use Rattle.calls.specs.Places.{says, starts_with}

-- ---- the places of a table

chunks_places : (n : ℕ) (t : List ℕ) → first_chunks 194 n t ≡ places n t
unfolding places
chunks_places zero t = refl
chunks_places (suc n) t = rw (chunks_places n (drop 194 t))

pub places_are : (t : List ℕ) → length t ≡ 6208 → {front : List (List ℕ)} → front ≡ first_chunks 194 (length t / 194) t → {cs : List (List ℕ)} → cs ≡ front
    → cs ≡ places 32 t
places_are t l e f = f ∙ e ∙ rw l (chunks_places 32 t)

-- ---- what std's search says

position_first : (p : List ℕ → Bool) (cs : List (List ℕ)) → first_where p cs ≡ position_or_len p cs
unfolding first_where
position_first p cs = is_position_or_len (first_where p) p refl (λ c cs. let z : suc (first_where p cs) ≡ 1 + first_where p cs = omega arith in rw (← z)) cs

module _ (p : List ℕ → Bool) (cs : List (List ℕ)) where
  position_is : position p cs ≡ cond (ltb (first_where p cs) (length cs)) (Some (first_where p cs)) None
  position_is = rw (← position_first p cs)

  position_some : {k : ℕ} → k ≡ first_where p cs → k < length cs → Some k ≡ position p cs
  position_some e h = sym (position_is ∙ rw (← e, lt-ltb _ _ h))

  position_none : length cs ≤ first_where p cs → None ≡ position p cs
  position_none h = sym (position_is ∙ rw (le-ltb (first_where p cs) (length cs) h))

  module _ {r : Option ℕ} (e : r ≡ position p cs) where
    first_found : {k : ℕ} → r ≡ Some k → k ≡ first_where p cs
    first_found {k} f = go (ltb (first_where p cs) (length cs)) (sym f ∙ e ∙ position_is)
      where
        go : (b : Bool) → Some k ≡ cond b (Some (first_where p cs)) None → k ≡ first_where p cs
        go true x = cc
        go false x = never (cc)

    found_before : {k : ℕ} → r ≡ Some k → k < length cs
    found_before {k} f = go (ltb (first_where p cs) (length cs)) refl (sym f ∙ e ∙ position_is)
      where
        go : (b : Bool) → ltb (first_where p cs) (length cs) ≡ b → Some k ≡ cond b (Some (first_where p cs)) None → k < length cs
        go true y x = let z : k ≡ first_where p cs = cc in omega (arith, z, ltb-true (first_where p cs) (length cs) y)
        go false y x = never (cc)

    none_found : r ≡ None → length cs ≤ first_where p cs
    none_found f = go (ltb (first_where p cs) (length cs)) refl (sym f ∙ e ∙ position_is)
      where
        go : (b : Bool) → ltb (first_where p cs) (length cs) ≡ b → None ≡ cond b (Some (first_where p cs)) None → length cs ≤ first_where p cs
        go true y x = never (cc)
        go false y x = ltb-false (first_where p cs) (length cs) y

module _ (p : List ℕ → Bool) (t : List ℕ) {r : Option ℕ} (e : r ≡ position p (places 32 t)) where
  pub found_first : {k : ℕ} → r ≡ Some k → k ≡ first_where p (places 32 t)
  found_first f = first_found p (places 32 t) e f

  pub found_within : {k : ℕ} → r ≡ Some k → k < 32
  found_within f = omega (arith, found_before p (places 32 t) e f, places_length 32 t)

  pub unfound : r ≡ None → 32 ≤ first_where p (places 32 t)
  unfound f = omega (arith, none_found p (places 32 t) e f, places_length 32 t)

pub first_same : (p q : List ℕ → Bool) → ((c : List ℕ) → p c ≡ q c) → (cs : List (List ℕ)) → first_where p cs ≡ first_where q cs
unfolding first_where
first_same p q e [] = refl
first_same p q e (c ∷ cs) = rw (e c, first_same p q e cs)

-- ---- the places from k on

module _ (n : ℕ) (t : List ℕ) where
  pub places_start : {k : ℕ} → k ≡ 0 → places (n - k) (drop (k * 194) t) ≡ places n t
  places_start e = let z : n - 0 ≡ n = omega arith in rw (e, z)

  pub places_end : {k : ℕ} → n ≤ k → places (n - k) (drop (k * 194) t) ≡ []
  unfolding places
  places_end {k} h = let z : n - k ≡ 0 = omega arith in rw z

  pub places_step : (k : ℕ) → k < n → {j : ℕ} → j ≡ k + 1
      → places (n - k) (drop (k * 194) t) ≡ take 194 (drop (k * 194) t) ∷ places (n - j) (drop (j * 194) t)
  unfolding places
  places_step k h {j} e =
      let z : n - k ≡ suc (n - j) = omega arith in
      let y : j * 194 ≡ k * 194 + 194 = omega arith in
      rw (z, y, drop-drop 194 (k * 194) t)

drop_places : (m n : ℕ) (t : List ℕ) → drop m (places n t) ≡ places (n - m) (drop (m * 194) t)
unfolding places
drop_places zero n t = sym (places_start n t refl)
drop_places (suc m) zero t = let z : 0 - suc m ≡ 0 = omega arith in rw z
drop_places (suc m) (suc n) t =
    let z : suc n - suc m ≡ n - m = omega arith in
    let y : suc m * 194 ≡ 194 + m * 194 = omega arith in
    drop_places m n (drop 194 t) ∙ rw (z, y, drop-drop (m * 194) 194 t)

pub get_places : (j n : ℕ) (t d : List ℕ) → j < n → get_or (places n t) j d ≡ take 194 (drop (j * 194) t)
unfolding places
get_places j zero t d h = absurd (omega arith)
get_places zero (suc n) t d h = refl
get_places (suc j) (suc n) t d h =
    let y : suc j * 194 ≡ 194 + j * 194 = omega arith in
    get_places j n (drop 194 t) d (omega arith) ∙ rw (y, drop-drop (j * 194) 194 t)

pub get_d_places : (j n : ℕ) (t : List ℕ) → j < n → get_or (places n t) j [] ≡ take 194 (drop (j * 194) t)
get_d_places j n t h = get_places j n t [] h

-- ---- the first

-- where a test passes less often, the first that passes it is not before the first that passes the other
first_within : (p q : List ℕ → Bool) → ((c : List ℕ) → q c ≡ false → p c ≡ false) → (cs : List (List ℕ))
    → first_where p cs ≡ first_where q cs + first_where p (drop (first_where q cs) cs)
unfolding first_where
first_within p q i [] = refl
first_within p q i (c ∷ cs) = go (q c) refl (first_within p q i cs)
  where
    go : (b : Bool) → q c ≡ b → first_where p cs ≡ first_where q cs + first_where p (drop (first_where q cs) cs)
        → cond (p c) 0 (suc (first_where p cs))
        ≡ cond b 0 (suc (first_where q cs)) + first_where p (drop (cond b 0 (suc (first_where q cs))) (c ∷ cs))
    go true e h = omega arith
    go false e h = rw (i c e) (omega arith)

-- what a search finds that starts at the first place that passes the other test
module _ (p q : List ℕ → Bool) (i : (c : List ℕ) → q c ≡ false → p c ≡ false) (cs : List (List ℕ)) {r : Option ℕ} (e : r ≡ position q cs) where
  within : first_where p cs ≡ first_where q cs + first_where p (drop (first_where q cs) cs)
  within = first_within p q i cs

  none_within : r ≡ None → None ≡ position p cs
  none_within f = position_none p cs (omega (arith, within, none_found q cs e f))

  module _ {s : ℕ} (f : r ≡ Some s) {m : Option ℕ} (g : m ≡ position p (drop s cs)) where
    from_there : first_where p cs ≡ s + first_where p (drop s cs)
    from_there = rw (first_found q cs e f) within

    none_after : m ≡ None → None ≡ position p cs
    none_after h = position_none p cs (omega (arith, from_there, none_found p (drop s cs) g h, length-drop s cs))

    some_after : {k : ℕ} → m ≡ Some k → Some (s + k) ≡ position p cs
    some_after {k} h =
        let z = first_found p (drop s cs) g h in
        let l = found_before p (drop s cs) g h in
        position_some p cs (omega (arith, from_there, z)) (omega (arith, l, length-drop s cs))

-- the two tests: what a place starts with, and then all that it says, from that place on
module _ (n b : ℕ) (p : Pair) (t : List ℕ) {r : Option ℕ} (e : r ≡ position (starts_with n b) (places 32 t)) where
  abbrev both : List ℕ → Bool
  both c = starts_with n b c && says p c

  starts_first : (c : List ℕ) → starts_with n b c ≡ false → both c ≡ false
  starts_first c x = rw x

  pub none_starts : r ≡ None → {o : Option ℕ} → o ≡ None → o ≡ position both (places 32 t)
  none_starts f x = x ∙ none_within both (starts_with n b) starts_first (places 32 t) e f

  module _ {s : ℕ} (f : r ≡ Some s) {cs : List (List ℕ)} (ec : cs ≡ places 32 t) {j : ℕ} {m : Option ℕ} (em : m ≡ position both (mid_of j (32 - j) cs)) (q : j ≡ s) where
    from_it : m ≡ position both (drop s (places 32 t))
    from_it =
        let l : length (drop s (places 32 t)) ≤ 32 - s = omega (arith, length-drop s (places 32 t), places_length 32 t) in
        em ∙ rw (q, ec, take_all (32 - s) (drop s (places 32 t)) l)

    pub none_says : m ≡ None → {o : Option ℕ} → o ≡ None → o ≡ position both (places 32 t)
    none_says h x = x ∙ none_after both (starts_with n b) starts_first (places 32 t) e f from_it h

    pub one_says : {k : ℕ} → m ≡ Some k → Some (j + k) ≡ position both (places 32 t)
    one_says h = rw q (some_after both (starts_with n b) starts_first (places 32 t) e f from_it h)

module _ (p : List ℕ → Bool) (t : List ℕ) where
  pub from_start : {k : ℕ} → k ≡ 0 → first_where p (places 32 t) ≡ k + first_where p (places (32 - k) (drop (k * 194) t))
  from_start {k} e = rw (places_start 32 t e) (omega arith)

  module _ (n k : ℕ) (e : n ≡ k + first_where p (places (32 - k) (drop (k * 194) t))) where
    pub from_end : 32 ≤ k → k ≡ n
    unfolding first_where
    from_end h = sym (e ∙ rw (places_end 32 t h) (omega arith))

    module _ (h : k < 32) where
      pub from_here : p (take 194 (drop (k * 194) t)) ≡ true → k ≡ n
      unfolding first_where
      from_here y = sym (e ∙ rw (places_step 32 t k h refl, y) (omega arith))

      pub from_next : p (take 194 (drop (k * 194) t)) ≡ false → {j : ℕ} → j ≡ k + 1 → n ≡ j + first_where p (places (32 - j) (drop (j * 194) t))
      unfolding first_where
      from_next y {j} q = e ∙ rw (places_step 32 t k h q, y) (omega arith)

      -- by what is said of the bytes of the place
      module _ {at : ℕ} (ea : at ≡ k * 194) {b : Bool} (eb : b ≡ p (take 194 (drop at t))) where
        pub said_here : b ≡ true → k ≡ n
        said_here y = from_here (sym (sym y ∙ eb ∙ rw ea))

        pub said_later : b ≡ false → {j : ℕ} → j ≡ k + 1 → n ≡ j + first_where p (places (32 - j) (drop (j * 194) t))
        said_later y q = from_next (sym (sym y ∙ eb ∙ rw ea)) q

    -- past the places that do not pass a test that passes more
    pub from_jump : (q : List ℕ → Bool) → ((c : List ℕ) → q c ≡ false → p c ≡ false) → {r : ℕ}
        → r ≡ k + first_where q (places (32 - k) (drop (k * 194) t)) → n ≡ r + first_where p (places (32 - r) (drop (r * 194) t))
    from_jump q i {r} f =
        let m : ℕ = first_where q (places (32 - k) (drop (k * 194) t)) in
        let z : 32 - k - m ≡ 32 - r = omega arith in
        let y : k * 194 + m * 194 ≡ r * 194 = omega arith in
        let w = first_within p q i (places (32 - k) (drop (k * 194) t)) in
        e ∙ ap (λ (x : ℕ). k + x) w ∙ rw (drop_places m (32 - k) (drop (k * 194) t), drop-drop (m * 194) (k * 194) t, z, y) (omega arith)

  -- the place found passes the test
  pub from_passes : (k : ℕ) {r : ℕ} → r ≡ k + first_where p (places (32 - k) (drop (k * 194) t)) → r < 32 → p (take 194 (drop (r * 194) t)) ≡ true
  from_passes k {r} e h =
      let m : ℕ = first_where p (places (32 - k) (drop (k * 194) t)) in
      let l : m < length (places (32 - k) (drop (k * 194) t)) = rw (places_length (32 - k) (drop (k * 194) t)) (omega arith) in
      let y : k * 194 + m * 194 ≡ r * 194 = omega arith in
      let g : get_or (places (32 - k) (drop (k * 194) t)) m [] ≡ take 194 (drop (r * 194) t) =
      get_d_places m (32 - k) (drop (k * 194) t) (omega arith) ∙ rw (drop-drop (m * 194) (k * 194) t, y) in
      rw (← g) (first_where_lem p (places (32 - k) (drop (k * 194) t)) l)

-- ---- the bytes of a place

pub place_long : (t : List ℕ) → length t ≡ 6208 → (k : ℕ) → k < 32 → length (take 194 (drop (k * 194) t)) ≡ 194
place_long t l k h = length-take-le 194 (drop (k * 194) t) (rw (length-drop (k * 194) t) (omega arith))
