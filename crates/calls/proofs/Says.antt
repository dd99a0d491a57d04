-- A well-formed pair is held where a place says it.
use mathlib.Core.Path.{◌≡◌, refl, sym, ap, ◌∙◌}
use mathlib.Core.Bool.{Bool, true, false, cond, ◌&&◌, ◌||◌, and-false}
use mathlib.Core.List.{List}
use mathlib.Core.Option.{Option, none, some}
use Prim.Native.Nat.{ℕ, suc, ◌≤◌, ◌<◌}
use native.Mathlib.Omega.{arith}
use lib.Dec.{eqb, leb, ltb}
use lib.ListN.{length, take, drop, get_or, length-take, length-drop}
use lib.Seq.{get_or-take, get_or-drop}
use borrow.Author.Tests.{eqb-true, eq-eqb, le-leb, leb-true, lt-ltb, le-ltb, ltb-true, ltb-false}
use Rattle.std.proofs.Common.{Option as Maybe, Some, None, position, unwrap_or, is_some, IfSome}
use Rattle.octets.specs.Scans.{same}
use Rattle.sip.specs.Values.{is_call_id}
use Rattle.sip.specs.Calls.{Pair, is_pair, same_pair, is_in, places, stored, pair_at, with_pair, pairs_in, is_held, first_where, is_that, holds, ending, removed}
use Rattle.sip.proofs.Tests.{never, and_left, and_right, range_low}
use Rattle.sip.proofs.Texts.{same_eq}
use Rattle.sip.proofs.Calls.Pairs.{pair_is, pair_self, held_in}
use Rattle.sip.proofs.Calls.Places.{Sized, none_left, one_more, places_sized, places_length, formed_id, id_long, tag_short}
use Rattle.sip.proofs.Calls.Tables.{held_formed, removed_none}
use Rattle.calls.specs.Places.{pair, says, starts_with, holder}
use Rattle.calls.proofs.Firsts.{found_first, found_within, unfound, first_same}

-- ---- a place that says a well-formed pair holds it

ltb_suc : (m n : ℕ) → ltb m n ≡ ltb (suc m) (suc n)
ltb_suc m n = go (ltb m n) refl
  where
    go : (b : Bool) → ltb m n ≡ b → b ≡ ltb (suc m) (suc n)
    go true e = sym (lt-ltb (suc m) (suc n) (omega (arith, ltb-true m n e)))
    go false e = sym (le-ltb (suc m) (suc n) (omega (arith, ltb-false m n e)))

module _ (p : Pair) (w : is_pair p ≡ true) where
  module _ (c : List ℕ) (l : length c ≡ 194) where
    says_pair : says p c ≡ true → pair_at c ≡ some p
    unfolding says pair_at
    says_pair e =
        let s = and_right (eqb (get_or c 0 0) (length p.call_id)) (eqb (get_or c 129 0) (length p.tag) && same_pair p (stored c)) e in
        let g = eqb-true (get_or c 129 0) (length p.tag) (and_left (eqb (get_or c 129 0) (length p.tag)) (same_pair p (stored c)) s) in
        let q : p ≡ stored c = pair_is p (stored c) (and_right (eqb (get_or c 129 0) (length p.tag)) (same_pair p (stored c)) s) in
        let h : leb (get_or c 129 0) 64 ≡ true = le-leb (get_or c 129 0) 64 (omega (arith, tag_short p w)) in
        rw (h, ← q, w)

    pub pair_says : pair_at c ≡ some p → says p c ≡ true
    unfolding says pair_at stored
    pair_says e = go (leb (get_or c 129 0) 64) (is_pair (stored c)) refl e
      where
        go : (a b : Bool) → leb (get_or c 129 0) 64 ≡ a → cond (a && b) (some (stored c)) none ≡ some p
            → (eqb (get_or c 0 0) (length p.call_id) && (eqb (get_or c 129 0) (length p.tag) && same_pair p (stored c))) ≡ true
        go true true f e =
            let z : stored c ≡ p = cc in
            let k : get_or c 129 0 ≤ 64 = leb-true (get_or c 129 0) 64 f in
            let i : length (take (get_or c 0 0) (drop 1 c)) ≡ length p.call_id = ap (λ (x : Pair). length x.call_id) z in
            let g : length (take (get_or c 129 0) (drop 130 c)) ≡ length p.tag = ap (λ (x : Pair). length x.tag) z in
            let a : get_or c 0 0 ≡ length p.call_id = omega (arith, i, id_long p w, length-take (get_or c 0 0) (drop 1 c), length-drop 1 c) in
            let b : get_or c 129 0 ≡ length p.tag = omega (arith, g, length-take (get_or c 129 0) (drop 130 c), length-drop 130 c) in
            let d : same_pair p (stored c) ≡ true = rw z (pair_self p) in
            rw (d, eq-eqb (get_or c 0 0) (length p.call_id) a, eq-eqb (get_or c 129 0) (length p.tag) b)
        go true false f e = never (cc)
        go false b f e = never (cc)

    pub says_holds : says p c ≡ holds p c
    unfolding holds
    says_holds = go (says p c) (pair_at c) refl refl
      where
        same_one : (q : Pair) → pair_at c ≡ some q → says p c ≡ false → (b : Bool) → same_pair p q ≡ b → false ≡ b
        same_one q f e true x = let z : pair_at c ≡ some p = f ∙ rw (pair_is p q x) in never (cc (pair_says z))
        same_one q f e false x = refl

        go : (a : Bool) (o : Option Pair) → says p c ≡ a → pair_at c ≡ o → a ≡ holds p c
        go true o e f = sym (rw (says_pair e) (pair_self p))
        go false none e f = rw f
        go false (some q) e f = rw f (same_one q f e (same_pair p q) refl)

  -- it is among the pairs where a place before the end says it
  in_says : {cs : List (List ℕ)} → Sized cs → is_in p (pairs_in cs) ≡ ltb (first_where (says p) cs) (length cs)
  unfolding is_in pairs_in first_where holds
  in_says none_left = refl
  in_says (one_more {c} {cs} l h) = by_place (pair_at c) ∙ rw (← says_holds c l) (by_says (says p c) (in_says h))
    where
      by_place : (o : Option Pair) → is_in p (with_pair o (pairs_in cs)) ≡ (is_that p o || is_in p (pairs_in cs))
      by_place none = refl
      by_place (some q) = refl

      by_says : (b : Bool) → is_in p (pairs_in cs) ≡ ltb (first_where (says p) cs) (length cs)
          → (b || is_in p (pairs_in cs)) ≡ ltb (cond b 0 (suc (first_where (says p) cs))) (suc (length cs))
      by_says true i = sym (lt-ltb 0 (suc (length cs)) (omega arith))
      by_says false i = i ∙ ltb_suc (first_where (says p) cs) (length cs)

  held_says : (t : List ℕ) → length t ≡ 6208 → is_held p t ≡ ltb (first_where (says p) (places 32 t)) 32
  held_says t l = held_in p t ∙ in_says (places_sized 32 t l) ∙ rw (places_length 32 t)

-- ---- looking for it: a place that says it starts with its length and its first byte

module _ (id tag : List ℕ) (h : 1 ≤ length id) where
  says_starts : (c : List ℕ) → starts_with (length id) (get_or id 0 0) c ≡ false → says (pair id tag) c ≡ false
  unfolding says starts_with same_pair stored
  says_starts c e = go (eqb (get_or c 0 0) (length id)) (eqb (get_or c 129 0) (length tag) && (same id (take (get_or c 0 0) (drop 1 c)) && same tag (take (get_or c 129 0) (drop 130 c)))) refl refl e
    where
      go : (a b : Bool) → eqb (get_or c 0 0) (length id) ≡ a
          → (eqb (get_or c 129 0) (length tag) && (same id (take (get_or c 0 0) (drop 1 c)) && same tag (take (get_or c 129 0) (drop 130 c)))) ≡ b
          → (a && eqb (get_or c 1 0) (get_or id 0 0)) ≡ false → (a && b) ≡ false
      go a false x y z = and-false a
      go false true x y z = refl
      go true true x y z =
          let s = and_right (eqb (get_or c 129 0) (length tag)) (same id (take (get_or c 0 0) (drop 1 c)) && same tag (take (get_or c 129 0) (drop 130 c))) y in
          let i : id ≡ take (get_or c 0 0) (drop 1 c) = same_eq id (take (get_or c 0 0) (drop 1 c)) (and_left (same id (take (get_or c 0 0) (drop 1 c))) (same tag (take (get_or c 129 0) (drop 130 c))) s) in
          let n : get_or c 0 0 ≡ length id = eqb-true (get_or c 0 0) (length id) x in
          let g : get_or id 0 0 ≡ get_or c 1 0 = ap (λ (u : List ℕ). get_or u 0 0) i ∙ get_or-take (get_or c 0 0) (drop 1 c) 0 0 (omega arith) ∙ get_or-drop 1 c 0 0 in
          let d : eqb (get_or c 1 0) (get_or id 0 0) ≡ true = eq-eqb (get_or c 1 0) (get_or id 0 0) (sym g) in
          never (cc)

-- ---- the first place that holds a pair

unheld : (p : Pair) (t : List ℕ) → (is_pair p ≡ true → ⊥) → is_held p t ≡ false
unheld p t n = go (is_held p t) refl
  where
    go : (b : Bool) → is_held p t ≡ b → b ≡ false
    go true e = absurd (n (held_formed p t e))
    go false e = refl

id_some : (p : Pair) → is_pair p ≡ true → 1 ≤ length p.call_id
unfolding is_call_id
id_some p w = range_low 1 128 (length p.call_id) (and_left _ _ (formed_id p w))

module _ (id tag t : List ℕ) where
  none_holds : (is_pair (pair id tag) ≡ true → ⊥) → 32 ≡ holder (pair id tag) t
  unfolding holder
  none_holds n = rw (unheld (pair id tag) t n)

  pub no_id_held : {e : Bool} → e ≡ eqb (length id) 0 → e ≡ true → 32 ≡ holder (pair id tag) t
  no_id_held f y = none_holds (λ w. omega (arith, id_some (pair id tag) w, eqb-true (length id) 0 (sym f ∙ y)))

  pub long_id_held : 128 < length id → 32 ≡ holder (pair id tag) t
  long_id_held h = none_holds (λ w. omega (arith, id_long (pair id tag) w))

  pub long_tag_held : 64 < length tag → 32 ≡ holder (pair id tag) t
  long_tag_held h = none_holds (λ w. omega (arith, tag_short (pair id tag) w))

  pub unformed_held : {b : Bool} → b ≡ is_pair (pair id tag) → b ≡ false → 32 ≡ holder (pair id tag) t
  unformed_held f n = none_holds (λ y. never (cc))

  module _ (h : 1 ≤ length id) {r : Maybe ℕ}
      (er : r ≡ position (λ c. starts_with (length id) (get_or id 0 0) c && says (pair id tag) c) (places 32 t)) where
    abbrev both : List ℕ → Bool
    both c = starts_with (length id) (get_or id 0 0) c && says (pair id tag) c

    first_is : first_where both (places 32 t) ≡ first_where (says (pair id tag)) (places 32 t)
    first_is = first_same both (says (pair id tag)) (λ c. go c (starts_with (length id) (get_or id 0 0) c) refl) (places 32 t)
      where
        go : (c : List ℕ) (b : Bool) → starts_with (length id) (get_or id 0 0) c ≡ b → (b && says (pair id tag) c) ≡ says (pair id tag) c
        go c true x = refl
        go c false x = sym (says_starts id tag h c x)

    module _ (l : length t ≡ 6208) where
      pub unsaid_held : r ≡ None → 32 ≡ holder (pair id tag) t
      unfolding holder
      unsaid_held f = go (is_pair (pair id tag)) refl
        where
          go : (b : Bool) → is_pair (pair id tag) ≡ b → 32 ≡ cond (is_held (pair id tag) t) (first_where (says (pair id tag)) (places 32 t)) 32
          go true w = rw (held_says (pair id tag) w t l, ← first_is, le-ltb (first_where both (places 32 t)) 32 (unfound both t er f))
          go false w = none_holds (λ y. never (cc))

      pub formed_held : {k : ℕ} → r ≡ Some k → {b : Bool} → b ≡ is_pair (pair id tag) → b ≡ true → k ≡ holder (pair id tag) t
      unfolding holder
      formed_held {k} f {b} g y =
          let z : k ≡ first_where (says (pair id tag)) (places 32 t) = found_first both t er f ∙ first_is in
          let w : is_pair (pair id tag) ≡ true = sym g ∙ y in
          let x = lt-ltb k 32 (found_within both t er f) in
          rw (held_says (pair id tag) w t l, ← z, x)

-- ---- what is done by it

module _ (id tag t : List ℕ) (l : length t ≡ 6208) where
  by_held : {k : ℕ} → k ≡ holder (pair id tag) t → (P : Bool → ℕ → Type 0) → P false 32
      → (is_pair (pair id tag) ≡ true → (n : ℕ) → n ≡ first_where (says (pair id tag)) (places 32 t) → n < 32 → P true n) → P (is_held (pair id tag) t) k
  unfolding holder
  by_held {k} e P a b = go (is_held (pair id tag) t) refl e
    where
      go : (h : Bool) → is_held (pair id tag) t ≡ h → k ≡ cond h (first_where (says (pair id tag)) (places 32 t)) 32 → P h k
      go true x y =
          let w = held_formed (pair id tag) t x in
          let z : ltb (first_where (says (pair id tag)) (places 32 t)) 32 ≡ true = sym (held_says (pair id tag) w t l) ∙ x in
          b w k y (omega (arith, ltb-true (first_where (says (pair id tag)) (places 32 t)) 32 z))
      go false x y = rw y a

  pub holder_held : (o : Maybe ℕ) → unwrap_or o 32 ≡ holder (pair id tag) t → IfSome o (λ k. k < 32) → is_some o ≡ is_held (pair id tag) t
  holder_held None e i = by_held e (λ h n. n ≡ 32 → false ≡ h) (λ z. refl) (λ w n f g z. absurd (omega (arith, g, z))) refl
  holder_held (Some k) e i = by_held e (λ h n. n < 32 → true ≡ h) (λ z. absurd (omega arith)) (λ w n f g z. refl) i

  pub holder_formed : {k : ℕ} → k ≡ holder (pair id tag) t → k < 32 → is_pair (pair id tag) ≡ true
  holder_formed e = by_held e (λ h n. n < 32 → is_pair (pair id tag) ≡ true) (λ g. absurd (omega arith)) (λ w n f g d. w)

  pub holder_first : {k : ℕ} → k ≡ holder (pair id tag) t → k < 32 → k ≡ first_where (says (pair id tag)) (places 32 t)
  holder_first e = by_held e (λ h n. n < 32 → n ≡ first_where (says (pair id tag)) (places 32 t)) (λ g. absurd (omega arith)) (λ w n f g d. f)

  held_by : {k : ℕ} → k ≡ holder (pair id tag) t → ltb k 32 ≡ is_held (pair id tag) t
  held_by e = by_held e (λ h n. ltb n 32 ≡ h) refl (λ w n f g. lt-ltb n 32 g)

  -- the same by the number of the place
  pub held_below : (o : Maybe ℕ) → unwrap_or o 32 ≡ holder (pair id tag) t → {k : ℕ} → k ≡ unwrap_or o 32 → ltb k 32 ≡ is_held (pair id tag) t
  held_below o e q = held_by (q ∙ e)

  pub end_known : {k : ℕ} → k ≡ holder (pair id tag) t → k < 32 → 0 ≡ ending (pair id tag) t
  unfolding ending
  end_known {k} e h = rw (← held_by e, lt-ltb k 32 h)

  module _ (e : 32 ≡ holder (pair id tag) t) where
    pub end_unknown : 19 ≡ ending (pair id tag) t
    unfolding ending
    end_unknown = rw (← held_by e)

    pub not_removed : t ≡ removed (pair id tag) t
    not_removed = sym (removed_none (pair id tag) t (sym (held_by e)))
