-- Places hold the same pair where they agree in all three parts.
use mathlib.Core.Path.{◌≡◌, refl, sym, ap, ◌∙◌}
use mathlib.Core.Bool.{Bool, true, false, cond, ◌&&◌, ◌||◌, or-true}
use mathlib.Core.List.{List, [], ◌∷◌}
use mathlib.Core.Option.{Option, none, some}
use Prim.Native.Nat.{ℕ, zero, suc, ◌+◌, ◌*◌, ◌-◌, ◌≤◌, ◌<◌, min}
use native.Mathlib.Omega.{arith}
use lib.Dec.{eqb, leb, ltb}
use lib.ListN.{length, take, drop, get_or, take-append-drop}
use lib.Seq.{drop-drop, drop-cons, take-nil}
use borrow.Author.Tests.{eqb-true, lt-ltb, le-ltb, ltb-true, ltb-false}
use Rattle.sip.specs.Calls.{Pair, is_pair, same_pair, is_in, places, stored, pair_at, with_pair, pairs_in}
use Rattle.sip.proofs.Tests.{never, and_left, and_right}
use Rattle.sip.proofs.Texts.{same_refl}
use Rattle.sip.proofs.Calls.Pairs.{made, pair_is, pair_self}
use Rattle.sip.proofs.Calls.Places.{places_length, id_long, tag_short}
use Rattle.calls.specs.Places.{says, is_taken, is_spare}
use Rattle.calls.specs.Parts.{start_of, size_of, part_of, agree, first_like, firsts_of}
use Rattle.calls.proofs.Firsts.{place_long, get_d_places}
use Rattle.calls.proofs.Says.{pair_says}
use Rattle.calls.proofs.Parts.{agree_before, agree_part, firsts_at, first_le, first_agrees}

-- ---- a place that holds a pair

pair_taken : (c : List ℕ) (p : Pair) → pair_at c ≡ some p → (is_taken c ≡ true) × (stored c ≡ p)
unfolding pair_at is_taken
pair_taken c p e = go (leb (get_or c 129 0) 64 && is_pair (stored c)) refl e
  where
    go : (b : Bool) → (leb (get_or c 129 0) 64 && is_pair (stored c)) ≡ b → cond b (some (stored c)) none ≡ some p → (b ≡ true) × (stored c ≡ p)
    go true f e = (refl, cc)
    go false f e = never (cc)

taken_pair : (c : List ℕ) → is_taken c ≡ true → pair_at c ≡ some (stored c)
unfolding pair_at is_taken
taken_pair c e = rw e

free_pair : (c : List ℕ) → is_taken c ≡ false → pair_at c ≡ none
unfolding pair_at is_taken
free_pair c e = rw e

-- ---- its three parts

take_counted : (n i : ℕ) (c : List ℕ) → i < length c → take (1 + n) (drop i c) ≡ get_or c i 0 ∷ take n (drop (suc i) c)
take_counted n i c h = let z : 1 + n ≡ suc n = omega arith in rw (z, drop-cons c i 0 h)

take_twice : (m n : ℕ) (u : List ℕ) → take m (take n u) ≡ take (min n m) u
take_twice zero n u = let z : min n 0 ≡ 0 = omega arith in rw z
take_twice (suc m) zero u = let z : min 0 (suc m) ≡ 0 = omega arith in rw z
take_twice (suc m) (suc n) [] = sym (take-nil (min (suc n) (suc m)))
take_twice (suc m) (suc n) (b ∷ u) =
    let z : min (suc n) (suc m) ≡ suc (min n m) = omega arith in
    rw z (ap (λ (v : List ℕ). b ∷ v) (take_twice m n u))

drop_take : (m n : ℕ) (u : List ℕ) → drop m (take n u) ≡ take (n - m) (drop m u)
drop_take zero n u = let z : n - 0 ≡ n = omega arith in rw z
drop_take (suc m) zero u = let z : 0 - suc m ≡ 0 = omega arith in rw z
drop_take (suc m) (suc n) [] = sym (take-nil (suc n - suc m))
drop_take (suc m) (suc n) (b ∷ u) = let z : suc n - suc m ≡ n - m = omega arith in rw z (drop_take m n u)

cons_head : {x y : ℕ} {s t : List ℕ} → ◌≡◌ {A = List ℕ} (x ∷ s) (y ∷ t) → x ≡ y
cons_head e = ap (λ (u : List ℕ). get_or u 0 0) e

module _ (c : List ℕ) (l : length c ≡ 194) where
  abbrev id : List ℕ
  id = take (get_or c 0 0) (drop 1 c)

  abbrev tag : List ℕ
  tag = take (get_or c 129 0) (drop 130 c)

  first_part : part_of 0 c ≡ get_or c 0 0 ∷ take 64 id
  unfolding part_of size_of start_of
  first_part = rw (take_twice 64 (get_or c 0 0) (drop 1 c)) (take_counted (min (get_or c 0 0) 64) 0 c (omega arith))

  second_part : get_or c 0 0 ≤ 128 → part_of 1 c ≡ drop 64 id
  unfolding part_of size_of start_of
  second_part h =
      let z : min (get_or c 0 0 - 64) 64 ≡ get_or c 0 0 - 64 = omega arith in
      rw (z, drop_take 64 (get_or c 0 0) (drop 1 c), drop-drop 64 1 c)

  third_part : get_or c 129 0 ≤ 64 → part_of 2 c ≡ get_or c 129 0 ∷ tag
  unfolding part_of size_of start_of
  third_part h = let z : min (get_or c 129 0) 64 ≡ get_or c 129 0 = omega arith in rw z (take_counted (get_or c 129 0) 129 c (omega arith))

  third_head : get_or (part_of 2 c) 0 0 ≡ get_or c 129 0
  unfolding part_of size_of start_of
  third_head = ap (λ (u : List ℕ). get_or u 0 0) (take_counted (min (get_or c 129 0) 64) 129 c (omega arith))

cons_tail : {x y : ℕ} {s t : List ℕ} → ◌≡◌ {A = List ℕ} (x ∷ s) (y ∷ t) → s ≡ t
cons_tail e = ap (λ (u : List ℕ). drop 1 u) e

-- what a place says that holds a pair
record Said (c : List ℕ) (p : Pair) : Type 0 where
  long : get_or c 0 0 ≡ length p.call_id
  short : get_or c 129 0 ≡ length p.tag
  id_is : take (get_or c 0 0) (drop 1 c) ≡ p.call_id
  tag_is : take (get_or c 129 0) (drop 130 c) ≡ p.tag
  few : get_or c 0 0 ≤ 128
  fewer : get_or c 129 0 ≤ 64

said : (c : List ℕ) → length c ≡ 194 → (p : Pair) → pair_at c ≡ some p → Said c p
unfolding says is_taken stored
said c l p e =
    let (t, q) = pair_taken c p e in
    let w : is_pair p ≡ true = rw (← q) (and_right (leb (get_or c 129 0) 64) (is_pair (stored c)) t) in
    let s = pair_says p w c l e in
    let r = and_right (eqb (get_or c 0 0) (length p.call_id)) (eqb (get_or c 129 0) (length p.tag) && same_pair p (stored c)) s in
    let n : get_or c 0 0 ≡ length p.call_id =
    eqb-true (get_or c 0 0) (length p.call_id) (and_left (eqb (get_or c 0 0) (length p.call_id)) (eqb (get_or c 129 0) (length p.tag) && same_pair p (stored c)) s) in
    let m : get_or c 129 0 ≡ length p.tag =
    eqb-true (get_or c 129 0) (length p.tag) (and_left (eqb (get_or c 129 0) (length p.tag)) (same_pair p (stored c)) r) in
    record {
      long = n;
      short = m;
      id_is = ap (λ (x : Pair). x.call_id) q;
      tag_is = ap (λ (x : Pair). x.tag) q;
      few = omega (arith, n, id_long p w);
      fewer = omega (arith, m, tag_short p w);
    }

-- ---- two places that agree in them

module _ (c d : List ℕ) (lc : length c ≡ 194) (ld : length d ≡ 194) (p : Pair) (e : pair_at c ≡ some p) where
  -- hold the same pair
  agree_pair : agree 3 d c ≡ true → pair_at d ≡ some p
  unfolding pair_at stored
  agree_pair a =
      let s = said c lc p e in
      let a₂ = agree_before 2 d c a in
      let first = sym (first_part d ld) ∙ agree_part 0 d c (agree_before 1 d c a₂) ∙ first_part c lc in
      let n : get_or d 0 0 ≡ get_or c 0 0 = cons_head first in
      let second = sym (second_part d ld (omega (arith, n, s.few))) ∙ agree_part 1 d c a₂ ∙ second_part c lc s.few in
      let m : get_or d 129 0 ≡ get_or c 129 0 = sym (third_head d ld) ∙ ap (λ (u : List ℕ). get_or u 0 0) (agree_part 2 d c a) ∙ third_head c lc in
      let third = sym (third_part d ld (omega (arith, m, s.fewer))) ∙ agree_part 2 d c a ∙ third_part c lc s.fewer in
      let i : id d ld ≡ id c lc = sym (take-append-drop 64 (id d ld)) ∙ rw (cons_tail first, second) (take-append-drop 64 (id c lc)) in
      let q : stored d ≡ stored c = made i (cons_tail third) in
      rw (q, m) e

  -- and the other way round
  pair_agree : pair_at d ≡ some p → agree 3 d c ≡ true
  unfolding agree
  pair_agree f =
      let s = said c lc p e in
      let u = said d ld p f in
      let n : get_or d 0 0 ≡ get_or c 0 0 = u.long ∙ sym s.long in
      let m : get_or d 129 0 ≡ get_or c 129 0 = u.short ∙ sym s.short in
      let i : id d ld ≡ id c lc = u.id_is ∙ sym s.id_is in
      let g : tag d ld ≡ tag c lc = u.tag_is ∙ sym s.tag_is in
      let first : part_of 0 d ≡ part_of 0 c = first_part d ld ∙ rw (i, n) (sym (first_part c lc)) in
      let second : part_of 1 d ≡ part_of 1 c = second_part d ld u.few ∙ rw i (sym (second_part c lc s.few)) in
      let third : part_of 2 d ≡ part_of 2 c = third_part d ld u.fewer ∙ rw (g, m) (sym (third_part c lc s.fewer)) in
      rw (first, second, third, same_refl (part_of 0 c), same_refl (part_of 1 c), same_refl (part_of 2 c))

-- ---- the pairs of the places before

before_in : (p : Pair) (cs : List (List ℕ)) (r : ℕ) → r < length cs → pair_at (get_or cs r []) ≡ some p → is_in p (pairs_in cs) ≡ true
unfolding is_in pairs_in
before_in p [] r h e = absurd (omega arith)
before_in p (c ∷ cs) zero h e = rw (e, pair_self p)
before_in p (c ∷ cs) (suc r) h e = go (pair_at c) (before_in p cs r (omega arith) e)
  where
    go : (o : Option Pair) → is_in p (pairs_in cs) ≡ true → is_in p (with_pair o (pairs_in cs)) ≡ true
    go none i = i
    go (some q) i = rw i (or-true (same_pair p q))

-- the place of a pair
record Where (p : Pair) (cs : List (List ℕ)) : Type 0 where
  index : ℕ
  within : index < length cs
  there : pair_at (get_or cs index []) ≡ some p

in_before : (p : Pair) (cs : List (List ℕ)) → is_in p (pairs_in cs) ≡ true → Where p cs
unfolding is_in pairs_in
in_before p [] e = never (cc)
in_before p (c ∷ cs) e = go (pair_at c) refl e (in_before p cs)
  where
    next : Where p cs → Where p (c ∷ cs)
    next w = record { index = suc w.index; within = omega (arith, w.within); there = w.there }

    here : (q : Pair) → pair_at c ≡ some q → (b : Bool) → same_pair p q ≡ b → (b || is_in p (pairs_in cs)) ≡ true
        → (is_in p (pairs_in cs) ≡ true → Where p cs) → Where p (c ∷ cs)
    here q f true x y r = record { index = 0; within = omega arith; there = f ∙ rw (pair_is p q x) }
    here q f false x y r = next (r y)

    go : (o : Option Pair) → pair_at c ≡ o → is_in p (with_pair o (pairs_in cs)) ≡ true → (is_in p (pairs_in cs) ≡ true → Where p cs) → Where p (c ∷ cs)
    go none f e r = next (r e)
    go (some q) f e r = here q f (same_pair p q) refl e r

module _ (t : List ℕ) (l : length t ≡ 6208) (k : ℕ) (hk : k < 32) where
  abbrev own : List ℕ
  own = take 194 (drop (k * 194) t)

  abbrev before : List Pair
  before = pairs_in (places k t)

  -- a place before it agrees in all parts exactly where its pair is held before
  again_is : (p : Pair) → pair_at own ≡ some p → ltb (first_like 3 (places 32 t) own) k ≡ is_in p before
  again_is p e = go (ltb (first_like 3 (places 32 t) own) k) (is_in p before) refl refl
    where
      r : ℕ
      r = first_like 3 (places 32 t) own

      go : (a b : Bool) → ltb (first_like 3 (places 32 t) own) k ≡ a → is_in p before ≡ b → a ≡ b
      go true true x y = refl
      go false false x y = refl
      go true false x y =
          let h = ltb-true (first_like 3 (places 32 t) own) k x in
          let f = agree_pair own (take 194 (drop (r * 194) t)) (place_long t l k hk) (place_long t l r (omega arith)) p e (first_agrees 3 t k hk) in
          let z = before_in p (places k t) r (rw (places_length k t) h) (rw (get_d_places r k t h) f) in
          never (cc)
      go false true x y =
          let w = in_before p (places k t) y in
          let h : w.index < k = omega (arith, w.within, places_length k t) in
          let f : pair_at (take 194 (drop (w.index * 194) t)) ≡ some p = rw (← get_d_places w.index k t h) w.there in
          let a = pair_agree own (take 194 (drop (w.index * 194) t)) (place_long t l k hk) (place_long t l w.index (omega arith)) p e f in
          absurd (omega (arith, h, ltb-false (first_like 3 (places 32 t) own) k x, first_le 3 t w.index k (omega arith) a))

  free_spare : is_taken own ≡ false → is_spare before own ≡ true
  unfolding is_spare
  free_spare e = rw (free_pair own e, is_spare)

  taken_spare : is_taken own ≡ true → is_spare before own ≡ ltb (first_like 3 (places 32 t) own) k
  unfolding is_spare
  taken_spare e = rw (taken_pair own e, is_spare) (sym (again_is (stored own) (taken_pair own e)))

  module _ {d : List ℕ} (ed : d ≡ firsts_of 3 (places 32 t)) {v : ℕ} (ev : v ≡ get_or d k 0) where
    first_is : v ≡ first_like 3 (places 32 t) own
    first_is = ev ∙ rw ed (firsts_at 3 t k hk)

    pub again_spare : v < k → is_spare before own ≡ true
    again_spare h = go (is_taken own) refl
      where
        go : (b : Bool) → is_taken own ≡ b → is_spare before own ≡ true
        go true e = taken_spare e ∙ rw (← first_is) (lt-ltb v k h)
        go false e = free_spare e

    module _ (h : k ≤ v) {b : Bool} (eb : b ≡ is_taken own) where
      pub new_spare : b ≡ true → is_spare before own ≡ false
      new_spare n = taken_spare (sym eb ∙ n) ∙ rw (← first_is) (le-ltb v k h)

  pub unformed_spare : {b : Bool} → b ≡ is_taken own → b ≡ false → is_spare before own ≡ true
  unformed_spare {b} eb n = free_spare (sym eb ∙ n)
