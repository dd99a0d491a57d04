-- The laws of a table: what is held after a pair was entered or removed, and when 32 are held. A table has 32 * 194 bytes, whatever they are.
use mathlib.Core.Path.{◌≡◌, refl, sym, ap, ◌∙◌}
use mathlib.Core.Bool.{Bool, true, false, not, cond, ◌&&◌, ◌||◌, and-true}
use mathlib.Core.List.{List, [], ◌∷◌, ◌++◌, map}
use mathlib.Core.Option.{Option, none, some}
use Prim.Native.Nat.{ℕ, zero, suc, ◌+◌, ◌*◌, ◌≤◌, ◌<◌}
use native.Mathlib.Omega.{arith}
use lib.Dec.{eqb, leb, ltb}
use lib.ListN.{length, take, drop, get_or, set, length-set, length-map}
use borrow.Author.Tests.{eqb-false, ne_eqb, ltb-true}
use Rattle.sip.specs.CallPromises.{is_distinct}
use Rattle.sip.proofs.Tests.{never}
use Rattle.sip.specs.Values.{is_call_id}
use Rattle.sip.specs.Calls.{Pair, is_pair, same_pair, is_in, distinct, places, table_of, stored, pair_at, place_with, with_pair, pairs_in, held, is_held}
use Rattle.sip.specs.Calls.{is_full, none_held, first_where, starts_with0, first_spare, new_place, placed, entered, cleared, removed}
use Rattle.sip.proofs.Calls.Pairs.{pair_is, pair_self, in_same, equally_long, held_in, held_once}
use Rattle.sip.proofs.Calls.Places.{table_set, Sized, places_sized, places_length, places_table, table_length, table_places, sized_set, sized_map}
use Rattle.sip.proofs.Calls.Places.{place_length, id_long, tag_short, place_pair, zero_free, first_where_lem, spare_free, spare_again, spare_next}
use Rattle.sip.proofs.Calls.Places.{replaced_free, replaced_spare, cleared_length, cleared_in, cleared_none}

-- ---- how many are held

distinct_short : (before ps : List Pair) → length (distinct before ps) ≤ length ps
unfolding distinct
distinct_short before [] = omega arith
distinct_short before (p ∷ ps) = go (is_in p before) (distinct_short before ps) (distinct_short (before ++ (p ∷ [])) ps)
  where
    go : (t : Bool) → length (distinct before ps) ≤ length ps → length (distinct (before ++ (p ∷ [])) ps) ≤ length ps
        → length (cond t (distinct before ps) (p ∷ distinct (before ++ (p ∷ [])) ps)) ≤ suc (length ps)
    go true i j = omega arith
    go false i j = omega arith

pairs_short : (cs : List (List ℕ)) → length (pairs_in cs) ≤ length cs
unfolding pairs_in
pairs_short [] = omega arith
pairs_short (c ∷ cs) = go (pair_at c) (pairs_short cs)
  where
    go : (o : Option Pair) → length (pairs_in cs) ≤ length cs → length (with_pair o (pairs_in cs)) ≤ suc (length cs)
    go none i = omega arith
    go (some p) i = omega arith

free_short : (cs : List (List ℕ)) (k : ℕ) → k < length cs → pair_at (get_or cs k []) ≡ none → length (pairs_in cs) < length cs
unfolding pairs_in
free_short [] k h e = absurd (omega arith)
free_short (c ∷ cs) zero h e = rw e (omega (arith, pairs_short cs))
free_short (c ∷ cs) (suc k) h e = go (pair_at c) (free_short cs k (omega arith) e)
  where
    go : (o : Option Pair) → length (pairs_in cs) < length cs → length (with_pair o (pairs_in cs)) < suc (length cs)
    go none i = omega arith
    go (some p) i = omega arith

-- a place to enter a pair is there exactly where fewer pairs are held than there are places
pub data Left (k d n : ℕ) : Type 0 where
  some_left : k < n → d < n → Left k d n
  none_left : k ≡ n → d ≡ n → Left k d n

spare_left : (before : List Pair) (cs : List (List ℕ)) → Left (first_spare before cs) (length (distinct before (pairs_in cs))) (length cs)
unfolding first_spare distinct pairs_in
spare_left before [] = none_left refl refl
spare_left before (c ∷ cs) = go (pair_at c) refl (λ b. spare_left b cs)
  where
    more : {k d n : ℕ} → Left k d n → Left (suc k) (suc d) (suc n)
    more (some_left a b) = some_left (omega arith) (omega arith)
    more (none_left a b) = none_left (ap suc a) (ap suc b)

    found : (p : Pair) → pair_at c ≡ some p → (t : Bool) → is_in p before ≡ t
        → ((b : List Pair) → Left (first_spare b cs) (length (distinct b (pairs_in cs))) (length cs))
        → Left (first_spare before (c ∷ cs)) (length (distinct before (p ∷ pairs_in cs))) (suc (length cs))
    found p f true i r =
        rw (spare_again before c cs p f i, i) (some_left (omega arith) (omega (arith, distinct_short before (pairs_in cs), pairs_short cs)))
    found p f false i r = rw (spare_next before c cs p f i, i) (more (r (before ++ (p ∷ []))))

    go : (o : Option Pair) → pair_at c ≡ o
        → ((b : List Pair) → Left (first_spare b cs) (length (distinct b (pairs_in cs))) (length cs))
        → Left (first_spare before (c ∷ cs)) (length (distinct before (with_pair (pair_at c) (pairs_in cs)))) (suc (length cs))
    go none f r = rw (spare_free before c cs f, f) (some_left (omega arith) (omega (arith, distinct_short before (pairs_in cs), pairs_short cs)))
    go (some p) f r = rw f (found p f (is_in p before) refl r)

-- "exactly when a new pair meets 32 held ones": the new_place is 32 where 32 are held, and else less
pub new_left : (t : List ℕ) → Left (new_place t) (length (held t)) 32
unfolding new_place held
new_left t = go (ltb (first_where starts_with0 (places 32 t)) 32) refl
  where
    long : length (places 32 t) ≡ 32
    long = places_length 32 t

    go : (b : Bool) → ltb (first_where starts_with0 (places 32 t)) 32 ≡ b
        → Left (cond b (first_where starts_with0 (places 32 t)) (first_spare [] (places 32 t))) (length (distinct [] (pairs_in (places 32 t)))) 32
    go true e =
        let h : first_where starts_with0 (places 32 t) < 32 = ltb-true (first_where starts_with0 (places 32 t)) 32 e in
        let k : first_where starts_with0 (places 32 t) < length (places 32 t) = omega (arith, long) in
        let f = zero_free (get_or (places 32 t) (first_where starts_with0 (places 32 t)) []) (first_where_lem starts_with0 (places 32 t) k) in
        let s = free_short (places 32 t) (first_where starts_with0 (places 32 t)) k f in
        some_left h (omega (arith, long, distinct_short [] (pairs_in (places 32 t))))
    go false e = rw long at (spare_left [] (places 32 t))

pub new_within : (t : List ℕ) → is_full t ≡ false → new_place t < 32
unfolding is_full
new_within t e = go (new_left t)
  where
    go : Left (new_place t) (length (held t)) 32 → new_place t < 32
    go (some_left a b) = a
    go (none_left a b) = absurd (eqb-false (length (held t)) 32 e b)

pub new_most : (t : List ℕ) → new_place t ≤ 32
new_most t = go (new_left t)
  where
    go : Left (new_place t) (length (held t)) 32 → new_place t ≤ 32
    go (some_left a b) = omega arith
    go (none_left a b) = omega arith

pub held_most : (t : List ℕ) → length (held t) ≤ 32
held_most t = go (new_left t)
  where
    go : Left (new_place t) (length (held t)) 32 → length (held t) ≤ 32
    go (some_left a b) = omega arith
    go (none_left a b) = omega arith

pub full_place : (t : List ℕ) → is_full t ≡ eqb (new_place t) 32
unfolding is_full
full_place t = go (new_left t)
  where
    go : Left (new_place t) (length (held t)) 32 → eqb (length (held t)) 32 ≡ eqb (new_place t) 32
    go (some_left a b) = ne_eqb (length (held t)) 32 (λ e. omega arith) ∙ sym (ne_eqb (new_place t) 32 (λ e. omega arith))
    go (none_left a b) = rw (a, b)

-- ---- entering

-- not one byte changes where it is held
pub entered_held : (p : Pair) (t : List ℕ) → is_held p t ≡ true → entered p t ≡ t
unfolding entered
entered_held p t e = rw e

-- the bytes of one place are written over
pub placed_bytes : (p : Pair) (t : List ℕ) → length t ≡ 32 * 194 → (k : ℕ) → k < 32 → placed k p t ≡ take (k * 194) t ++ (place_with p ++ drop (k * 194 + 194) t)
unfolding placed
placed_bytes p t s k h = table_set 32 t s k h (place_with p)

module _ (t : List ℕ) (s : length t ≡ 32 * 194) (p : Pair) (w : is_pair p ≡ true) where
  place_long : length (place_with p) ≡ 194
  place_long = place_length p (id_long p w) (tag_short p w)

  pub placed_places : (k : ℕ) → places 32 (placed k p t) ≡ set (places 32 t) k (place_with p)
  unfolding placed
  placed_places k =
      let l : length (set (places 32 t) k (place_with p)) ≡ 32 = length-set (places 32 t) k (place_with p) ∙ places_length 32 t in
      rw l at (places_table (sized_set (places_sized 32 t s) k (place_with p) place_long))

  pub placed_length : (k : ℕ) → length (placed k p t) ≡ 32 * 194
  unfolding placed
  placed_length k =
      let l : length (set (places 32 t) k (place_with p)) ≡ 32 = length-set (places 32 t) k (place_with p) ∙ places_length 32 t in
      rw l at (table_length (sized_set (places_sized 32 t s) k (place_with p) place_long))

  pub entered_length : length (entered p t) ≡ 32 * 194
  unfolding entered
  entered_length = go (is_held p t)
    where
      go : (b : Bool) → length (cond b t (placed (new_place t) p t)) ≡ 32 * 194
      go true = s
      go false = placed_length (new_place t)

  module _ (q : Pair) where
    placed_in : is_full t ≡ false → is_held q (placed (new_place t) p t) ≡ (same_pair q p || is_held q t)
    unfolding new_place is_in
    placed_in f = rw (held_in q (placed (new_place t) p t), held_in q t, placed_places (new_place t)) (go (ltb (first_where starts_with0 (places 32 t)) 32) refl)
      where
        long : length (places 32 t) ≡ 32
        long = places_length 32 t

        go : (b : Bool) → ltb (first_where starts_with0 (places 32 t)) 32 ≡ b
            → is_in q (pairs_in (set (places 32 t) (cond b (first_where starts_with0 (places 32 t)) (first_spare [] (places 32 t))) (place_with p)))
            ≡ (same_pair q p || is_in q (pairs_in (places 32 t)))
        go true e =
            let h : first_where starts_with0 (places 32 t) < 32 = ltb-true (first_where starts_with0 (places 32 t)) 32 e in
            let k : first_where starts_with0 (places 32 t) < length (places 32 t) = omega (arith, long) in
            let y = zero_free (get_or (places 32 t) (first_where starts_with0 (places 32 t)) []) (first_where_lem starts_with0 (places 32 t) k) in
            replaced_free p (place_with p) (place_pair p w) q (places 32 t) (first_where starts_with0 (places 32 t)) k y
        go false e =
            let h : cond false (first_where starts_with0 (places 32 t)) (first_spare [] (places 32 t)) < 32 = rw e at (new_within t f) in
            let k : first_spare [] (places 32 t) < length (places 32 t) = omega (arith, long) in
            replaced_spare p (place_with p) (place_pair p w) q [] (places 32 t) k

    known : is_held p t ≡ true → (b : Bool) → same_pair q p ≡ b → is_held q t ≡ (b || is_held q t)
    unfolding is_held
    known y true z = in_same q p (held t) z ∙ y
    known y false z = refl

    -- held after it is entered: what was held before, and the pair
    pub entered_in : (is_held p t || not (is_full t)) ≡ true → is_held q (entered p t) ≡ (same_pair q p || is_held q t)
    unfolding entered
    entered_in h = go (is_held p t) (is_full t) refl refl h
      where
        go : (a b : Bool) → is_held p t ≡ a → is_full t ≡ b → (a || not b) ≡ true → is_held q (cond a t (placed (new_place t) p t)) ≡ (same_pair q p || is_held q t)
        go true b y z h = known y (same_pair q p) refl
        go false true y z h = never (cc)
        go false false y z h = placed_in z

  -- and it is one pair more, where it was not held
  pub entered_count : is_held p t ≡ false → is_full t ≡ false → length (held (entered p t)) ≡ suc (length (held t))
  unfolding is_distinct is_in is_held
  entered_count n f =
      let new : is_distinct (p ∷ held t) ≡ true = rw (n, held_once t) in
      equally_long (held (entered p t)) (p ∷ held t) (held_once (entered p t)) new (λ q. entered_in q (rw (n, f)))

-- ---- removing

-- not one byte changes where it is not held
pub removed_none : (p : Pair) (t : List ℕ) → is_held p t ≡ false → removed p t ≡ t
unfolding removed
removed_none p t e = rw e

module _ (t : List ℕ) (s : length t ≡ 32 * 194) (p : Pair) where
  sized : Sized (map (cleared p) (places 32 t))
  sized = sized_map (places_sized 32 t s) (cleared p) (cleared_length p)

  map_long : length (map (cleared p) (places 32 t)) ≡ 32
  map_long = length-map (places 32 t) (cleared p) ∙ places_length 32 t

  -- where it is not held every place stays as it was
  pub removed_all : removed p t ≡ table_of (map (cleared p) (places 32 t))
  unfolding removed
  removed_all = go (is_held p t) refl
    where
      go : (b : Bool) → is_held p t ≡ b → cond b (table_of (map (cleared p) (places 32 t))) t ≡ table_of (map (cleared p) (places 32 t))
      go true e = refl
      go false e = sym (rw (cleared_none p (places 32 t) (sym (held_in p t) ∙ e)) (table_places 32 t s))

  pub removed_length : length (removed p t) ≡ 32 * 194
  removed_length = rw removed_all (rw map_long at (table_length sized))

  pub removed_places : places 32 (removed p t) ≡ map (cleared p) (places 32 t)
  removed_places = rw removed_all (rw map_long at (places_table sized))

  -- held after it is removed: what was held before, without the pair
  pub removed_in : (q : Pair) → is_held q (removed p t) ≡ (is_held q t && not (same_pair q p))
  removed_in q = rw (held_in q (removed p t), held_in q t, removed_places) (cleared_in p q (places 32 t))

  -- and it is one pair less, where it was held
  pub removed_count : is_held p t ≡ true → suc (length (held (removed p t))) ≡ length (held t)
  unfolding is_distinct is_in is_held
  removed_count h =
      let gone : is_in p (held (removed p t)) ≡ false = removed_in p ∙ rw (h, pair_self p) in
      let new : is_distinct (p ∷ held (removed p t)) ≡ true = rw (gone, held_once (removed p t)) in
      equally_long (p ∷ held (removed p t)) (held t) new (held_once t) (λ q. rw (removed_in q) (go q (same_pair q p) refl))
    where
      go : (q : Pair) (b : Bool) → same_pair q p ≡ b → (b || (is_in q (held t) && not b)) ≡ is_in q (held t)
      go q true x = sym (in_same q p (held t) x ∙ h)
      go q false x = and-true (is_in q (held t))

-- ---- what is held is well formed

pair_formed : (c : List ℕ) (p : Pair) → pair_at c ≡ some p → is_pair p ≡ true
unfolding pair_at
pair_formed c p e = go (leb (get_or c 129 0) 64) (is_pair (stored c)) refl e
  where
    go : (a b : Bool) → is_pair (stored c) ≡ b → cond (a && b) (some (stored c)) none ≡ some p → is_pair p ≡ true
    go true true f e = let z : stored c ≡ p = cc in rw z at f
    go true false f e = never (cc)
    go false b f e = never (cc)

in_formed : (p : Pair) (cs : List (List ℕ)) → is_in p (pairs_in cs) ≡ true → is_pair p ≡ true
unfolding is_in pairs_in
in_formed p [] e = never (cc)
in_formed p (c ∷ cs) e = go (pair_at c) refl e (in_formed p cs)
  where
    or_case : (q : Pair) → pair_at c ≡ some q → (a : Bool) → same_pair p q ≡ a → (a || is_in p (pairs_in cs)) ≡ true → (is_in p (pairs_in cs) ≡ true → is_pair p ≡ true) → is_pair p ≡ true
    or_case q f true x y r = rw (pair_is p q x) (pair_formed c q f)
    or_case q f false x y r = r y

    go : (o : Option Pair) → pair_at c ≡ o → is_in p (with_pair o (pairs_in cs)) ≡ true → (is_in p (pairs_in cs) ≡ true → is_pair p ≡ true) → is_pair p ≡ true
    go none f e r = r e
    go (some q) f e r = or_case q f (same_pair p q) refl e r

pub held_formed : (p : Pair) (t : List ℕ) → is_held p t ≡ true → is_pair p ≡ true
held_formed p t e = in_formed p (places 32 t) (sym (held_in p t) ∙ e)

-- ---- none

pub none_length : length none_held ≡ 32 * 194
unfolding none_held
none_length = refl

pub none_is_held : held none_held ≡ []
unfolding held none_held distinct pairs_in places pair_at stored is_pair is_call_id
none_is_held = refl
