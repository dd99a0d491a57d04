-- A table and its places: cutting and joining, and what the pairs of the places are after one was replaced or some were cleared.
use mathlib.Core.Path.{◌≡◌, refl, sym, ap, ◌∙◌}
use mathlib.Core.Bool.{Bool, true, false, not, cond, ◌&&◌, ◌||◌, or_assoc, and-false}
use mathlib.Core.List.{List, [], ◌∷◌, ◌++◌, map, append_assoc}
use mathlib.Core.Option.{Option, none, some}
use Prim.Native.Nat.{ℕ, zero, suc, ◌+◌, ◌*◌, ◌-◌, ◌≤◌, ◌<◌}
use native.Mathlib.Omega.{arith}
use lib.Dec.{leb}
use lib.ListN.{length, take, drop, get_or, set, replicate, length-append, length-drop, length-replicate, take-append-drop}
use lib.Seq.{take_at, drop_at, get_or_at, append_snoc, drop-drop, take-add, length-take-le}
use borrow.Author.Tests.{eqb-true, le-leb}
use Rattle.sip.proofs.Tests.{never, and_left, and_right, range_high}
use Rattle.sip.specs.Values.{is_call_id}
use Rattle.sip.specs.Calls.{Pair, is_tag_value, is_pair, same_pair, is_in, places, table_of, stored, pair_at, place_with, free_place, with_pair, pairs_in}
use Rattle.sip.specs.Calls.{first_where, starts_with0, first_spare, holds, cleared}
use Rattle.sip.specs.CallPromises.{any_holds}
use Rattle.sip.proofs.Calls.Pairs.{made, pair_is, pair_sym, in_snoc, in_same}

-- ---- cutting and joining

-- every place has its 194 bytes
pub data Sized : List (List ℕ) → Type 0 where
  none_left : Sized []
  one_more : {c : List ℕ} {cs : List (List ℕ)} → length c ≡ 194 → Sized cs → Sized (c ∷ cs)

pub places_sized_within : (n : ℕ) (t : List ℕ) → n * 194 ≤ length t → Sized (places n t)
unfolding places
places_sized_within zero t e = none_left
places_sized_within (suc n) t e =
    one_more (length-take-le 194 t (omega arith)) (places_sized_within n (drop 194 t) (rw (length-drop 194 t) (omega arith)))

pub places_sized : (n : ℕ) (t : List ℕ) → length t ≡ n * 194 → Sized (places n t)
places_sized n t e = places_sized_within n t (omega arith)

pub places_length : (n : ℕ) (t : List ℕ) → length (places n t) ≡ n
unfolding places
places_length zero t = refl
places_length (suc n) t = ap suc (places_length n (drop 194 t))

pub places_table : {cs : List (List ℕ)} → Sized cs → places (length cs) (table_of cs) ≡ cs
unfolding places table_of
places_table none_left = refl
places_table (one_more {c} {cs} l h) = rw (take_at c (table_of cs) 194 l, drop_at c (table_of cs) 194 l, places_table h)

pub table_length : {cs : List (List ℕ)} → Sized cs → length (table_of cs) ≡ length cs * 194
unfolding table_of
table_length none_left = refl
table_length (one_more {c} {cs} l h) = length-append c (table_of cs) ∙ omega (arith, table_length h)

pub table_places : (n : ℕ) (t : List ℕ) → length t ≡ n * 194 → table_of (places n t) ≡ t
unfolding places table_of
table_places zero [] e = refl
table_places zero (b ∷ t) e = absurd (omega arith)
table_places (suc n) t e = rw (table_places n (drop 194 t) (length-drop 194 t ∙ omega arith)) (take-append-drop 194 t)

pub sized_set : {cs : List (List ℕ)} → Sized cs → (k : ℕ) (c : List ℕ) → length c ≡ 194 → Sized (set cs k c)
sized_set none_left k c e = none_left
sized_set (one_more l h) zero c e = one_more e h
sized_set (one_more l h) (suc k) c e = one_more l (sized_set h k c e)

pub sized_map : {cs : List (List ℕ)} → Sized cs → (f : List ℕ → List ℕ) → ((c : List ℕ) → length c ≡ 194 → length (f c) ≡ 194) → Sized (map f cs)
sized_map none_left f e = none_left
sized_map (one_more {c} l h) f e = one_more (e c l) (sized_map h f e)

-- the bytes of a place are written over
pub table_set : (n : ℕ) (t : List ℕ) → length t ≡ n * 194 → (k : ℕ) → k < n → (c : List ℕ)
    → table_of (set (places n t) k c) ≡ take (k * 194) t ++ (c ++ drop (k * 194 + 194) t)
unfolding places table_of
table_set zero t e k h c = absurd (omega arith)
table_set (suc n) t e zero h c = rw (table_places n (drop 194 t) (length-drop 194 t ∙ omega arith))
table_set (suc n) t e (suc k) h c =
    let a : suc k * 194 ≡ 194 + k * 194 = omega arith in
    let b : suc k * 194 + 194 ≡ 194 + (k * 194 + 194) = omega arith in
    let d : drop 194 (drop (k * 194) t) ≡ drop (k * 194 + 194) t = drop-drop 194 (k * 194) t in
    rw (table_set n (drop 194 t) (length-drop 194 t ∙ omega arith) k (omega arith) c, b, a, take-add 194 (k * 194) t, drop-drop (k * 194 + 194) 194 t)
    (sym (append_assoc (take 194 t) (take (k * 194) (drop 194 t)) (c ++ drop (194 + (k * 194 + 194)) t)))

-- ---- what a place says

pub place_length : (p : Pair) → length p.call_id ≤ 128 → length p.tag ≤ 64 → length (place_with p) ≡ 194
unfolding place_with
place_length p a b =
    let i = p.call_id in
    let g = p.tag in
    omega (
      arith,
      length-append (length i ∷ (i ++ replicate (128 - length i) 0)) (length g ∷ (g ++ replicate (64 - length g) 0)),
      length-append i (replicate (128 - length i) 0),
      length-append g (replicate (64 - length g) 0),
      length-replicate {A = ℕ} (128 - length i) 0,
      length-replicate {A = ℕ} (64 - length g) 0,
    )

call_id_long : (v : List ℕ) → is_call_id v ≡ true → length v ≤ 128
unfolding is_call_id
call_id_long v e = range_high 1 128 (length v) (and_left _ _ e)

tag_long : (v : List ℕ) → is_tag_value v ≡ true → length v ≤ 64
unfolding is_tag_value
tag_long v e = range_high 1 64 (length v) (and_left _ _ e)

module _ (p : Pair) (w : is_pair p ≡ true) where
  pub formed_id : is_call_id p.call_id ≡ true
  unfolding is_pair
  formed_id = and_left (is_call_id p.call_id) (is_tag_value p.tag) w

  pub formed_tag : is_tag_value p.tag ≡ true
  unfolding is_pair
  formed_tag = and_right (is_call_id p.call_id) (is_tag_value p.tag) w

  pub id_long : length p.call_id ≤ 128
  id_long = call_id_long p.call_id formed_id

  pub tag_short : length p.tag ≤ 64
  tag_short = tag_long p.tag formed_tag

  abbrev id_part : List ℕ
  id_part = length p.call_id ∷ (p.call_id ++ replicate (128 - length p.call_id) 0)

  abbrev tag_part : List ℕ
  tag_part = p.tag ++ replicate (64 - length p.tag) 0

  id_part_long : length id_part ≡ 129
  id_part_long =
      omega (arith, id_long, length-append p.call_id (replicate (128 - length p.call_id) 0), length-replicate {A = ℕ} (128 - length p.call_id) 0)

  place_tag : get_or (place_with p) 129 0 ≡ length p.tag
  unfolding place_with
  place_tag = get_or_at id_part (length p.tag) tag_part 0 129 id_part_long

  stored_id : take (length p.call_id) (drop 1 (place_with p)) ≡ p.call_id
  unfolding place_with
  stored_id =
      let i = p.call_id in
      let z : List ℕ = replicate (128 - length i) 0 in
      ap (take (length i)) (append_assoc i z (length p.tag ∷ tag_part)) ∙ take_at i (z ++ (length p.tag ∷ tag_part)) (length i) refl

  stored_tag : drop 130 (place_with p) ≡ tag_part
  unfolding place_with
  stored_tag =
      let front : List ℕ = id_part ++ (length p.tag ∷ []) in
      let l : length front ≡ 130 = length-append id_part (length p.tag ∷ []) ∙ omega (arith, id_part_long) in
      ap (λ (s : List ℕ). drop 130 s) (sym (append_snoc id_part (length p.tag) tag_part)) ∙ drop_at front tag_part 130 l

  place_stored : stored (place_with p) ≡ p
  unfolding stored place_with
  place_stored =
      let g = p.tag in
      let e : take (length g) tag_part ≡ g = take_at g (replicate (64 - length g) 0) (length g) refl in
      made stored_id (rw (place_tag, stored_tag) e)

  -- a place that holds the pair says so
  pub place_pair : pair_at (place_with p) ≡ some p
  unfolding pair_at
  place_pair = rw (place_stored, place_tag, le-leb (length p.tag) 64 tag_short, w)

pub zero_free : (c : List ℕ) → starts_with0 c ≡ true → pair_at c ≡ none
unfolding starts_with0 pair_at stored is_pair is_call_id
zero_free c e = rw (eqb-true (get_or c 0 0) 0 e) (low (leb (get_or c 129 0) 64) (record { call_id = []; tag = take (get_or c 129 0) (drop 130 c) }))
  where
    low : (b : Bool) (p : Pair) → cond (b && false) (some p) none ≡ none
    low true p = refl
    low false p = refl

pub free_none : pair_at free_place ≡ none
unfolding pair_at stored free_place is_pair is_call_id
free_none = refl

-- ---- the pairs, where one place is replaced

pub first_where_lem : (f : List ℕ → Bool) (cs : List (List ℕ)) → first_where f cs < length cs → f (get_or cs (first_where f cs) []) ≡ true
unfolding first_where
first_where_lem f [] h = absurd (omega arith)
first_where_lem f (c ∷ cs) h = go (f c) refl h (first_where_lem f cs)
  where
    go : (t : Bool) → f c ≡ t → cond t 0 (suc (first_where f cs)) < suc (length cs) → (first_where f cs < length cs → f (get_or cs (first_where f cs) []) ≡ true)
        → f (get_or (c ∷ cs) (cond t 0 (suc (first_where f cs))) []) ≡ true
    go true e h r = e
    go false e h r = r (omega arith)

-- the first spare place, by what the first one says
module _ (before : List Pair) (c : List ℕ) (cs : List (List ℕ)) where
  pub spare_free : pair_at c ≡ none → first_spare before (c ∷ cs) ≡ 0
  unfolding first_spare
  spare_free e = rw (e, first_spare)

  module _ (r : Pair) (e : pair_at c ≡ some r) where
    pub spare_again : is_in r before ≡ true → first_spare before (c ∷ cs) ≡ 0
    unfolding first_spare
    spare_again i = rw (e, first_spare, i)

    pub spare_next : is_in r before ≡ false → first_spare before (c ∷ cs) ≡ suc (first_spare (before ++ (r ∷ [])) cs)
    unfolding first_spare
    spare_next i = rw (e, first_spare, i)

module _ (p : Pair) (x : List ℕ) (e : pair_at x ≡ some p) (q : Pair) where
  or_swap : (a b c : Bool) → (a || (b || c)) ≡ (b || (a || c))
  or_swap true true c = refl
  or_swap true false c = refl
  or_swap false true c = refl
  or_swap false false c = refl

  -- a free one
  pub replaced_free : (cs : List (List ℕ)) (k : ℕ) → k < length cs → pair_at (get_or cs k []) ≡ none
      → is_in q (pairs_in (set cs k x)) ≡ (same_pair q p || is_in q (pairs_in cs))
  unfolding pairs_in is_in
  replaced_free [] k h f = absurd (omega arith)
  replaced_free (c ∷ cs) zero h f = rw (e, f)
  replaced_free (c ∷ cs) (suc k) h f = go (pair_at c) (replaced_free cs k (omega arith) f)
    where
      go : (o : Option Pair) → is_in q (pairs_in (set cs k x)) ≡ (same_pair q p || is_in q (pairs_in cs))
          → is_in q (with_pair o (pairs_in (set cs k x))) ≡ (same_pair q p || is_in q (with_pair o (pairs_in cs)))
      go none i = i
      go (some r) i = rw i (or_swap (same_pair q r) (same_pair q p) (is_in q (pairs_in cs)))

  -- the first that is free or repeats an earlier one
  pub replaced_spare : (before : List Pair) (cs : List (List ℕ)) → first_spare before cs < length cs
      → (is_in q before || is_in q (pairs_in (set cs (first_spare before cs) x))) ≡ (same_pair q p || (is_in q before || is_in q (pairs_in cs)))
  unfolding pairs_in is_in
  replaced_spare before [] h = absurd (omega arith)
  replaced_spare before (c ∷ cs) h = go (λ b. replaced_spare b cs) (pair_at c) refl
    where
      first : first_spare before (c ∷ cs) ≡ 0 → (is_in q before || is_in q (with_pair (pair_at c) (pairs_in cs))) ≡ (is_in q before || is_in q (pairs_in cs))
          → (is_in q before || is_in q (pairs_in (set (c ∷ cs) (first_spare before (c ∷ cs)) x)))
          ≡ (same_pair q p || (is_in q before || is_in q (with_pair (pair_at c) (pairs_in cs))))
      first z f = rw (z, f, e) (or_swap (is_in q before) (same_pair q p) (is_in q (pairs_in cs)))

      held_before : (r : Pair) → is_in r before ≡ true → (b : Bool) → same_pair q r ≡ b
          → (is_in q before || (same_pair q r || is_in q (pairs_in cs))) ≡ (is_in q before || is_in q (pairs_in cs))
      held_before r i true f = rw (in_same q r before f, i)
      held_before r i false f = rw f

      later : (r : Pair) → pair_at c ≡ some r → is_in r before ≡ false
          → (first_spare (before ++ (r ∷ [])) cs < length cs
          → (is_in q (before ++ (r ∷ [])) || is_in q (pairs_in (set cs (first_spare (before ++ (r ∷ [])) cs) x)))
          ≡ (same_pair q p || (is_in q (before ++ (r ∷ [])) || is_in q (pairs_in cs))))
          → (is_in q before || is_in q (pairs_in (set (c ∷ cs) (first_spare before (c ∷ cs)) x)))
          ≡ (same_pair q p || (is_in q before || is_in q (with_pair (pair_at c) (pairs_in cs))))
      later r f i hyp =
          let k : first_spare before (c ∷ cs) ≡ suc (first_spare (before ++ (r ∷ [])) cs) = spare_next before c cs r f i in
          let y = hyp (omega arith) in
          let z : (is_in q before || same_pair q r || is_in q (pairs_in (set cs (first_spare (before ++ (r ∷ [])) cs) x)))
          ≡ (same_pair q p || (is_in q before || same_pair q r || is_in q (pairs_in cs))) = rw (in_snoc q before r) at y in
          rw (
            k,
            f,
            ← or_assoc (is_in q before) (same_pair q r) (is_in q (pairs_in (set cs (first_spare (before ++ (r ∷ [])) cs) x))),
            ← or_assoc (is_in q before) (same_pair q r) (is_in q (pairs_in cs)),
          ) z

      again : ((b : List Pair) → first_spare b cs < length cs
          → (is_in q b || is_in q (pairs_in (set cs (first_spare b cs) x))) ≡ (same_pair q p || (is_in q b || is_in q (pairs_in cs))))
          → (r : Pair) → pair_at c ≡ some r → (b : Bool) → is_in r before ≡ b
          → (is_in q before || is_in q (pairs_in (set (c ∷ cs) (first_spare before (c ∷ cs)) x)))
          ≡ (same_pair q p || (is_in q before || is_in q (with_pair (pair_at c) (pairs_in cs))))
      again hyp r f true i = first (spare_again before c cs r f i) (rw f (held_before r i (same_pair q r) refl))
      again hyp r f false i = later r f i (hyp (before ++ (r ∷ [])))

      go : ((b : List Pair) → first_spare b cs < length cs
          → (is_in q b || is_in q (pairs_in (set cs (first_spare b cs) x))) ≡ (same_pair q p || (is_in q b || is_in q (pairs_in cs))))
          → (o : Option Pair) → pair_at c ≡ o
          → (is_in q before || is_in q (pairs_in (set (c ∷ cs) (first_spare before (c ∷ cs)) x)))
          ≡ (same_pair q p || (is_in q before || is_in q (with_pair (pair_at c) (pairs_in cs))))
      go hyp none f = first (spare_free before c cs f) (rw f)
      go hyp (some r) f = again hyp r f (is_in r before) refl

-- ---- the pairs, where some places are cleared

module _ (p : Pair) (c : List ℕ) where
  cleared_stays : holds p c ≡ false → cleared p c ≡ c
  unfolding cleared
  cleared_stays e = rw e

  cleared_goes : holds p c ≡ true → cleared p c ≡ free_place
  unfolding cleared
  cleared_goes e = rw e

  pub cleared_length : length c ≡ 194 → length (cleared p c) ≡ 194
  unfolding cleared free_place
  cleared_length l = go (holds p c)
    where
      go : (t : Bool) → length (cond t free_place c) ≡ 194
      go true = refl
      go false = l

  holds_none : pair_at c ≡ none → holds p c ≡ false
  unfolding holds
  holds_none e = rw e

  pub holds_some : (r : Pair) → pair_at c ≡ some r → holds p c ≡ same_pair p r
  unfolding holds
  holds_some r e = rw e

-- a pair is one of those where some place holds it
pub in_a_place : (p : Pair) (cs : List (List ℕ)) → is_in p (pairs_in cs) ≡ any_holds p cs
unfolding pairs_in is_in any_holds
in_a_place p [] = refl
in_a_place p (c ∷ cs) = go (pair_at c) refl (in_a_place p cs)
  where
    go : (o : Option Pair) → pair_at c ≡ o → is_in p (pairs_in cs) ≡ any_holds p cs
        → is_in p (with_pair (pair_at c) (pairs_in cs)) ≡ (holds p c || any_holds p cs)
    go none f i = rw (holds_none p c f, f) i
    go (some q) f i = rw (holds_some p c q f, f, i)

module _ (p q : Pair) where
  module _ (c : List ℕ) (cs ds : List (List ℕ)) (i : is_in q (pairs_in ds) ≡ (is_in q (pairs_in cs) && not (same_pair q p))) where
    abbrev Goal : Type 0
    Goal = is_in q (with_pair (pair_at (cleared p c)) (pairs_in ds)) ≡ (is_in q (with_pair (pair_at c) (pairs_in cs)) && not (same_pair q p))

    module _ (r : Pair) (f : pair_at c ≡ some r) where
      equal : same_pair p r ≡ true → (b : Bool) → same_pair q r ≡ b → Goal
      unfolding is_in
      equal s true y =
          let z : same_pair q p ≡ true = rw (pair_is p r s) y in
          rw (cleared_goes p c (holds_some p c r f ∙ s), free_none, i, f, z, y) (and-false (is_in q (pairs_in cs)))
      equal s false y = rw (cleared_goes p c (holds_some p c r f ∙ s), free_none, i, f, y)

      differs : same_pair p r ≡ false → (b : Bool) → same_pair q r ≡ b → Goal
      unfolding is_in
      differs s true y =
          let z : same_pair q p ≡ false = rw (pair_is q r y) (pair_sym r p ∙ s) in
          rw (cleared_stays p c (holds_some p c r f ∙ s), f, y, z)
      differs s false y = rw (cleared_stays p c (holds_some p c r f ∙ s), f, y, i)

      one_pair : (a : Bool) → same_pair p r ≡ a → Goal
      one_pair true s = equal s (same_pair q r) refl
      one_pair false s = differs s (same_pair q r) refl

    cleared_one : (o : Option Pair) → pair_at c ≡ o → Goal
    cleared_one none f = rw (cleared_stays p c (holds_none p c f), f, i)
    cleared_one (some r) f = one_pair r f (same_pair p r) refl

  pub cleared_in : (cs : List (List ℕ)) → is_in q (pairs_in (map (cleared p) cs)) ≡ (is_in q (pairs_in cs) && not (same_pair q p))
  unfolding pairs_in is_in
  cleared_in [] = refl
  cleared_in (c ∷ cs) = cleared_one c cs (map (cleared p) cs) (cleared_in cs) (pair_at c) refl

-- where no place holds the pair nothing is cleared
pub cleared_none : (p : Pair) (cs : List (List ℕ)) → is_in p (pairs_in cs) ≡ false → map (cleared p) cs ≡ cs
unfolding pairs_in is_in
cleared_none p [] e = refl
cleared_none p (c ∷ cs) e = go (pair_at c) refl e (cleared_none p cs)
  where
    or_none : (a b : Bool) → (a || b) ≡ false → (a ≡ false) × (b ≡ false)
    or_none true b e = never (cc)
    or_none false b e = (refl, e)

    go : (o : Option Pair) → pair_at c ≡ o → is_in p (with_pair o (pairs_in cs)) ≡ false → (is_in p (pairs_in cs) ≡ false → map (cleared p) cs ≡ cs)
        → cleared p c ∷ map (cleared p) cs ≡ c ∷ cs
    go none f e r = rw (cleared_stays p c (holds_none p c f), r e)
    go (some q) f e r =
        let (a, b) = or_none (same_pair p q) (is_in p (pairs_in cs)) e in
        rw (cleared_stays p c (holds_some p c q f ∙ a), r b)
