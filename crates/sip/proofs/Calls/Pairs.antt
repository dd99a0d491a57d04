-- Pairs as members of lists: comparison is equality, `distinct` keeps the members, and lists without repeats with the same members are equally long.
use mathlib.Core.Path.{◌≡◌, refl, sym, ap, ◌∙◌}
use mathlib.Core.Bool.{Bool, true, false, not, cond, ◌&&◌, ◌||◌, or-false, or_assoc, or-true, and-true, and-false}
use mathlib.Core.List.{List, [], ◌∷◌, ◌++◌}
use Prim.Native.Nat.{ℕ, suc, ◌≤◌}
use native.Mathlib.Omega.{arith}
use lib.ListN.{length}
use Rattle.octets.specs.Scans.{same}
use Rattle.sip.proofs.Tests.{never, and_left, and_right}
use Rattle.sip.proofs.Texts.{same_eq, same_refl}
use Rattle.sip.specs.Calls.{Pair, same_pair, is_in, distinct, places, pairs_in, held, is_held}
use Rattle.sip.specs.CallPromises.{is_distinct}

-- ---- comparison

pub made : {a b c d : List ℕ} → a ≡ c → b ≡ d → ◌≡◌ {A = Pair} (record { call_id = a; tag = b }) (record { call_id = c; tag = d })
made x y = rw (x, y)

pub pair_is : (p q : Pair) → same_pair p q ≡ true → p ≡ q
unfolding same_pair
pair_is p q e =
    let a : p.call_id ≡ q.call_id = same_eq p.call_id q.call_id (and_left (same p.call_id q.call_id) (same p.tag q.tag) e) in
    let b : p.tag ≡ q.tag = same_eq p.tag q.tag (and_right (same p.call_id q.call_id) (same p.tag q.tag) e) in
    made a b

pub pair_self : (p : Pair) → same_pair p p ≡ true
unfolding same_pair
pair_self p = rw (same_refl p.call_id, same_refl p.tag)

pub pair_sym : (p q : Pair) → same_pair p q ≡ same_pair q p
pair_sym p q = go (same_pair p q) (same_pair q p) refl refl
  where
    go : (a b : Bool) → same_pair p q ≡ a → same_pair q p ≡ b → a ≡ b
    go true true x y = refl
    go false false x y = refl
    go true false x y = let z = pair_is p q x in let w : same_pair p q ≡ false = rw z (rw z at y) in never (cc)
    go false true x y = let z = pair_is q p y in let w : same_pair p q ≡ true = rw z (pair_self p) in never (cc)

-- ---- members

pub in_append : (p : Pair) (qs rs : List Pair) → is_in p (qs ++ rs) ≡ (is_in p qs || is_in p rs)
unfolding is_in
in_append p [] rs = refl
in_append p (q ∷ qs) rs = rw (in_append p qs rs) (sym (or_assoc (same_pair p q) (is_in p qs) (is_in p rs)))

pub in_snoc : (p : Pair) (qs : List Pair) (q : Pair) → is_in p (qs ++ (q ∷ [])) ≡ (is_in p qs || same_pair p q)
unfolding is_in
in_snoc p qs q = in_append p qs (q ∷ []) ∙ rw (or-false (same_pair p q))

-- what equals a member is one
pub in_same : (p q : Pair) (qs : List Pair) → same_pair p q ≡ true → is_in p qs ≡ is_in q qs
in_same p q qs e = rw (pair_is p q e)

-- ---- each once

pub distinct_in : (p : Pair) (before ps : List Pair) → is_in p (distinct before ps) ≡ (is_in p ps && not (is_in p before))
unfolding is_in distinct
distinct_in p before [] = refl
distinct_in p before (q ∷ qs) =
    go (is_in q before) (same_pair p q) refl refl (distinct_in p before qs) (distinct_in p (before ++ (q ∷ [])) qs)
  where
    go : (a b : Bool) → is_in q before ≡ a → same_pair p q ≡ b
        → is_in p (distinct before qs) ≡ (is_in p qs && not (is_in p before))
        → is_in p (distinct (before ++ (q ∷ [])) qs) ≡ (is_in p qs && not (is_in p (before ++ (q ∷ []))))
        → is_in p (cond a (distinct before qs) (q ∷ distinct (before ++ (q ∷ [])) qs)) ≡ ((b || is_in p qs) && not (is_in p before))
    go true true x y i j = let z : is_in p before ≡ true = in_same p q before y ∙ x in rw (z, i, z) (and-false (is_in p qs))
    go true false x y i j = i
    go false true x y i j = let z : is_in p before ≡ false = in_same p q before y ∙ x in rw (y, z)
    go false false x y i j = rw (y, j, in_snoc p before q, y, or-false (is_in p before))

pub distinct_once : (before ps : List Pair) → is_distinct (distinct before ps) ≡ true
unfolding is_distinct distinct is_in
distinct_once before [] = refl
distinct_once before (p ∷ ps) = go (is_in p before) refl (distinct_once before ps) (distinct_once (before ++ (p ∷ [])) ps)
  where
    go : (a : Bool) → is_in p before ≡ a → is_distinct (distinct before ps) ≡ true → is_distinct (distinct (before ++ (p ∷ [])) ps) ≡ true
        → is_distinct (cond a (distinct before ps) (p ∷ distinct (before ++ (p ∷ [])) ps)) ≡ true
    go true x i j = i
    go false x i j =
        rw (distinct_in p (before ++ (p ∷ [])) ps, in_snoc p before p, pair_self p, or-true (is_in p before), and-false (is_in p ps), j)

-- ---- equally long

-- the list with one member less
unfoldable pub less : Pair → List Pair → List Pair
less p [] = []
less p (q ∷ qs) = let others = q ∷ less p qs in cond (same_pair p q) qs others

less_length : (p : Pair) (qs : List Pair) → is_in p qs ≡ true → length qs ≡ suc (length (less p qs))
unfolding is_in less
less_length p [] e = never (cc)
less_length p (q ∷ qs) e = go (same_pair p q) refl e (less_length p qs)
  where
    go : (a : Bool) → same_pair p q ≡ a → (a || is_in p qs) ≡ true → (is_in p qs ≡ true → length qs ≡ suc (length (less p qs)))
        → suc (length qs) ≡ suc (length (cond a qs (q ∷ less p qs)))
    go true x y r = refl
    go false x y r = ap suc (r y)

less_in : (p q : Pair) (qs : List Pair) → same_pair q p ≡ false → is_in q (less p qs) ≡ is_in q qs
unfolding is_in less
less_in p q [] e = refl
less_in p q (r ∷ rs) e = go (same_pair p r) refl (less_in p q rs e)
  where
    go : (a : Bool) → same_pair p r ≡ a → is_in q (less p rs) ≡ is_in q rs → is_in q (cond a rs (r ∷ less p rs)) ≡ (same_pair q r || is_in q rs)
    go true x i = let z : same_pair q r ≡ false = rw (pair_is p r x) at e in rw z
    go false x i = rw i

abbrev Within : List Pair → List Pair → Type 0
Within ps qs = (r : Pair) → is_in r ps ≡ true → is_in r qs ≡ true

shorter : (ps qs : List Pair) → is_distinct ps ≡ true → Within ps qs → length ps ≤ length qs
unfolding is_in is_distinct
shorter [] qs d w = omega arith
shorter (p ∷ ps) qs d w =
    let a : not (is_in p ps) ≡ true = and_left (not (is_in p ps)) (is_distinct ps) d in
    let b : is_distinct ps ≡ true = and_right (not (is_in p ps)) (is_distinct ps) d in
    let i : is_in p qs ≡ true = w p (rw (pair_self p)) in
    let l = less_length p qs i in
    let s = shorter ps (less p qs) b (λ r h. go r h a (same_pair r p) refl) in
    omega arith
  where
    go : (r : Pair) → is_in r ps ≡ true → not (is_in p ps) ≡ true → (t : Bool) → same_pair r p ≡ t → is_in r (less p qs) ≡ true
    go r h a true x = let z : is_in p ps ≡ true = sym (in_same r p ps x) ∙ h in let y : not true ≡ true = rw z at a in never (cc)
    go r h a false x = less_in p r qs x ∙ w r (rw h (or-true (same_pair r p)))

-- lists without repeats that have the same members are equally long
pub equally_long : (ps qs : List Pair) → is_distinct ps ≡ true → is_distinct qs ≡ true → ((r : Pair) → is_in r ps ≡ is_in r qs) → length ps ≡ length qs
equally_long ps qs a b e =
    let l = shorter ps qs a (λ r h. sym (e r) ∙ h) in
    let k = shorter qs ps b (λ r h. e r ∙ h) in
    omega arith

-- ---- held

pub held_in : (p : Pair) (t : List ℕ) → is_held p t ≡ is_in p (pairs_in (places 32 t))
unfolding is_held held is_in
held_in p t = distinct_in p [] (pairs_in (places 32 t)) ∙ and-true (is_in p (pairs_in (places 32 t)))

pub held_once : (t : List ℕ) → is_distinct (held t) ≡ true
unfolding held
held_once t = distinct_once [] (pairs_in (places 32 t))
