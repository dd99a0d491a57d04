-- Tables of counts: one more at a place, sums, and the rows of a history's counts.
use mathlib.Core.Path.{◌≡◌, refl, sym, ◌∙◌}
use mathlib.Core.Bool.{Bool, true, false, ◌&&◌}
use mathlib.Core.List.{List, [], ◌∷◌, ◌++◌}
use Prim.Native.Nat.{ℕ, zero, suc, ◌+◌, ◌-◌, ◌*◌, ◌≤◌, ◌<◌}
use native.Mathlib.Omega.{arith}
use lib.Dec.{eqb}
use lib.ListN.{length, take, drop, get_or, set}
use lib.Seq.{drop-cons}
use Rattle.octets.specs.Classes.{bit}
use borrow.Author.Tests.{eqb-true, eqb-false, eq-eqb, ne_eqb, lt-ltb}
use Rattle.records.specs.History.{Outcome}
use Rattle.records.specs.Report.{how_many, in_group, in_group_for, came, with_reason, table}
use Rattle.records.specs.Running.{place_of, is_at, counts_of, most_count, one_more, total, count_in, row_of}
use Rattle.records.proofs.Counting.{many_next, many_last, many_le, Listed, none_seen, one_seen}

-- ---- tables

pub table_same : (n i : ℕ) (f g : ℕ → ℕ) → ((k : ℕ) → i ≤ k → k < i + n → f k ≡ g k) → table n i f ≡ table n i g
unfolding table
table_same zero i f g e = refl
table_same (suc n) i f g e =
    rw (e i (omega arith) (omega arith), table_same n (suc i) f g (λ k l h. e k (omega arith) (omega arith)))

pub table_at : (n i : ℕ) (f : ℕ → ℕ) (k : ℕ) → k < n → get_or (table n i f) k 0 ≡ f (i + k)
unfolding table
table_at zero i f k h = absurd (omega arith)
table_at (suc n) i f zero h = let z : i + 0 ≡ i = omega arith in rw z
table_at (suc n) i f (suc k) h = let z : suc i + k ≡ i + suc k = omega arith in table_at n (suc i) f k (omega arith) ∙ rw z

-- two functions that differ in one place
table_set : (n i j v : ℕ) (f g : ℕ → ℕ) → g (i + j) ≡ v → ((k : ℕ) → (k ≡ i + j → ⊥) → g k ≡ f k) → set (table n i f) j v ≡ table n i g
unfolding table
table_set zero i j v f g e d = refl
table_set (suc n) i zero v f g e d =
    let z : i + 0 ≡ i = omega arith in
    let a : g i ≡ v = rw z at e in
    rw (a, table_same n (suc i) f g (λ k l h. sym (d k (λ q. omega (arith, q)))))
table_set (suc n) i (suc j) v f g e d =
    let z : i + suc j ≡ suc i + j = omega arith in
    rw (d i (λ q. omega (arith, q)), table_set n (suc i) j v f g (rw z at e) (λ k q. d k (λ p. q (p ∙ z))))

pub table_move : (n i j : ℕ) (f : ℕ → ℕ) → table n (i + j) f ≡ table n j (λ (k : ℕ). f (i + k))
unfolding table
table_move zero i j f = refl
table_move (suc n) i j f = let z : suc (i + j) ≡ i + suc j = omega arith in rw (z, table_move n i (suc j) f)

-- n numbers of a list from i on
table_part : (n i : ℕ) (cs : List ℕ) → i + n ≤ length cs → take n (drop i cs) ≡ table n i (count_in cs)
unfolding table
table_part zero i cs l = refl
table_part (suc n) i cs l = rw (drop-cons cs i 0 (omega arith), table_part n (suc i) cs (omega arith))

pub row_part : (first : ℕ) (cs : List ℕ) → first + 20 ≤ length cs → take (first + 20 - first) (drop first cs) ≡ row_of first cs
row_part first cs l = let z : first + 20 - first ≡ 20 = omega arith in rw z (table_part 20 first cs l)

-- ---- sums

sum_add : (n i : ℕ) (f g h : ℕ → ℕ) → ((k : ℕ) → h k ≡ f k + g k) → total (table n i h) ≡ total (table n i f) + total (table n i g)
unfolding table total
sum_add zero i f g h e = refl
sum_add (suc n) i f g h e = omega (arith, e i, sum_add n (suc i) f g h e)

sum_zero : (n i : ℕ) (f : ℕ → ℕ) → ((k : ℕ) → i ≤ k → f k ≡ 0) → total (table n i f) ≡ 0
unfolding table total
sum_zero zero i f e = refl
sum_zero (suc n) i f e = omega (arith, e i (omega arith), sum_zero n (suc i) f (λ k l. e k (omega arith)))

-- one of the numbers
sum_one : (n i r : ℕ) (t : Bool) → i ≤ r → r < i + n → total (table n i (λ (k : ℕ). bit (t && eqb r k))) ≡ bit t
unfolding table total
sum_one zero i r t l h = absurd (omega arith)
sum_one (suc n) i r t l h = go (eqb r i) refl (λ q. sum_one n (suc i) r t q (omega arith))
  where
    dead : (u : Bool) → bit (u && false) ≡ 0
    dead true = refl
    dead false = refl

    live : (u : Bool) → bit (u && true) ≡ bit u
    live true = refl
    live false = refl

    go : (u : Bool) → eqb r i ≡ u → (suc i ≤ r → total (table n (suc i) (λ (k : ℕ). bit (t && eqb r k))) ≡ bit t)
        → bit (t && eqb r i) + total (table n (suc i) (λ (k : ℕ). bit (t && eqb r k))) ≡ bit t
    go true e later =
        let z : r ≡ i = eqb-true r i e in
        let rest : total (table n (suc i) (λ (k : ℕ). bit (t && eqb r k))) ≡ 0
        = sum_zero n (suc i) (λ (k : ℕ). bit (t && eqb r k)) (λ k b. rw (ne_eqb r k (λ q. omega (arith, q))) (dead t)) in
        rw e (omega (arith, rest, live t))
    go false e later = rw e (omega (arith, later (omega (arith, eqb-false r i e)), dead t))

-- ---- the counts of a history

-- one more
pub counts_last : (h : List Outcome) (x : Outcome) → (length h < most_count) × (x.group < 3) × (x.reason < 20)
    → set (counts_of h) (place_of x) (one_more (get_or (counts_of h) (place_of x) 0)) ≡ counts_of (h ++ x ∷ [])
unfolding counts_of one_more
counts_last h x s =
    let i : ℕ = place_of x in
    let f : ℕ → ℕ = λ k. how_many (is_at k) h in
    let z : 0 + i ≡ i = omega arith in
    let a : get_or (table 60 0 f) i 0 ≡ how_many (is_at i) h = table_at 60 0 f i (omega arith) ∙ rw z in
    let b : how_many (is_at i) (h ++ x ∷ []) ≡ how_many (is_at i) h + 1 = many_last (is_at i) h x ∙ rw (eq-eqb i i refl) in
    rw (a, lt-ltb (how_many (is_at i) h) most_count (omega (arith, many_le (is_at i) h)))
    (table_set 60 0 i (how_many (is_at i) h + 1) f (λ (k : ℕ). how_many (is_at k) (h ++ x ∷ [])) (rw z b) (λ k q.
    many_last (is_at k) h x ∙ rw (ne_eqb i k (λ e. q (sym e ∙ sym z))) (omega arith)))

-- ---- the row of a group

same_place : (g r : ℕ) (x : Outcome) → x.reason < 20 → r < 20 → is_at (20 * g + r) x ≡ in_group_for g r x
same_place g r x l h = go (eqb x.group g) (eqb x.reason r) refl refl
  where
    go : (t u : Bool) → eqb x.group g ≡ t → eqb x.reason r ≡ u → is_at (20 * g + r) x ≡ in_group_for g r x
    go true true p q =
        rw (p, q) (eq-eqb (place_of x) (20 * g + r) (omega (arith, eqb-true x.group g p, eqb-true x.reason r q)))
    go true false p q =
        rw (p, q) (ne_eqb (place_of x) (20 * g + r) (λ e. eqb-false x.reason r q (omega (arith, eqb-true x.group g p, e))))
    go false u p q = rw p (ne_eqb (place_of x) (20 * g + r) (λ e. eqb-false x.group g p (omega (arith, e))))

pub at_reason : (g r : ℕ) → r < 20 → {h : List Outcome} → Listed h → how_many (is_at (20 * g + r)) h ≡ with_reason g h r
unfolding how_many
at_reason g r l none_seen = refl
at_reason g r l (one_seen {x = x} {h = h} a b s) =
    rw (many_next (is_at (20 * g + r)) x h, many_next (in_group_for g r) x h, same_place g r x b l, at_reason g r l s)

-- what came is the sum of its counts
pub row_total : (g : ℕ) {h : List Outcome} → Listed h → total (table 20 0 (with_reason g h)) ≡ came g h
unfolding how_many
row_total g none_seen = sum_zero 20 0 (with_reason g []) (λ k l. refl)
row_total g (one_seen {x = x} {h = h} a b s) =
    omega (
      arith,
      sum_add 20 0 (λ (k : ℕ). bit (in_group_for g k x)) (with_reason g h) (with_reason g (x ∷ h)) (λ k. many_next (in_group_for g k) x h),
      row_total g s,
      sum_one 20 0 x.reason (eqb x.group g) (omega arith) (omega arith),
      many_next (in_group g) x h,
    )
