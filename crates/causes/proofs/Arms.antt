-- What a `match` on a number shows: it tests the keys of its arms first, and cuts what is left into ranges. One lemma for each, over tests that antt computes.
use mathlib.Core.Path.{◌≡◌, ◌∙◌, sym, ap, subst}
use mathlib.Core.Bool.{Bool, true, false, ◌&&◌, ◌||◌}
use mathlib.Core.List.{List, [], ◌∷◌}
use mathlib.Core.Logic.{inl, inr}
use Prim.Native.Nat.{ℕ, zero, suc, ◌+◌, ◌-◌, ◌≤◌, ◌<◌}
use native.Mathlib.Nat.{eq-or-lt_of_le}
use native.Mathlib.Omega.{arith}
use lib.Dec.{T, eqb, eqb→eq}
use mir.Facts.{and_yes, or_yes}
use mir.Val.{has_key}
use types.Run.{OneOf, hit}
use Rattle.causes.specs.Causes.{Entry, entry}
use Rattle.causes.specs.Answers.{above_zero}

-- the numbers of `from` to below `below`, and what those that are no key give
pub record Range : Type 0 where
  pub from : ℕ
  pub below : ℕ
  pub gives : ℕ

abbrev pub range : ℕ → ℕ → ℕ → Range
range a e r = record { from = a; below = e; gives = r }

abbrev pub arm_at : List Entry → ℕ → Entry
arm_at [] i = entry [] 0
arm_at (a ∷ xs) zero = a
arm_at (a ∷ xs) (suc i) = arm_at xs i

abbrev pub range_at : List Range → ℕ → Range
range_at [] i = range 0 0 0
range_at (a ∷ xs) zero = a
range_at (a ∷ xs) (suc i) = range_at xs i

-- the number is none of the arms' keys
abbrev pub Missed : Type 0 → List Entry → ℕ → Type 0
Missed N [] s = N
Missed N (a ∷ xs) s = Missed (N × (OneOf a.keys s → ⊥)) xs s

abbrev pub is_key : List Entry → ℕ → Bool
is_key [] s = false
is_key (a ∷ xs) s = has_key a.keys s || is_key xs s

kept : (N : Type 0) (xs : List Entry) (s : ℕ) → Missed N xs s → N
kept N [] s m = m
kept N (a ∷ xs) s m = (kept (N × (OneOf a.keys s → ⊥)) xs s m).0

pub missed : (N : Type 0) (xs : List Entry) (s : ℕ) → T (is_key xs s) → Missed N xs s → ⊥
missed N [] s t m = t
missed N (a ∷ xs) s t m =
    elim (or_yes (has_key a.keys s) (is_key xs s) t) [
      | inl h ↦ (kept (N × (OneOf a.keys s → ⊥)) xs s m).1 (hit a.keys s h)
      | inr h ↦ missed (N × (OneOf a.keys s → ⊥)) xs s h m
    ]

abbrev pub keys_give : (ℕ → ℕ) → ℕ → List ℕ → Bool
keys_give f r [] = true
keys_give f r (k ∷ ks) = eqb r (f k) && keys_give f r ks

abbrev pub arms_give : (ℕ → ℕ) → List Entry → Bool
arms_give f [] = true
arms_give f (a ∷ xs) = keys_give f a.gives a.keys && arms_give f xs

abbrev pub rest_give : (ℕ → ℕ) → List Entry → ℕ → ℕ → ℕ → Bool
rest_give f xs r lo zero = true
rest_give f xs r lo (suc n) = (is_key xs lo || eqb r (f lo)) && rest_give f xs r (suc lo) n

abbrev pub ranges_give : (ℕ → ℕ) → List Entry → List Range → Bool
ranges_give f xs [] = true
ranges_give f xs (a ∷ rs) = rest_give f xs a.gives a.from (a.below - a.from) && ranges_give f xs rs

-- the arms and the ranges give what f gives
pub record Right (f : ℕ → ℕ) (arms : List Entry) (ranges : List Range) : Type 0 where
  pub keys : T (arms_give f arms)
  pub rest : T (ranges_give f arms ranges)

keyed : (f : ℕ → ℕ) (r : ℕ) (ks : List ℕ) (s : ℕ) → T (keys_give f r ks) → OneOf ks s → r ≡ f s
keyed f r [] s t e = absurd e
keyed f r (k ∷ []) s t e = eqb→eq r (f k) (and_yes (eqb r (f k)) true t).0 ∙ ap f (sym e)
keyed f r (k ∷ l ∷ ks) s t e =
    let both = and_yes (eqb r (f k)) (keys_give f r (l ∷ ks)) t in
    elim e [ inl q ↦ eqb→eq r (f k) both.0 ∙ ap f (sym q) | inr q ↦ keyed f r (l ∷ ks) s both.1 q ]

swept : (f : ℕ → ℕ) (xs : List Entry) (r lo n s : ℕ) → T (rest_give f xs r lo n) → lo ≤ s → s < lo + n → Missed (Unit {0}) xs s → r ≡ f s
swept f xs r lo zero s t a b m = absurd (omega arith)
swept f xs r lo (suc n) s t a b m =
    let both = and_yes (is_key xs lo || eqb r (f lo)) (rest_give f xs r (suc lo) n) t in
    elim (eq-or-lt_of_le a) [
      | inl e ↦ elim (or_yes (is_key xs s) (eqb r (f s)) (subst (λ (k : ℕ). T (is_key xs k || eqb r (f k))) e both.0))
          [ inl h ↦ absurd (missed (Unit {0}) xs s h m) | inr h ↦ eqb→eq r (f s) h ]
      | inr l ↦ swept f xs r (suc lo) n s both.1 l (omega arith) m
    ]

keys_right : (f : ℕ → ℕ) (xs : List Entry) (i s : ℕ) → T (arms_give f xs) → OneOf (arm_at xs i).keys s → (arm_at xs i).gives ≡ f s
keys_right f [] i s t e = absurd e
keys_right f (a ∷ xs) zero s t e = keyed f a.gives a.keys s (and_yes (keys_give f a.gives a.keys) (arms_give f xs) t).0 e
keys_right f (a ∷ xs) (suc i) s t e = keys_right f xs i s (and_yes (keys_give f a.gives a.keys) (arms_give f xs) t).1 e

rest_right : (f : ℕ → ℕ) (xs : List Entry) (rs : List Range) (i s : ℕ) → T (ranges_give f xs rs) → (range_at rs i).from ≤ s → s < (range_at rs i).below → Missed (Unit {0}) xs s → (range_at rs i).gives ≡ f s
rest_right f xs [] i s t a b m = absurd (omega arith)
rest_right f xs (r ∷ rs) zero s t a b m =
    swept f xs r.gives r.from (r.below - r.from) s (and_yes (rest_give f xs r.gives r.from (r.below - r.from)) (ranges_give f xs rs) t).0 a (omega arith) m
rest_right f xs (r ∷ rs) (suc i) s t a b m = rest_right f xs rs i s (and_yes (rest_give f xs r.gives r.from (r.below - r.from)) (ranges_give f xs rs) t).1 a b m

module _ {f : ℕ → ℕ} {arms : List Entry} {ranges : List Range} (right : Right f arms ranges) (i : ℕ) {s : ℕ} where
  pub at_key : OneOf (arm_at arms i).keys s → (arm_at arms i).gives ≡ f s
  at_key e = keys_right f arms i s right.keys e

  pub in_range : (range_at ranges i).from ≤ s → s < (range_at ranges i).below → Missed (Unit {0}) arms s → (range_at ranges i).gives ≡ f s
  in_range a b m = rest_right f arms ranges i s right.rest a b m

-- the same where 0 says that there is none
module _ {f : ℕ → ℕ} {arms : List Entry} {ranges : List Range} (right : Right f arms ranges) (i : ℕ) (s : ℕ) where
  pub above_at_key : OneOf (arm_at arms i).keys s → above_zero (arm_at arms i).gives ≡ above_zero (f s)
  above_at_key e = ap above_zero (at_key right i e)

  pub above_in_range : (range_at ranges i).from ≤ s → s < (range_at ranges i).below → Missed (Unit {0}) arms s → above_zero (range_at ranges i).gives ≡ above_zero (f s)
  above_in_range a b m = ap above_zero (in_range right i a b m)
