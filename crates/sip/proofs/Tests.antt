-- What a test says of its parts, and what follows where facts cannot stand together.
use mathlib.Core.Path.{◌≡◌, refl, sym, ap}
use mathlib.Core.Bool.{Bool, true, false, cond, ◌&&◌}
use mathlib.Core.List.{List, [], ◌∷◌}
use Prim.Native.Nat.{ℕ, ◌≤◌}
use native.Mathlib.Omega.{arith}
use lib.Dec.{leb, eqb}
use lib.ListN.{drop}
use borrow.Author.Tests.{eqb-true, eqb-false, leb-true, le-leb}
use Rattle.octets.specs.Classes.{within}
use Rattle.octets.specs.Scans.{all, starts}

-- use: `never (cc)`
pub never : {A : Type 0} → ◌≡◌ {A = ℕ} 0 1 → A
never e = absurd (omega arith)

pub and_left : (a b : Bool) → (a && b) ≡ true → a ≡ true
and_left true b e = refl
and_left false b e = e

pub and_right : (a b : Bool) → (a && b) ≡ true → b ≡ true
and_right true b e = e
and_right false b e = never (cc)

-- a test whose answer is the same either way
pub cond_same : {A : Type 0} (t : Bool) (x : A) → cond t x x ≡ x
cond_same true x = refl
cond_same false x = refl

-- the order of two numbers is free where they are compared
pub eqb_turned : (a b : ℕ) → eqb a b ≡ eqb b a
eqb_turned a b = go (eqb a b) (eqb b a) refl refl
  where
    go : (t u : Bool) → eqb a b ≡ t → eqb b a ≡ u → t ≡ u
    go true true e f = refl
    go true false e f = absurd (eqb-false b a f (sym (eqb-true a b e)))
    go false true e f = absurd (eqb-false a b e (sym (eqb-true b a f)))
    go false false e f = refl

-- a number is in a range
pub range_low : (lo hi n : ℕ) → within lo hi n ≡ true → lo ≤ n
range_low lo hi n e = leb-true lo n (and_left (leb lo n) (leb n hi) e)

pub range_high : (lo hi n : ℕ) → within lo hi n ≡ true → n ≤ hi
range_high lo hi n e = leb-true n hi (and_right (leb lo n) (leb n hi) e)

pub in_range : (lo hi n : ℕ) → lo ≤ n → n ≤ hi → within lo hi n ≡ true
in_range lo hi n l h = rw (le-leb lo n l, le-leb n hi h)

-- the byte that stands at the front
pub byte_start : (b : ℕ) (s : List ℕ) → starts b s ≡ true → s ≡ b ∷ drop 1 s
unfolding starts
byte_start b [] e = never (cc)
byte_start b (c ∷ s) e = ap (λ (x : ℕ). x ∷ s) (eqb-true c b e)

-- every byte is of the class: the first, and the others
pub all_first : (p : ℕ → Bool) (b : ℕ) (s : List ℕ) → all p (b ∷ s) ≡ true → p b ≡ true
unfolding all
all_first p b s e = and_left (p b) (all p s) e

pub all_others : (p : ℕ → Bool) (b : ℕ) (s : List ℕ) → all p (b ∷ s) ≡ true → all p s ≡ true
unfolding all
all_others p b s e = and_right (p b) (all p s) e
