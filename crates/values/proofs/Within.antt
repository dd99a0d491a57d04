-- A number within bounds, or past one of them, by the tests of both.
use mathlib.Core.Path.{◌≡◌}
use mathlib.Core.Bool.{true, false, and-false}
use Prim.Native.Nat.{ℕ, ◌≤◌, ◌<◌}
use lib.Dec.{eqb}
use native.Mathlib.Omega.{arith}
use borrow.Author.Tests.{le-leb, lt-leb, ne_eqb, eq-eqb}
use Rattle.octets.specs.Classes.{within}

module _ (lo hi n : ℕ) where
  pub within_in : lo ≤ n → n ≤ hi → within lo hi n ≡ true
  within_in a b = simp (le-leb lo n a, le-leb n hi b)

  pub within_low : n < lo → within lo hi n ≡ false
  within_low a = simp (lt-leb lo n a)

  pub within_high : hi < n → within lo hi n ≡ false
  within_high a = simp (lt-leb n hi a, and-false)

-- a size that is 0, and one that is not
pub is_zero : (n : ℕ) → n < 1 → eqb n 0 ≡ true
is_zero n h = eq-eqb n 0 (omega arith)

pub not_zero : (n : ℕ) → 1 ≤ n → eqb n 0 ≡ false
not_zero n h = ne_eqb n 0 (λ z. omega arith)
