-- By the tests in their order.
use mathlib.Core.Path.{◌≡◌}
use mathlib.Core.Bool.{true}
use Prim.Native.Nat.{ℕ}
use lib.Dec.{eqb}
use borrow.Author.Tests.{ne_eqb}
use Rattle.octets.specs.Classes.{is_gap}
use Rattle.octets.proofs.is_gap.Goals as goal

module _ (b : ℕ) where
  space : b ≡ 32 → true ≡ is_gap b
  unfolding is_gap
  space e = rw e

  module _ (n : b ≡ 32 → ⊥) where
    tab : b ≡ 9 → true ≡ is_gap b
    unfolding is_gap
    tab e = rw e

    module _ (m : b ≡ 9 → ⊥) where
      cr : b ≡ 13 → true ≡ is_gap b
      unfolding is_gap
      cr e = rw e

      lf : (b ≡ 13 → ⊥) → eqb b 10 ≡ is_gap b
      unfolding is_gap
      lf k = rw (ne_eqb b 32 n, ne_eqb b 9 m, ne_eqb b 13 k)

pub returns-then-b-eq32 : goal.returns-then-b-eq32
returns-then-b-eq32 c = search space

pub returns-then-b-eq9 : goal.returns-then-b-eq9
returns-then-b-eq9 c = search tab

pub returns-then-b-eq13 : goal.returns-then-b-eq13
returns-then-b-eq13 c = search cr

pub returns : goal.returns
returns c = search lf
