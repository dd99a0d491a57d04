-- The mask of P-Asserted-Identity is taken out of the mask of the set (Masks of judgement).
use mathlib.Core.Path.{◌≡◌, refl, sym, ap, ◌∙◌}
use mathlib.Core.Bool.{Bool, true, false, ◌&&◌, ◌||◌}
use Prim.Native.Nat.{ℕ, ◌+◌, ◌-◌, ◌^◌, ◌<◌}
use native.Mathlib.Omega.{arith}
use lib.Bits.{bit_and}
use lib.Dec.{eqb}
use borrow.Author.Tests.{eq-eqb, ne_eqb, eqb-true, eqb-false}
use Rattle.judgement.specs.Sets.{has}
use Rattle.judgement.proofs.Masks.{has_none, has_plus, has_without}
use Rattle.gateway.specs.Sent.{Goes}
use Rattle.gateway.proofs.output.sent_set.Goals as goal

-- the set of one number has no other
one_has : (k n : ℕ) → has (2 ^ k) n ≡ eqb n k
one_has k n = ap (λ (x : ℕ). has x n) (sym alone) ∙ has_plus 0 k n (has_none k) ∙ rw (has_none n) (go (eqb n k) refl)
  where
    alone : 2 ^ k + 0 ≡ 2 ^ k
    alone = omega arith

    go : (b : Bool) → eqb n k ≡ b → (eqb k n || false) ≡ eqb n k
    go true q = rw (q, eq-eqb k n (sym (eqb-true n k q)))
    go false q = rw (q, ne_eqb k n (λ z. eqb-false n k q (sym z)))

module _ (kept : ℕ) where
  taken : (masked : Bool) → masked ≡ true → kept < 2 ^ 32 → Goes masked kept (bit_and kept (2 ^ 32 - 1 - 2 ^ 15))
  taken masked q h = record { member = λ n. has_without 32 kept (2 ^ 15) n h (omega arith) ∙ rw (one_has 15 n, q) }

  left : (masked : Bool) → masked ≡ false → Goes masked kept kept
  left masked q = record { member = λ n. rw q (all (has kept n)) }
    where
      all : (b : Bool) → b ≡ (b && true)
      all true = refl
      all false = refl

pub returns-then-masked : goal.returns-then-masked
returns-then-masked c = search taken

pub returns : goal.returns
returns c = search left
