-- Where no field repeats that must not, each such number stands at most once among the kept fields.
use mathlib.Core.Path.{◌≡◌, refl}
use mathlib.Core.Bool.{Bool, true, false, cond, ◌&&◌}
use mathlib.Core.List.{List, [], ◌∷◌}
use Prim.Native.Nat.{ℕ, ◌+◌, ◌≤◌}
use native.Mathlib.Omega.{arith}
use lib.Dec.{eqb}
use borrow.Author.Tests.{eqb-true}
use Rattle.octets.specs.Classes.{bit, among}
use Rattle.sip.specs.Profile.{once, find, rows}
use Rattle.sip.specs.Refusals.{Entry, first_repeat}
use Rattle.sip.proofs.Tests.{never, eqb_turned}
use Rattle.sip.proofs.NameLengths.{one}

-- how often the number n stands among the entries
unfoldable pub times : ℕ → List Entry → ℕ
times n [] = 0
times n (e ∷ es) = one n e.number + times n es

once_zero : once 0 ≡ false
unfolding once find rows
once_zero = refl

-- no number before e repeats, so neither does e
step : (earlier : List ℕ) (e : Entry) (es : List Entry) → first_repeat earlier (e ∷ es) ≡ 0
    → ((once e.number && among earlier e.number) ≡ false) × (first_repeat (e.number ∷ earlier) es ≡ 0)
unfolding first_repeat
step earlier e es h = go (once e.number) (among earlier e.number) refl h
  where
    go : (t u : Bool) → once e.number ≡ t → cond (t && u) e.number (first_repeat (e.number ∷ earlier) es) ≡ 0
        → ((t && u) ≡ false) × (first_repeat (e.number ∷ earlier) es ≡ 0)
    go true true p q = let z : once 0 ≡ true = rw q at p in never (cc once_zero)
    go true false p q = (refl, q)
    go false u p q = (refl, q)

module _ (n : ℕ) (alone : once n ≡ true) where
  counted : (earlier : List ℕ) (es : List Entry) → first_repeat earlier es ≡ 0 → times n es + bit (among earlier n) ≤ 1
  unfolding times
  counted earlier [] h = bit_le (among earlier n)
    where
      bit_le : (t : Bool) → 0 + bit t ≤ 1
      bit_le true = omega arith
      bit_le false = omega arith
  counted earlier (e ∷ es) h =
      let (new, later) = step earlier e es h in
      go (eqb n e.number) refl new (counted (e.number ∷ earlier) es later)
    where
      go : (t : Bool) → eqb n e.number ≡ t → (once e.number && among earlier e.number) ≡ false
          → times n es + bit (among (e.number ∷ earlier) n) ≤ 1 → one n e.number + times n es + bit (among earlier n) ≤ 1
      go true p q l =
          let f : among earlier n ≡ false = rw (← eqb-true n e.number p, alone) at q in
          let k : times n es + 1 ≤ 1 = rw p at l in
          rw (eqb_turned e.number n, p, f) (omega arith)
      go false p q l = let k : times n es + bit (among earlier n) ≤ 1 = rw p at l in rw (eqb_turned e.number n, p) (omega arith)

  pub at_most_once : (es : List Entry) → first_repeat [] es ≡ 0 → times n es ≤ 1
  at_most_once es h = omega (arith, counted [] es h)
