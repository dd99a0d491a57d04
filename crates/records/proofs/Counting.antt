-- How many of a history are so: of one more, of two cases, of three groups.
use mathlib.Core.Path.{◌≡◌, refl, ◌∙◌}
use mathlib.Core.Bool.{Bool, true, false, not, cond, ◌&&◌}
use mathlib.Core.List.{List, [], ◌∷◌, ◌++◌}
use Prim.Native.Nat.{ℕ, zero, suc, ◌+◌, ◌≤◌, ◌<◌}
use native.Mathlib.Omega.{arith}
use lib.Dec.{eqb}
use lib.ListN.{length}
use Rattle.octets.specs.Classes.{bit}
use Rattle.records.specs.History.{Outcome}
use Rattle.records.specs.Report.{how_many, in_group, in_group_for, is_refused, came}
use Rattle.records.specs.Promises.{AcceptedRefused}

pub many_next : (p : Outcome → Bool) (x : Outcome) (h : List Outcome) → how_many p (x ∷ h) ≡ bit (p x) + how_many p h
unfolding how_many
many_next p x h = go (p x)
  where
    go : (t : Bool) → cond t (suc (how_many p h)) (how_many p h) ≡ bit t + how_many p h
    go true = omega arith
    go false = omega arith

pub many_last : (p : Outcome → Bool) (h : List Outcome) (x : Outcome) → how_many p (h ++ x ∷ []) ≡ how_many p h + bit (p x)
many_last p [] x = many_next p x [] ∙ omega arith
many_last p (y ∷ h) x = omega (arith, many_next p y (h ++ x ∷ []), many_next p y h, many_last p h x)

bit_le : (t : Bool) → bit t ≤ 1
bit_le true = omega arith
bit_le false = omega arith

pub many_le : (p : Outcome → Bool) (h : List Outcome) → how_many p h ≤ length h
unfolding how_many
many_le p [] = omega arith
many_le p (x ∷ h) = omega (arith, many_next p x h, many_le p h, bit_le (p x))

pub accepted_refused : AcceptedRefused
unfolding how_many
accepted_refused g [] = omega arith
accepted_refused g (x ∷ h) =
    omega (
      arith,
      many_next (in_group_for g 0) x h,
      many_next (is_refused g) x h,
      many_next (in_group g) x h,
      accepted_refused g h,
      each (eqb x.group g) (eqb x.reason 0),
    )
  where
    each : (t u : Bool) → bit (t && u) + bit (t && not u) ≡ bit t
    each true true = refl
    each true false = refl
    each false u = refl

-- ---- the groups and reasons of a history

pub data Listed : List Outcome → Type 0 where
  none_seen : Listed []
  one_seen : {x : Outcome} {h : List Outcome} → x.group < 3 → x.reason < 20 → Listed h → Listed (x ∷ h)

-- every message stands in one group
pub three_groups : {h : List Outcome} → Listed h → came 0 h + (came 1 h + came 2 h) ≡ length h
unfolding how_many
three_groups none_seen = omega arith
three_groups (one_seen {x = x} {h = h} l r s) =
    omega
    (arith, many_next (in_group 0) x h, many_next (in_group 1) x h, many_next (in_group 2) x h, three_groups s, one x.group l)
  where
    one : (g : ℕ) → g < 3 → bit (eqb g 0) + (bit (eqb g 1) + bit (eqb g 2)) ≡ 1
    one zero h = refl
    one (suc zero) h = refl
    one (suc (suc zero)) h = refl
    one (suc (suc (suc g))) h = absurd (omega arith)
