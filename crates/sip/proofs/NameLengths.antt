-- A long name is at most 8 bytes longer than the name that it is written for, Content-Length's 13 and Content-Type's 11.
use mathlib.Core.Path.{◌≡◌, refl}
use mathlib.Core.Bool.{Bool, true, false, cond, ◌&&◌, ◌||◌}
use mathlib.Core.List.{List, [], ◌∷◌}
use mathlib.Core.Option.{Option, none, some}
use Prim.Native.Nat.{ℕ, ◌+◌, ◌*◌, ◌≤◌}
use native.Mathlib.Omega.{arith}
use lib.Dec.{leb, eqb}
use lib.ListN.{length}
use borrow.Author.Tests.{leb-true}
use Rattle.octets.specs.Classes.{text, bit}
use Rattle.octets.specs.Scans.{same_text}
use Rattle.octets.proofs.Texts.{same_text_length}
use Rattle.sip.specs.Profile.{Row, rows, is_compact, lookup, number_of, find, name_of}
use Rattle.sip.proofs.Tests.{never, and_left, and_right}

-- 1 where n is k
abbrev pub one : ℕ → ℕ → ℕ
one k n = bit (eqb n k)

abbrev pub longer : ℕ → ℕ
longer n = 8 + (5 * one 8 n + 3 * one 9 n)

-- ---- one computed test over the rows

near : ℕ → List ℕ → Bool
near n x = leb (length (name_of n)) (length x + longer n)

near_compact : ℕ → Option (List ℕ) → Bool
near_compact n none = true
near_compact n (some c) = near n c

all_are_near : List Row → Bool
all_are_near [] = true
all_are_near (r ∷ rs) = near r.number r.name && (near_compact r.number r.compact && all_are_near rs)

all_near : all_are_near rows ≡ true
unfolding all_are_near near near_compact rows name_of find text
all_near = refl

module _ (x : List ℕ) where
  Near : ℕ → Type 0
  Near n = length (name_of n) ≤ length x + longer n

  near_same : (n : ℕ) (y : List ℕ) → near n y ≡ true → same_text y x ≡ true → Near n
  unfolding Near near
  near_same n y e s = omega (arith, leb-true (length (name_of n)) (length y + longer n) e, same_text_length y x s)

  near_compact_lem : (n : ℕ) (c : Option (List ℕ)) → near_compact n c ≡ true → is_compact c x ≡ true → Near n
  unfolding near_compact
  near_compact_lem n none e s = never (cc)
  near_compact_lem n (some c) e s = near_same n c e s

  near_zero : Near 0
  unfolding Near name_of find rows
  near_zero = omega arith

  lookup_near : (rs : List Row) → all_are_near rs ≡ true → Near (lookup rs x)
  unfolding lookup all_are_near
  lookup_near [] h = near_zero
  lookup_near (r ∷ rs) h =
      go (same_text r.name x) (is_compact r.compact x) refl refl (lookup_near rs (and_right compact (all_are_near rs) (and_right long others h)))
    where
      long : Bool
      long = near r.number r.name

      compact : Bool
      compact = near_compact r.number r.compact

      others : Bool
      others = compact && all_are_near rs

      go : (t u : Bool) → same_text r.name x ≡ t → is_compact r.compact x ≡ u → Near (lookup rs x)
          → Near (cond (t || u) r.number (lookup rs x))
      go true u p q l = near_same r.number r.name (and_left long others h) p
      go false true p q l = near_compact_lem r.number r.compact (and_left compact (all_are_near rs) (and_right long others h)) q
      go false false p q l = l

  pub name_le : length (name_of (number_of x)) ≤ length x + longer (number_of x)
  unfolding number_of Near
  name_le = lookup_near rows all_near
