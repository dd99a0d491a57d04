-- The lengths of the long names as the code holds them, by one test computed over the numbers that are listed.
use mathlib.Core.Path.{◌≡◌, refl}
use mathlib.Core.Bool.{Bool, true, false, ◌&&◌}
use mathlib.Core.List.{List, [], ◌∷◌}
use mathlib.Core.Option.{none}
use Prim.Native.Nat.{ℕ, zero, suc, ◌≤◌, ◌<◌}
use native.Mathlib.Omega.{arith}
use lib.Dec.{eqb, leb}
use lib.ListN.{length, get_or}
use borrow.Author.Tests.{eqb-true, eqb-false, leb-true, ne_eqb}
use Rattle.octets.specs.Classes.{among, text}
use Rattle.sip.specs.Profile.{rows, numbers, find, name_of}
use Rattle.sip.proofs.Tests.{and_left, and_right}
use Rattle.judgement.proofs.Members.{find_none}

-- ---- numbers that are not listed

low : List ℕ → Bool
low [] = true
low (n ∷ ns) = leb n 18 && low ns

among_past : (ns : List ℕ) (k : ℕ) → low ns ≡ true → 18 < k → among ns k ≡ false
unfolding low
among_past [] k e h = refl
among_past (n ∷ ns) k e h =
    let l : n ≤ 18 = leb-true n 18 (and_left (leb n 18) (low ns) e) in
    rw (ne_eqb k n (λ z. omega arith), among_past ns k (and_right (leb n 18) (low ns) e) h)

pub name_none : (n : ℕ) → 18 < n → name_of n ≡ []
unfolding name_of numbers low rows
name_none n h = let e : find rows n ≡ none = find_none rows n (among_past numbers n refl h) in rw (name_of, e)

-- ---- numbers that are listed

all_to : (ℕ → Bool) → ℕ → Bool
all_to p zero = p zero
all_to p (suc k) = p (suc k) && all_to p k

-- a test that is computed holds at each of them
all_to_lem : (p : ℕ → Bool) (k : ℕ) → all_to p k ≡ true → (n : ℕ) → n ≤ k → p n ≡ true
unfolding all_to
all_to_lem p zero e n h = let z : n ≡ 0 = omega arith in rw z e
all_to_lem p (suc k) e n h = go (eqb n (suc k)) refl (all_to_lem p k (and_right (p (suc k)) (all_to p k) e) n)
  where
    go : (t : Bool) → eqb n (suc k) ≡ t → (n ≤ k → p n ≡ true) → p n ≡ true
    go true q f = rw (eqb-true n (suc k) q) (and_left (p (suc k)) (all_to p k) e)
    go false q f = let d : n ≡ suc k → ⊥ = eqb-false n (suc k) q in f (omega (arith, d))

abbrev pub lengths : List ℕ
lengths = 0 ∷ 3 ∷ 12 ∷ 4 ∷ 2 ∷ 7 ∷ 4 ∷ 7 ∷ 14 ∷ 12 ∷ 5 ∷ 6 ∷ 5 ∷ 9 ∷ 7 ∷ 19 ∷ 7 ∷ 6 ∷ 12 ∷ []

is_length : ℕ → Bool
is_length n = eqb (get_or lengths n 0) (length (name_of n)) && leb (get_or lengths n 0) 19

length_holds : (n : ℕ) → n ≤ 18 → is_length n ≡ true
unfolding is_length all_to name_of find rows text
length_holds n h = all_to_lem is_length 18 refl n h

module _ (n : ℕ) (h : n ≤ 18) where
  pub length_is : get_or lengths n 0 ≡ length (name_of n)
  unfolding is_length
  length_is = eqb-true (get_or lengths n 0) (length (name_of n)) (and_left _ (leb (get_or lengths n 0) 19) (length_holds n h))

  pub length_le : get_or lengths n 0 ≤ 19
  unfolding is_length
  length_le = leb-true (get_or lengths n 0) 19 (and_right (eqb (get_or lengths n 0) (length (name_of n))) _ (length_holds n h))
