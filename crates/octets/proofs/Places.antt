-- What is left from a place on begins with the bytes at that place: `drop-cons` of the library, at the code's `i + 1`. A slice to the end is all of it.
use mathlib.Core.Path.{◌≡◌, refl, sym, ◌∙◌}
use mathlib.Core.Bool.{Bool, true, false}
use mathlib.Core.List.{List, ◌∷◌}
use Prim.Native.Nat.{ℕ, ◌+◌, ◌-◌, min, ◌≤◌, ◌<◌}
use lib.Dec.{leb}
use borrow.Author.Tests.{leb-true, leb-false}
use native.Mathlib.Omega.{arith}
use native.Mathlib.Numerals.{add-one}
use lib.ListN.{length, take, drop, get_or, length-drop, drop_of_length-le}
use lib.Seq.{drop-cons, take_all}

pub drop1 : (s : List ℕ) (i : ℕ) → i < length s → drop i s ≡ get_or s i 0 ∷ drop (i + 1) s
drop1 s i h = rw (add-one, drop-cons s i 0)

pub drop2 : (s : List ℕ) (i : ℕ) → i + 1 < length s → drop i s ≡ get_or s i 0 ∷ get_or s (i + 1) 0 ∷ drop (i + 2) s
drop2 s i h =
    let k : i + 1 + 1 ≡ i + 2 = omega arith in
    let a : i < length s = omega arith in
    rw (drop1 s i a, drop1 s (i + 1) h, k)

pub drop3 : (s : List ℕ) (i : ℕ) → i + 2 < length s → drop i s ≡ get_or s i 0 ∷ get_or s (i + 1) 0 ∷ get_or s (i + 2) 0 ∷ drop (i + 3) s
drop3 s i h =
    let k : i + 2 + 1 ≡ i + 3 = omega arith in
    let a : i + 1 < length s = omega arith in
    rw (drop2 s i a, drop1 s (i + 2) h, k)

pub drop_slice : (s : List ℕ) (i : ℕ) → take (length s - i) (drop i s) ≡ drop i s
drop_slice s i = take_all (length s - i) (drop i s) (simp length-drop (omega arith))

-- a place past the end is the end
module _ (s : List ℕ) (n : ℕ) {m : ℕ} (e : m ≡ min n (length s)) where
  pub drop_min : drop m s ≡ drop n s
  drop_min = go (leb n (length s)) refl
    where
      go : (t : Bool) → leb n (length s) ≡ t → drop m s ≡ drop n s
      go true h = let k : m ≡ n = omega (arith, leb-true n (length s) h) in rw k
      go false h =
          let l : length s < n = leb-false n (length s) h in
          let a : length s ≤ m = omega arith in
          let b : length s ≤ n = omega arith in
          rw (drop_of_length-le s a, drop_of_length-le s b)

  pub take_min : take m s ≡ take n s
  take_min = go (leb n (length s)) refl
    where
      go : (t : Bool) → leb n (length s) ≡ t → take m s ≡ take n s
      go true h = let k : m ≡ n = omega (arith, leb-true n (length s) h) in rw k
      go false h =
          let l : length s < n = leb-false n (length s) h in
          take_all m s (omega arith) ∙ sym (take_all n s (omega arith))
