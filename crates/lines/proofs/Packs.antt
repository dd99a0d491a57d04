-- Laws of the numbers of slots: by induction on the slots, four numbers at a time.
use mathlib.Core.Path.{◌≡◌, refl, sym, ap, ◌∙◌}
use mathlib.Core.Bool.{Bool, true, false, not}
use mathlib.Core.List.{List, [], ◌∷◌, ◌++◌, append_assoc}
use Prim.Native.Nat.{ℕ, zero, suc, ◌+◌, ◌*◌, ◌-◌, ◌≤◌, ◌<◌}
use native.Mathlib.Omega.{arith}
use lib.Dec.{eqb, ltb}
use borrow.Author.Tests.{lt-ltb, le-ltb}
use lib.ListN.{length, take, drop, get_or, length-append}
use lib.Seq.{take-suc, take-length, take_at, drop_at, drop-drop, sets-eq}
use Rattle.octets.specs.Classes.{bit}
use Rattle.lines.specs.Index.{packed, zeros, padded, no_slot, slot_at}
use Rattle.lines.specs.Passes.{stored, first_slots}
use Rattle.lines.specs.declared.Slot.{Slot}

packed_append : (xs ys : List Slot) → packed (xs ++ ys) ≡ packed xs ++ packed ys
unfolding packed
packed_append [] ys = refl
packed_append (x ∷ xs) ys = rw (packed_append xs ys)

packed_length : (ss : List Slot) → length (packed ss) ≡ 4 * length ss
unfolding packed
packed_length [] = refl
packed_length (s ∷ ss) = omega (arith, packed_length ss)

drop_zeros : (n m : ℕ) → drop n (zeros m) ≡ zeros (m - n)
unfolding zeros
drop_zeros zero m = let z : m - 0 ≡ m = omega arith in rw z
drop_zeros (suc n) zero = let z : 0 - suc n ≡ 0 = omega arith in rw z
drop_zeros (suc n) (suc m) = let z : suc m - suc n ≡ m - n = omega arith in rw z (drop_zeros n m)

length_zeros : (n : ℕ) → length (zeros n) ≡ n
unfolding zeros
length_zeros zero = refl
length_zeros (suc n) = ap suc (length_zeros n)

-- ---- a slot is stored after others

module _ (ss : List Slot) (s : Slot) where
  abbrev four : List ℕ
  four = s.number ∷ s.start ∷ s.len ∷ bit s.folded ∷ []

  padded_more : padded (ss ++ s ∷ []) ≡ packed ss ++ (four ++ zeros (384 - 4 * length ss - 4))
  unfolding padded packed
  padded_more =
      let z : 384 - 4 * length (ss ++ s ∷ []) ≡ 384 - 4 * length ss - 4 = rw (length-append ss (s ∷ [])) (omega arith) in
      rw (z, packed_append ss (s ∷ []), append_assoc (packed ss))

  pub store_next : length ss < 96 → stored (padded ss) (length ss) s ≡ padded (ss ++ s ∷ [])
  unfolding padded
  store_next h =
      let l : length (packed ss) ≡ 4 * length ss = packed_length ss in
      let n : List ℕ = packed ss ++ zeros (384 - 4 * length ss) in
      let fits : 4 * length ss + 4 ≤ length n =
      rw (length-append (packed ss), length_zeros (384 - 4 * length ss), l) (omega arith) in
      let a : 4 * length ss + 1 ≡ suc (4 * length ss) = omega arith in
      let b : 4 * length ss + 2 ≡ suc (suc (4 * length ss)) = omega arith in
      let c : 4 * length ss + 3 ≡ suc (suc (suc (4 * length ss))) = omega arith in
      let t : take (4 * length ss) n ≡ packed ss = take_at (packed ss) _ (4 * length ss) l in
      let d : drop (4 * length ss + 4) n ≡ zeros (384 - 4 * length ss - 4) =
      sym (drop-drop 4 (4 * length ss) n) ∙ ap (drop 4) (drop_at (packed ss) _ (4 * length ss) l) ∙ drop_zeros 4 (384 - 4 * length ss) in
      rw (a, b, c, sets-eq four n (4 * length ss) fits, t, d, append_assoc (packed ss) four (zeros (384 - 4 * length ss - 4))) (sym padded_more)

-- ---- and is there again

bit_flag : (t : Bool) → not (eqb (bit t) 0) ≡ t
bit_flag true = refl
bit_flag false = refl

four_on : (a b c d : ℕ) (ns : List ℕ) (i j : ℕ) → get_or (a ∷ b ∷ c ∷ d ∷ ns) (4 * suc i + j) 0 ≡ get_or ns (4 * i + j) 0
four_on a b c d ns i j = let z : 4 * suc i + j ≡ suc (suc (suc (suc (4 * i + j)))) = omega arith in rw z

-- the four numbers at place i
abbrev four_at : List ℕ → ℕ → Slot
four_at ns i =
    record { number = get_or ns (4 * i) 0; start = get_or ns (4 * i + 1) 0; len = get_or ns (4 * i + 2) 0; folded = not (eqb (get_or ns (4 * i + 3) 0) 0) }

pub slot_within : (ns : List ℕ) (i : ℕ) → i < 96 → slot_at ns i ≡ four_at ns i
unfolding slot_at
slot_within ns i h = let e : ltb i 96 ≡ true = lt-ltb i 96 h in search e

slot_on : (a b c d : ℕ) (ns : List ℕ) (i : ℕ) → four_at (a ∷ b ∷ c ∷ d ∷ ns) (suc i) ≡ four_at ns i
slot_on a b c d ns i =
    let z : 4 * suc i ≡ suc (suc (suc (suc (4 * i)))) = omega arith in
    rw (four_on a b c d ns i 1, four_on a b c d ns i 2, four_on a b c d ns i 3, z)

slot_first : (s : Slot) (t : List ℕ) → four_at (s.number ∷ s.start ∷ s.len ∷ bit s.folded ∷ t) 0 ≡ s
slot_first s t = rw (bit_flag s.folded)

slot_back : (ss : List Slot) (t : List ℕ) (i : ℕ) (d : Slot) → i < length ss → four_at (packed ss ++ t) i ≡ get_or ss i d
unfolding packed
slot_back [] t i d h = absurd (omega arith)
slot_back (s ∷ ss) t zero d h = slot_first s (packed ss ++ t)
slot_back (s ∷ ss) t (suc i) d h = slot_on _ _ _ _ (packed ss ++ t) i ∙ slot_back ss t i d (omega arith)

-- the i-th of the slots that the numbers hold
pub slot_padded : (ss : List Slot) (i : ℕ) (d : Slot) → i < length ss → i < 96 → slot_at (padded ss) i ≡ get_or ss i d
unfolding padded
slot_padded ss i d h k = slot_within _ i k ∙ slot_back ss (zeros (384 - 4 * length ss)) i d h

-- and none past them

get_d_zeros : (n i : ℕ) → get_or (zeros n) i 0 ≡ 0
unfolding zeros
get_d_zeros zero i = refl
get_d_zeros (suc n) zero = refl
get_d_zeros (suc n) (suc i) = get_d_zeros n i

slot_over : (ss : List Slot) (n i : ℕ) → length ss ≤ i → four_at (packed ss ++ zeros n) i ≡ no_slot
unfolding packed
slot_over [] n i h = rw (get_d_zeros n (4 * i), get_d_zeros n (4 * i + 1), get_d_zeros n (4 * i + 2), get_d_zeros n (4 * i + 3))
slot_over (s ∷ ss) n zero h = absurd (omega arith)
slot_over (s ∷ ss) n (suc i) h = slot_on _ _ _ _ (packed ss ++ zeros n) i ∙ slot_over ss n i (omega arith)

pub slot_none : (ss : List Slot) (i : ℕ) → length ss ≤ i → i < 96 → slot_at (padded ss) i ≡ no_slot
unfolding padded
slot_none ss i h k = slot_within _ i k ∙ slot_over ss (384 - 4 * length ss) i h

first_take : (ss : List Slot) (i : ℕ) → length ss ≤ 96 → i ≤ length ss → first_slots i (padded ss) ≡ take i ss
unfolding first_slots
first_take ss zero k h = refl
first_take ss (suc i) k h =
    let l : i < length ss = omega arith in
    rw (first_take ss i k (omega arith), slot_padded ss i no_slot l (omega arith)) (sym (take-suc ss i no_slot l))

pub first_all : (ss : List Slot) → length ss ≤ 96 → first_slots (length ss) (padded ss) ≡ ss
first_all ss k = first_take ss (length ss) k (omega arith) ∙ take-length ss

-- ---- at a place of 384 numbers

module _ (ns : List ℕ) (i : ℕ) where
  pub past_slot : 96 ≤ i → no_slot ≡ slot_at ns i
  unfolding slot_at
  past_slot h = rw (le-ltb i 96 h)

  pub here_slot : {x y z w : ℕ} → i < 96 → x ≡ get_or ns (4 * i) 0 → y ≡ get_or ns (4 * i + 1) 0 → z ≡ get_or ns (4 * i + 2) 0 → w ≡ get_or ns (4 * i + 3) 0
      → record { number = x; start = y; len = z; folded = not (eqb w 0) } ≡ slot_at ns i
  here_slot h a b c d = sym (slot_within ns i h ∙ rw (a, b, c, d))
