-- How many digits a number has, that they are as many of its lowest digits, and that they read as the number: by the two clauses of `digits`.
use mathlib.Core.Path.{◌≡◌, refl, sym, ap, ◌∙◌}
use mathlib.Core.Bool.{Bool, true, false}
use mathlib.Core.List.{List, [], ◌∷◌, ◌++◌}
use Prim.Native.Nat.{ℕ, zero, suc, ◌+◌, ◌-◌, ◌*◌, ◌/◌, ◌%◌, ◌^◌, ◌≤◌, ◌<◌, min}
use native.Mathlib.Nat.{pow-suc}
use Rattle.std.proofs.Math.Nat.{one-le-pow}
use native.Mathlib.Omega.{arith}
use mathlib.Core.Logic.{◌⊎◌, inl, inr}
use Rattle.std.specs.Prelude.{Option, None, Some, IfNone, IfSome, unwrap_or}
use lib.Dec.{leb, ltb}
use lib.ListN.{length, length-append}
use borrow.Author.Tests.{lt-ltb, le-ltb, ltb-true, ltb-false, leb-true}
use Rattle.octets.specs.Scans.{decimal}
use Rattle.sip.specs.Output.{digits, numeral, whole_numeral}
use Rattle.emit.specs.Put.{Wrote}
use Rattle.emit.specs.Digits.{last, lowest, NumberRead}
use Rattle.emit.proofs.Laws.{room_no, wrote_as}

pub lowest_length : (i n : ℕ) → length (lowest i n) ≡ i
unfolding lowest
lowest_length zero n = refl
lowest_length (suc i) n = rw length-append (omega (arith, lowest_length i (n / 10)))

pub below_or_not : {P : Type 0} (a b : ℕ) → (a < b → P) → (b ≤ a → P) → P
below_or_not {P} a b less not-less = go (ltb a b) refl
  where
    go : (t : Bool) → ltb a b ≡ t → P
    go true e = less (ltb-true a b e)
    go false e = not-less (ltb-false a b e)

module _ (k n : ℕ) where
  pub one : n < 10 → digits (suc k) n ≡ last n ∷ []
  unfolding digits
  one h = let z : n % 10 ≡ n = omega arith in rw (lt-ltb n 10 h, z)

  pub more : 10 ≤ n → digits (suc k) n ≡ digits k (n / 10) ++ (last n ∷ [])
  unfolding digits
  more h = rw (le-ltb n 10 h)

  one_length : n < 10 → length (digits (suc k) n) ≡ 1
  one_length h = ap length (one h)

  more_length : 10 ≤ n → length (digits (suc k) n) ≡ length (digits k (n / 10)) + 1
  more_length h = ap length (more h) ∙ length-append (digits k (n / 10)) (last n ∷ [])

one_digit : (n : ℕ) → length (digits 1 n) ≡ 1
unfolding digits
one_digit n = below_or_not n 10 (one_length 0 n) (more_length 0 n)

pub digits_le : (k n : ℕ) → length (digits k n) ≤ k
unfolding digits
digits_le zero n = omega arith
digits_le (suc k) n =
    below_or_not n 10 (λ h. omega (arith, one_length k n h)) (λ h. omega (arith, more_length k n h, digits_le k (n / 10)))

pub numeral_le : (n : ℕ) → length (numeral n) ≤ 5
numeral_le n = digits_le 5 n

digits_lowest : (k n : ℕ) → digits k n ≡ lowest (length (digits k n)) n
unfolding digits lowest
digits_lowest zero n = refl
digits_lowest (suc k) n =
    below_or_not n 10 (λ h. rw (one k n h)) (λ h.
    let z : length (digits (suc k) n) ≡ suc (length (digits k (n / 10))) = omega (arith, more_length k n h) in
    more k n h ∙ rw (z, ← digits_lowest k (n / 10)))

-- ---- writing: by the answer t whether there is room

module _ (d : List ℕ) (at n size : ℕ) {t : Bool} (e : t ≡ leb (at + size) (length d)) where
  pub lowest_fit : t ≡ true → at + size ≤ length d
  lowest_fit q = leb-true (at + size) (length d) (sym e ∙ q)

  pub lowest_full : t ≡ false → Wrote d at (lowest size n) at d
  lowest_full q = room_no d at (lowest size n) (e ∙ rw lowest_length) q

-- as many of the lowest digits as there are
pub digits_written : (k : ℕ) {d : List ℕ} {at : ℕ} (n : ℕ) {size : ℕ} {r : ℕ} {o : List ℕ} → size ≡ length (digits k n) → Wrote d at (lowest size n) r o → Wrote d at (digits k n) r o
digits_written k n l w = wrote_as w (digits k n) (rw l (sym (digits_lowest k n)))

-- ---- reading back

decimal_last : (n : ℕ) (s : List ℕ) (b : ℕ) → decimal n (s ++ (b ∷ [])) ≡ decimal n s * 10 + (b - 48)
unfolding decimal
decimal_last n [] b = refl
decimal_last n (c ∷ s) b = decimal_last (n * 10 + (c - 48)) s b

digits_read : (k n : ℕ) → n < 10 ^ k → decimal 0 (digits k n) ≡ n
unfolding digits decimal
digits_read zero n h = omega arith
digits_read (suc k) n h =
    below_or_not n 10 (λ l. rw (one k n l) (omega arith)) (λ l.
    let z : decimal 0 (digits k (n / 10)) ≡ n / 10 = digits_read k (n / 10) (omega arith) in
    rw (more k n l, decimal_last 0 (digits k (n / 10)) (last n), z) (omega arith))

pub number_read : NumberRead
number_read n h = digits_read 20 n (omega arith)

-- ---- few digits

module _ (n : ℕ) where
  pub numeral_one : n < 10 → numeral n ≡ last n ∷ []
  numeral_one h = one 4 n h

  pub numeral_two : 10 ≤ n → n < 100 → numeral n ≡ last (n / 10) ∷ last n ∷ []
  numeral_two l h = more 4 n l ∙ rw (one 3 (n / 10) (omega arith))

-- ---- lengths

-- a number of j + 1 digits is written with as many, and with k where it has more
pub digits_length : (k n j : ℕ) → 10 ^ j ≤ n ⊎ ((n ≡ 0) × (j ≡ 0)) → n < 10 * 10 ^ j → length (digits k n) ≡ min k (j + 1)
digits_length zero n j p h = omega (arith, digits_le 0 n)
digits_length (suc k) n zero p h = one_length k n (omega arith) ∙ omega arith
digits_length (suc k) n (suc j) p h =
    let q : 10 ^ suc j ≡ 10 ^ j * 10 = pow-suc 10 j in
    let o : 1 ≤ 10 ^ j = one-le-pow j 10 (omega arith) in
    let a : 10 ^ suc j ≤ n = elim p [ inl x ↦ x | inr x ↦ absurd (omega arith) ] in
    let l : 10 ≤ n = omega arith in
    more_length k n l ∙ rw (digits_length k (n / 10) j (inl (omega arith)) (omega arith)) (omega arith)

-- as `checked_ilog10` says
pub logged_length : (n : ℕ) {m : ℕ} (o : Option ℕ) → IfNone o (m ≡ 0) → IfSome o (λ j. 10 ^ j ≤ m) → IfSome o (λ j. m < 10 * 10 ^ j) → IfSome o (λ j. j < 20) → m ≡ n → {r : ℕ} → r ≡ unwrap_or o 0 + 1 → r ≡ length (whole_numeral n)
logged_length n None z l h b e q = rw (q, ← e) (sym (digits_length 20 _ 0 (inr (z, refl)) (omega arith)))
logged_length n (Some j) z l h b e q = rw (q, ← e) (sym (digits_length 20 _ j (inl l) h ∙ omega arith))

module _ (n : ℕ) where
  pub len1 : n < 10 → 1 ≡ length (numeral n)
  len1 h = sym (one_length 4 n h)

  pub len2 : 10 ≤ n → n < 100 → 2 ≡ length (numeral n)
  len2 l h = omega (arith, more_length 4 n l, one_length 3 (n / 10) (omega arith))

  two_more : 100 ≤ n → length (numeral n) ≡ length (digits 3 (n / 10 / 10)) + 2
  two_more l = omega (arith, more_length 4 n (omega arith), more_length 3 (n / 10) (omega arith))

  pub len3 : 100 ≤ n → n < 1000 → 3 ≡ length (numeral n)
  len3 l h = omega (arith, two_more l, one_length 2 (n / 10 / 10) (omega arith))

  three_more : 1000 ≤ n → length (numeral n) ≡ length (digits 2 (n / 10 / 10 / 10)) + 3
  three_more l = omega (arith, two_more (omega arith), more_length 2 (n / 10 / 10) (omega arith))

  pub len4 : 1000 ≤ n → n < 10000 → 4 ≡ length (numeral n)
  len4 l h = omega (arith, three_more (omega arith), one_length 1 (n / 10 / 10 / 10) (omega arith))

  pub len5 : 10000 ≤ n → 5 ≡ length (numeral n)
  len5 l =
      let x : ℕ = n / 10 / 10 / 10 in
      omega (arith, three_more (omega arith), more_length 1 x (omega arith), one_digit (x / 10))
