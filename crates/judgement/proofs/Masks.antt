-- Laws of masks: a mask is looked at by its lowest bit and its half; all by induction on the place of a bit.
use mathlib.Core.Path.{◌≡◌, refl, sym, ap, ◌∙◌}
use mathlib.Core.Bool.{Bool, true, false, not, cond, ◌&&◌, ◌||◌}
use mathlib.Core.List.{List, [], ◌∷◌}
use Prim.Native.Nat.{ℕ, zero, suc, ◌+◌, ◌-◌, ◌*◌, ◌/◌, ◌%◌, ◌^◌, ◌≤◌, ◌<◌, min, max}
use native.Mathlib.Omega.{arith}
use native.Mathlib.Nat.{pow-suc}
use lib.Bits.{bit_and, bit_or, and_step, or_step, or_zero_r, or_comm, or_disjoint, and_comm, and_mask, and_shifted}
use lib.Count.{ones, ones_step, count_trailing_zeros, under}
use lib.Dec.{eqb, ltb, eqb-zero-suc, eqb-suc-zero, eqb-suc-suc}
use lib.ListN.{length}
use lib.Pow.{pow-lt, pow_mono}
use borrow.Author.Tests.{eq-eqb, ne_eqb, eqb-true, ltb-true, ltb-false, not-false}
use Rattle.sip.specs.Refusals.{head_or}
use Rattle.sip.proofs.Tests.{never}
use Rattle.judgement.specs.Sets.{has, pick}

-- ---- one bit

-- a bit is 0 or 1
bit_cases : (P : ℕ → Type 0) (n : ℕ) → P 0 → P 1 → P (n % 2)
bit_cases P n a b = go (n % 2) (omega arith)
  where
    go : (r : ℕ) → r < 2 → P r
    go zero h = a
    go (suc zero) h = b
    go (suc (suc r)) h = absurd (omega arith)

-- 2 ^ (n + 1) by halves
pow_half : (n : ℕ) → 2 ^ suc n / 2 ≡ 2 ^ n
pow_half n = omega (arith, pow-suc 2 n)

pow_even : (n : ℕ) → 2 ^ suc n % 2 ≡ 0
pow_even n = omega (arith, pow-suc 2 n)

-- 0 is in a set where its mask is odd
has_zero : (s : ℕ) → has s 0 ≡ eqb (s % 2) 1
unfolding has
has_zero s = rw (and_mask s 1) (bit_cases (λ r. not (eqb r 0) ≡ eqb r 1) s refl refl)

-- and n + 1 where n is in its half
twice_zero : (x : ℕ) → eqb (x * 2 + 0) 0 ≡ eqb x 0
twice_zero zero = refl
twice_zero (suc x) = ne_eqb (suc x * 2 + 0) 0 (λ z. omega arith) ∙ sym (ne_eqb (suc x) 0 (λ z. omega arith))

has_suc : (s n : ℕ) → has s (suc n) ≡ has (s / 2) n
unfolding has
has_suc s n =
    ap (λ (x : ℕ). not (eqb x 0)) (and_step s (2 ^ suc n))
    ∙ rw (pow_half n, pow_even n) (bit_cases (λ r. not (eqb (bit_and (s / 2) (2 ^ n) * 2 + min r 0) 0) ≡ not (eqb (bit_and (s / 2) (2 ^ n)) 0)) s
    (ap not (twice_zero (bit_and (s / 2) (2 ^ n)))) (ap not (twice_zero (bit_and (s / 2) (2 ^ n)))))

-- by halves, where they are known
module _ (q r : ℕ) (h : r < 2) {s : ℕ} (e : s ≡ q * 2 + r) where
  low_is : has s 0 ≡ eqb r 1
  low_is = let m : s % 2 ≡ r = omega arith in has_zero s ∙ rw m

  high_is : (n : ℕ) → has s (suc n) ≡ has q n
  high_is n = let d : s / 2 ≡ q = omega arith in has_suc s n ∙ rw d

-- the machine's mask of one number
pub bit_is : (n : ℕ) → n < 32 → 1 * 2 ^ n % 2 ^ 32 ≡ 2 ^ n
bit_is n h = let l : 2 ^ n < 2 ^ 32 = pow-lt {i = n} {j = 32} h in omega arith

-- nothing past the mask's width
pub has_past : (w s n : ℕ) → s < 2 ^ w → w ≤ n → has s n ≡ false
unfolding has
has_past w s n h l =
    let m : 2 ^ w ≤ 2 ^ n = pow_mono l in
    let z : bit_and s (1 * 2 ^ n) ≡ 0 = and_comm s (1 * 2 ^ n) ∙ and_shifted 1 n s (omega arith) in
    let u : 1 * 2 ^ n ≡ 2 ^ n = omega arith in
    ap not (eq-eqb (bit_and s (2 ^ n)) 0 (rw u at z))

pub has_low : (w s n : ℕ) → s < 2 ^ w → has s n ≡ true → n < w
has_low w s n h e = go (ltb n w) refl
  where
    go : (t : Bool) → ltb n w ≡ t → n < w
    go true q = ltb-true n w q
    go false q = never (cc (has_past w s n h (ltb-false n w q)))

pub has_none : (n : ℕ) → has 0 n ≡ false
unfolding has
has_none n = refl

-- ---- a set with one number more

pub has_with : (s n k : ℕ) → has (bit_or s (2 ^ n)) k ≡ (eqb n k || has s k)
has_with s zero zero = low_is (bit_or (s / 2) 0) (max (s % 2) 1) (omega arith) (or_step s 1) ∙ bit_cases (λ r. eqb (max r 1) 1 ≡ true) s refl refl
has_with s zero (suc k) =
    high_is (bit_or (s / 2) 0) (max (s % 2) 1) (omega arith) (or_step s 1) k
    ∙ rw (or_zero_r (s / 2), eqb-zero-suc k) (sym (has_suc s k))
has_with s (suc n) zero =
    low_is (bit_or (s / 2) (2 ^ suc n / 2)) (max (s % 2) (2 ^ suc n % 2)) (omega arith) (or_step s (2 ^ suc n))
    ∙ rw (pow_even n, eqb-suc-zero n, has_zero s) (bit_cases (λ r. eqb (max r 0) 1 ≡ eqb r 1) s refl refl)
has_with s (suc n) (suc k) =
    high_is (bit_or (s / 2) (2 ^ suc n / 2)) (max (s % 2) (2 ^ suc n % 2)) (omega arith) (or_step s (2 ^ suc n)) k
    ∙ rw (pow_half n, eqb-suc-suc n k, has_suc s k) (has_with (s / 2) n k)

absent : (s n : ℕ) → has s n ≡ false → bit_and s (2 ^ n) ≡ 0
unfolding has
absent s n e = eqb-true (bit_and s (2 ^ n)) 0 (not-false (eqb (bit_and s (2 ^ n)) 0) e)

-- a number that is not there yet may be added
pub has_plus : (s n k : ℕ) → has s n ≡ false → has (2 ^ n + s) k ≡ (eqb n k || has s k)
has_plus s n k e =
    ap (λ (x : ℕ). has x k) (sym (or_disjoint (2 ^ n) s (and_comm (2 ^ n) s ∙ absent s n e)) ∙ or_comm (2 ^ n) s) ∙ has_with s n k

-- ---- a set without another

pub has_without : (w m s n : ℕ) → m < 2 ^ w → s < 2 ^ w → has (bit_and m (2 ^ w - 1 - s)) n ≡ (has m n && not (has s n))
has_without zero m s n hm hs = let z : m ≡ 0 = omega arith in rw (z, has_none n)
has_without (suc w) m s zero hm hs =
    let c : ℕ = 2 ^ suc w - 1 - s in
    let odd : c % 2 ≡ 1 - s % 2 = omega (arith, pow-suc 2 w) in
    low_is (bit_and (m / 2) (c / 2)) (min (m % 2) (c % 2)) (omega arith) (and_step m c)
    ∙ rw (odd, has_zero m, has_zero s)
    (bit_cases (λ a. eqb (min a (1 - s % 2)) 1 ≡ (eqb a 1 && not (eqb (s % 2) 1))) m
    (bit_cases (λ b. eqb (min 0 (1 - b)) 1 ≡ (eqb 0 1 && not (eqb b 1))) s refl refl)
    (bit_cases (λ b. eqb (min 1 (1 - b)) 1 ≡ (eqb 1 1 && not (eqb b 1))) s refl refl))
has_without (suc w) m s (suc n) hm hs =
    let c : ℕ = 2 ^ suc w - 1 - s in
    let half : c / 2 ≡ 2 ^ w - 1 - s / 2 = omega (arith, pow-suc 2 w) in
    high_is (bit_and (m / 2) (c / 2)) (min (m % 2) (c % 2)) (omega arith) (and_step m c) n
    ∙ rw (half, has_suc m n, has_suc s n) (has_without w (m / 2) (s / 2) n (omega (arith, pow-suc 2 w)) (omega (arith, pow-suc 2 w)))

-- ---- the numbers of a set

-- k numbers from n on
unfoldable pub from : ℕ → ℕ → List ℕ
from n zero = []
from n (suc k) = n ∷ from (suc n) k

module _ (p : ℕ → Bool) where
  -- the test at n and after it is the mask's lowest bit and its half
  pub record Shown (n m : ℕ) : Type 0 where
    pub shows : (j : ℕ) → p (n + j) ≡ has m j

  shown_low : (n m : ℕ) → Shown n m → p n ≡ eqb (m % 2) 1
  shown_low n m s = let z : n + 0 ≡ n = omega arith in (rw z at (s.shows 0)) ∙ has_zero m

  shown_half : (n m : ℕ) → Shown n m → Shown (suc n) (m / 2)
  shown_half n m s = record { shows = λ j. let z : suc n + j ≡ n + suc j = omega arith in rw z (s.shows (suc j) ∙ has_suc m j) }

  pub count_is : (k n m : ℕ) → m < 2 ^ k → Shown n m → ones m ≡ length (pick p (from n k))
  unfolding from pick ones
  count_is zero n m h s = let z : m ≡ 0 = omega arith in rw z
  count_is (suc k) n m h s =
      let t : ones (m / 2) ≡ length (pick p (from (suc n) k)) = count_is k (suc n) (m / 2) (omega (arith, pow-suc 2 k)) (shown_half n m s) in
      ones_step m
      ∙ rw (t, shown_low n m s)
      (bit_cases (λ r. r + length (pick p (from (suc n) k)) ≡ length (cond (eqb r 1) (n ∷ pick p (from (suc n) k)) (pick p (from (suc n) k)))) m
      (omega arith) (omega arith))

  pub lowest_is : (k n m d : ℕ) → m < 2 ^ k → (m ≡ 0 → ⊥) → Shown n m → n + count_trailing_zeros k m ≡ head_or d (pick p (from n k))
  unfolding from pick count_trailing_zeros
  lowest_is zero n m d h z s = absurd (z (omega arith))
  lowest_is (suc k) n m d h z s =
      rw (shown_low n m s) (go (m % 2) refl (λ y. lowest_is k (suc n) (m / 2) d (omega (arith, pow-suc 2 k)) y (shown_half n m s)))
    where
      go : (r : ℕ) → m % 2 ≡ r → ((m / 2 ≡ 0 → ⊥) → suc n + count_trailing_zeros k (m / 2) ≡ head_or d (pick p (from (suc n) k)))
          → n + under r (count_trailing_zeros k (m / 2)) ≡ head_or d (cond (eqb r 1) (n ∷ pick p (from (suc n) k)) (pick p (from (suc n) k)))
      go zero e i = omega (arith, i (λ y. z (omega arith)))
      go (suc zero) e i = omega arith
      go (suc (suc r)) e i = absurd (omega arith)
