-- Laws of `decimal` and `number`: a number read so far only grows, by induction on the digits; at a place, by the digit that stands there.
use mathlib.Core.Path.{◌≡◌, refl, ap, ◌∙◌}
use mathlib.Core.Bool.{Bool, true, false, cond, ◌&&◌, and-true, and-false}
use mathlib.Core.List.{List, [], ◌∷◌}
use Prim.Native.Nat.{ℕ, suc, ◌+◌, ◌-◌, ◌*◌, ◌≤◌, ◌<◌}
use native.Mathlib.Omega.{arith}
use lib.Dec.{leb}
use Rattle.std.specs.Char.{is_ascii_digit}
use Rattle.std.specs.Option.{unwrap_or, IfSome}
use Rattle.std.proofs.Common.{Option, Some, None}
use lib.ListN.{length, take, drop, get_or}
use borrow.Author.Tests.{le-leb, lt-leb, leb-true}
use Rattle.octets.specs.Classes.{within, is_digit}
use Rattle.octets.specs.Scans.{run, decimal, no_number, number}
use Rattle.octets.specs.declared.NumberAt.{NumberAt}
use Rattle.octets.proofs.Places.{drop1}
use Rattle.octets.proofs.Runs.{run_le, run_at, run_end, run_stop}

pub decimal_grows : (n : ℕ) (s : List ℕ) → n ≤ decimal n s
unfolding decimal
decimal_grows n [] = omega arith
decimal_grows n (b ∷ s) = omega (arith, decimal_grows (n * 10 + (b - 48)) s)

-- the library's tests of one byte
pub digit_test : (b : ℕ) → is_ascii_digit b ≡ is_digit b
unfolding is_digit
digit_test b = refl

-- the digits at the front
abbrev pub digits : List ℕ → List ℕ
digits s = take (run is_digit s) s

module _ (most bound : ℕ) (s : List ℕ) where
  both : (t u : Bool) → (t && u) ≡ true → u ≡ true
  both true u e = e
  both false u e = let z : ◌≡◌ {A = ℕ} 0 1 = cc in absurd (omega arith)

  sized : (t : Bool) → (within 1 most (run is_digit s) && leb (decimal 0 (digits s)) bound) ≡ t
      → ((cond t (record { size = run is_digit s; value = decimal 0 (digits s) }) no_number).size ≤ length s)
      × ((cond t (record { size = run is_digit s; value = decimal 0 (digits s) }) no_number).value ≤ bound)
  sized true e = (run_le is_digit s, leb-true (decimal 0 (digits s)) bound (both (within 1 most (run is_digit s)) (leb (decimal 0 (digits s)) bound) e))
  sized false e = (omega arith, omega arith)

  pub number_le : (number most bound s).size ≤ length s
  unfolding number
  number_le = (sized (within 1 most (run is_digit s) && leb (decimal 0 (digits s)) bound) refl).0

  pub number_value : (number most bound s).value ≤ bound
  unfolding number
  number_value = (sized (within 1 most (run is_digit s) && leb (decimal 0 (digits s)) bound) refl).1

  -- the bounds follow from what the number is
  pub answer : (r : Option NumberAt) → unwrap_or r no_number ≡ number most bound s → IfSome r (λ n. 1 ≤ n.size)
      → (unwrap_or r no_number ≡ number most bound s) × IfSome r (λ n. (1 ≤ n.size) × (n.size ≤ length s) × (n.value ≤ bound))
  answer None e h = (e, tt)
  answer (Some n) e h = (e, (h, rw e number_le, rw e number_value))

-- ---- a loop over the digits: i of them are passed and write v

module _ (s : List ℕ) (i v : ℕ) (e : run is_digit s ≡ i + run is_digit (drop i s)) (d : decimal 0 (digits s) ≡ decimal v (digits (drop i s))) where
  module _ (most bound : ℕ) (l : v ≤ bound) {r : NumberAt} (hr : r ≡ cond (within 1 most i) (record { size = i; value = v }) no_number) where
    done : run is_digit (drop i s) ≡ 0 → r ≡ number most bound s
    unfolding number decimal
    done z =
        let n : run is_digit s ≡ i = omega arith in
        let w : decimal 0 (digits s) ≡ v = d ∙ rw z in
        hr ∙ rw (w, n, le-leb v bound l, and-true (within 1 most i))

    pub at_other : i < length s → is_digit (get_or s i 0) ≡ false → r ≡ number most bound s
    at_other h n = done (run_stop is_digit s i h n)

  pub at_end : (most bound : ℕ) → v ≤ bound → {r : NumberAt} → r ≡ cond (within 1 most (length s)) (record { size = length s; value = v }) no_number
      → i ≤ length s → length s ≤ i → r ≡ number most bound s
  at_end most bound l hr k h =
      let n : length s ≡ i = omega arith in
      done most bound l (hr ∙ ap (λ (m : ℕ). cond (within 1 most m) (record { size = m; value = v }) no_number) n) (run_end is_digit s i h)

  module _ (h : i < length s) (b : is_digit (get_or s i 0) ≡ true) where
    next_run : run is_digit (drop i s) ≡ suc (run is_digit (drop (i + 1) s))
    next_run = run_at is_digit s i h b

    next_digits : digits (drop i s) ≡ get_or s i 0 ∷ digits (drop (i + 1) s)
    next_digits = ap (λ (n : ℕ). take n (drop i s)) next_run ∙ rw (drop1 s i h)

    next_value : decimal 0 (digits s) ≡ decimal (v * 10 + (get_or s i 0 - 48)) (digits (drop (i + 1) s))
    unfolding decimal
    next_value = d ∙ rw next_digits

    pub again_run : {k : ℕ} → k ≡ i + 1 → run is_digit s ≡ k + run is_digit (drop k s)
    again_run z = rw z (omega (arith, next_run))

    module _ {w : ℕ} (hw : w ≡ v * 10 + (get_or s i 0 - 48)) where
      pub again_value : {k : ℕ} → k ≡ i + 1 → decimal 0 (digits s) ≡ decimal w (digits (drop k s))
      again_value z = rw (z, hw) next_value

      pub too_large : (most bound : ℕ) → bound < w → no_number ≡ number most bound s
      unfolding number
      too_large most bound g =
          let m : bound < decimal 0 (digits s) = omega (arith, next_value, decimal_grows (v * 10 + (get_or s i 0 - 48)) (digits (drop (i + 1) s))) in
          rw (lt-leb (decimal 0 (digits s)) bound m, and-false (within 1 most (run is_digit s)))
