-- Numbers of the profile and the digits of them that are sent.
use mathlib.Core.Path.{◌≡◌, refl, sym}
use mathlib.Core.Bool.{Bool, true, false, not, cond, ◌&&◌}
use mathlib.Core.List.{List, [], ◌∷◌, ◌++◌}
use Prim.Native.Nat.{ℕ, zero, suc, ◌+◌, ◌≤◌}
use native.Mathlib.Omega.{arith}
use lib.Dec.{eqb}
use lib.ListN.{length, drop, length-drop}
use borrow.Author.Tests.{eqb-true}
use Rattle.octets.specs.Classes.{within, is_digit}
use Rattle.octets.specs.Scans.{run, all, starts}
use Rattle.sip.specs.Values.{is_global}
use Rattle.sip.proofs.Identities.{global_digits}
use Rattle.sip.proofs.Tests.{and_left, and_right, range_low, range_high, byte_start, all_others}
use Rattle.isup.specs.Forward.{starts_with, is_national, sent}
use Rattle.isup.proofs.Codes.{starting}

-- a number: its `+`, and 7 to 15 digits
pub record Plus (number : List ℕ) : Type 0 where
  pub plus : 43 ∷ drop 1 number ≡ number
  pub digits : all is_digit (drop 1 number) ≡ true
  pub enough : 7 ≤ length (drop 1 number)
  pub few : length (drop 1 number) ≤ 15

pub global_plus : (number : List ℕ) → is_global number ≡ true → Plus number
unfolding is_global
global_plus number e =
    let n : ℕ = run is_digit (drop 1 number) in
    let b = and_right (starts 43 number) (not (starts 48 (drop 1 number)) && (within 7 15 n && eqb (n + 1) (length number))) e in
    let c = and_right (not (starts 48 (drop 1 number))) (within 7 15 n && eqb (n + 1) (length number)) b in
    let w = and_left (within 7 15 n) (eqb (n + 1) (length number)) c in
    let f : n + 1 ≡ length number = eqb-true (n + 1) (length number) (and_right (within 7 15 n) (eqb (n + 1) (length number)) c) in
    record {
      plus = sym (byte_start 43 number (global_digits number e).0);
      digits = (global_digits number e).1;
      enough = omega (arith, length-drop 1 number, range_low 7 15 n w);
      few = omega (arith, length-drop 1 number, range_high 7 15 n w);
    }

-- ---- the digits that are sent

all_drop : (p : ℕ → Bool) (n : ℕ) (s : List ℕ) → all p s ≡ true → all p (drop n s) ≡ true
all_drop p zero s e = e
all_drop p (suc n) [] e = e
all_drop p (suc n) (b ∷ s) e = all_drop p n s (all_others p b s e)

pub sent_digits : (code : List ℕ) (national : Bool) (ds : List ℕ) → all is_digit ds ≡ true → all is_digit (sent code national ds) ≡ true
unfolding sent
sent_digits code true ds e = all_drop is_digit (length code) ds e
sent_digits code false ds e = e

pub sent_length : (code : List ℕ) (national : Bool) (ds : List ℕ) → length ds ≤ 15 → length (sent code national ds) ≤ 15
unfolding sent
sent_length code true ds l = omega (arith, length-drop (length code) ds)
sent_length code false ds l = l

pub sent_at_least : (code : List ℕ) (national : Bool) (ds : List ℕ) → length ds ≤ length (sent code national ds) + length code
unfolding sent
sent_at_least code true ds = omega (arith, length-drop (length code) ds)
sent_at_least code false ds = omega arith

-- ---- the code in front

pub code_back : (code : List ℕ) (home : Bool) (ds : List ℕ) (national : Bool) → is_national code home ds ≡ national
    → cond national code [] ++ sent code national ds ≡ ds
unfolding is_national sent
code_back code home ds false e = refl
code_back code home ds true e = sym (starting code ds (and_right home (starts_with code ds) e))
