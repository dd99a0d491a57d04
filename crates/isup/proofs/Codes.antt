-- The country code: its form, and that a number starts with it.
use mathlib.Core.Path.{◌≡◌, refl, sym, ap, ◌∙◌}
use mathlib.Core.Bool.{not, ◌&&◌}
use mathlib.Core.List.{List, ◌++◌}
use Prim.Native.Nat.{ℕ}
use native.Mathlib.Omega.{arith}
use lib.Dec.{eqb}
use lib.ListN.{length, take, drop, take-append-drop}
use lib.Seq.{take-append_seam}
use borrow.Author.Tests.{eqb-true, eq-eqb, not-true}
use Rattle.octets.specs.Classes.{within, is_digit}
use Rattle.octets.specs.Scans.{run, starts}
use Rattle.octets.proofs.Runs.{run_whole, whole_all}
use Rattle.sip.proofs.Tests.{and_left, and_right, range_low, range_high, in_range}
use Rattle.sip.proofs.Texts.{same_eq, same_refl}
use Rattle.isup.specs.Forward.{is_code, starts_with}
use Rattle.isup.specs.Promises.{CodeRead, CodeTaken, StartsRead, StartsTaken}

pub code_read : CodeRead
unfolding is_code
code_read code e =
    let n : ℕ = run is_digit code in
    let w = and_left (within 1 3 n) (eqb n (length code) && not (starts 48 code)) e in
    let b = and_right (within 1 3 n) (eqb n (length code) && not (starts 48 code)) e in
    let z : n ≡ length code = eqb-true n (length code) (and_left (eqb n (length code)) (not (starts 48 code)) b) in
    record {
      some_digit = omega (arith, range_low 1 3 n w);
      three_digits = omega (arith, range_high 1 3 n w);
      only_digits = whole_all is_digit code z;
      no_zero = not-true (starts 48 code) (and_right (eqb n (length code)) (not (starts 48 code)) b);
    }

pub code_taken : CodeTaken
unfolding is_code
code_taken code f =
    rw (
      run_whole is_digit code f.only_digits,
      in_range 1 3 (length code) f.some_digit f.three_digits,
      eq-eqb (length code) (length code) refl,
      f.no_zero,
    )

pub starting : StartsRead
unfolding starts_with
starting code digits e =
    let c : code ≡ take (length code) digits = same_eq code (take (length code) digits) e in
    sym (ap (λ (x : List ℕ). x ++ drop (length code) digits) c ∙ take-append-drop (length code) digits)

pub started : StartsTaken
unfolding starts_with
started code others = rw (take-append_seam code others) (same_refl code)
