-- The loop's invariant: all so far are digits and make v, below 10 to their number, and the rest is read from there.
use mathlib.Core.Path.{◌≡◌, ◌∙◌, refl, sym}
use mathlib.Core.Bool.{true, false, and-false}
use mathlib.Core.List.{List}
use Prim.Native.Nat.{ℕ, ◌≤◌, ◌<◌, ◌-◌, ◌+◌, ◌*◌, ◌^◌}
use native.Mathlib.Nat.{pow-suc, pow-le-pow_right}
use native.Mathlib.Numerals.{add-one}
use native.Mathlib.Omega.{arith}
use lib.Dec.{eqb}
use lib.ListN.{length, drop, get_or, drop_of_length-le}
use lib.Seq.{drop-cons}
use borrow.Author.Rules.{rules}
use borrow.Author.Tests.{le-leb, lt-leb}
use mir.Syntax.{w64}
use mir.Val.{Fits}
use Rattle.std.specs.Prelude.{Some, None}
use Rattle.std.specs.Char.{is_ascii_digit}
use Rattle.cause_text.proofs.Input.{some_length}
use Rattle.octets.specs.Classes.{is_digit}
use Rattle.octets.specs.Scans.{all, decimal}
use Rattle.cause_text.specs.Number.{number_of}
use Rattle.cause_text.proofs.number.number_of.Goals as goal

module _ (s : List ℕ) where
  short : eqb (length s) 0 ≡ true → None ≡ number_of s
  unfolding number_of
  short h = let z : length s ≡ 0 = search rules in simp z

  long : 19 < length s → None ≡ number_of s
  unfolding number_of
  long h = simp (lt-leb (length s) 19 h, and-false)

  module _ (i : ℕ) (digit : all is_digit s ≡ all is_digit (drop i s)) where
    module _ (some : 1 ≤ length s) (few : length s ≤ 19) (v : ℕ) (read : decimal 0 s ≡ decimal v (drop i s)) where
      done : length s ≤ i → Some v ≡ number_of s
      unfolding number_of all decimal
      done h = rw (le-leb 1 (length s) some, le-leb (length s) 19 few, digit, read, drop_of_length-le s h)

    other : i < length s → is_ascii_digit (get_or s i 0) ≡ false → None ≡ number_of s
    unfolding number_of all is_digit
    other h b = rw (digit, drop-cons s i 0, b, and-false)

    digit_next : i < length s → is_ascii_digit (get_or s i 0) ≡ true → all is_digit s ≡ all is_digit (drop (i + 1) s)
    unfolding all is_digit
    digit_next h b = digit ∙ rw (drop-cons s i 0, b, add-one)

  read_next : (v i : ℕ) → decimal 0 s ≡ decimal v (drop i s) → i < length s → decimal 0 s ≡ decimal (v * 10 + (get_or s i 0 - 48)) (drop (i + 1) s)
  unfolding decimal
  read_next v i read h = read ∙ rw (drop-cons s i 0, add-one)

module _ (v i n : ℕ) (below : v < 10 ^ i) (h : i < n) (few : n ≤ 19) where
  small : v < 10 ^ 18
  small = let p : 10 ^ i ≤ 10 ^ 18 = pow-le-pow_right (omega arith) {j = 18} (omega arith) in omega arith

  times_fits : Fits w64 (v * 10)
  times_fits = omega (arith, small)

  plus_fits : (b : ℕ) → b ≤ 57 → Fits w64 (v * 10 + (b - 48))
  plus_fits b u = omega (arith, small)

grows : (v i b : ℕ) → v < 10 ^ i → b ≤ 57 → v * 10 + (b - 48) < 10 ^ (i + 1)
grows v i b h u = rw (add-one, pow-suc) (omega arith)

pub returns-then-is_empty : goal.returns-then-is_empty
returns-then-is_empty c = short c.args.s.now (sym c.is_empty.ensures ∙ c.if-is_empty.true)

pub returns-then-s-gt19 : goal.returns-then-s-gt19
returns-then-s-gt19 c = search long

pub loop-b-init : goal.loop-b-init
loop-b-init c = (search rules, refl, refl)

pub returns-then-not-is_ascii_digit : goal.returns-then-not-is_ascii_digit
returns-then-not-is_ascii_digit c =
    other c.args.s.now c.loop-b.b-index c.loop-b.invariant.2 c.loop-b-test.true (sym c.is_ascii_digit.ensures.value ∙ c.if-not-is_ascii_digit.true)

pub overflow_mul-v : goal.overflow_mul-v
overflow_mul-v c = times_fits c.loop-b.v c.loop-b.b-index (length c.args.s.now) c.loop-b.invariant.0 c.loop-b-test.true c.if-s-gt19.false

pub overflow_add-v : goal.overflow_add-v
overflow_add-v c =
    plus_fits c.loop-b.v c.loop-b.b-index (length c.args.s.now) c.loop-b.invariant.0 c.loop-b-test.true c.if-s-gt19.false _ c.if-not-is_ascii_digit.ensures.cases.1

pub loop-b-preserved : goal.loop-b-preserved
loop-b-preserved c = (
  grows c.loop-b.v c.loop-b.b-index _ c.loop-b.invariant.0 c.if-not-is_ascii_digit.ensures.cases.1,
  read_next c.args.s.now c.loop-b.v c.loop-b.b-index c.loop-b.invariant.1 c.loop-b-test.true,
  digit_next c.args.s.now c.loop-b.b-index c.loop-b.invariant.2 c.loop-b-test.true (sym c.is_ascii_digit.ensures.value ∙ c.if-not-is_ascii_digit.false),
)

pub returns : goal.returns
returns c =
    done c.args.s.now c.loop-b.b-index c.loop-b.invariant.2 (some_length c.args.s.now c.is_empty.ensures c.if-is_empty.false) c.if-s-gt19.false c.loop-b.v c.loop-b.invariant.1 c.loop-b-test.false
