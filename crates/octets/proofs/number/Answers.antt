-- `octets::number` meets its contract: a byte that is no digit ends the run, and a number past the bound is none.
use mathlib.Core.Path.{◌≡◌, sym, ◌∙◌}
use mathlib.Core.Bool.{true, false}
use Prim.Native.Nat.{◌+◌, ◌-◌, ◌*◌, ◌<◌}
use lib.ListN.{get_or}
use Rattle.std.proofs.Common.{rules, arith}
use Rattle.octets.specs.Classes.{is_digit}
use Rattle.octets.proofs.Numbers.{digit_test, answer, at_end, at_other, again_run, again_value, too_large}
use Rattle.octets.proofs.number.Goals as goal

pub returns-then-not-is_ascii_digit : goal.returns-then-not-is_ascii_digit
returns-then-not-is_ascii_digit c =
    let n : is_digit (get_or c.args.s.now c.loop-i.i 0) ≡ false = sym (digit_test _) ∙ sym c.is_ascii_digit.ensures.value ∙ c.if-not-is_ascii_digit.true in
    answer _ _ _ c.counted.result (search (at_other, rules)) c.counted.ensures.1

pub returns-then-from-value : goal.returns-then-from-value
returns-then-from-value c =
    let n : is_digit (get_or c.args.s.now c.loop-i.i 0) ≡ true = sym (digit_test _) ∙ sym c.is_ascii_digit.ensures.value ∙ c.if-not-is_ascii_digit.false in
    let s = c.args.s.now in
    let i = c.loop-i.i in
    let v = c.loop-i.value in
    let w : v * 10 + c.from.result ≡ v * 10 + (get_or s i 0 - 48) = omega arith in
    let g : c.args.bound < v * 10 + c.from.result = omega arith in
    (too_large s i v c.loop-i.invariant.2 c.loop-i.invariant.3 c.loop-i-test.true n w c.args.most c.args.bound g, tt)

pub loop-i-preserved : goal.loop-i-preserved
loop-i-preserved c =
    let n : is_digit (get_or c.args.s.now c.loop-i.i 0) ≡ true = sym (digit_test _) ∙ sym c.is_ascii_digit.ensures.value ∙ c.if-not-is_ascii_digit.false in
    search (again_run, again_value, rules)

pub returns : goal.returns
returns c = answer _ _ _ c.counted-2.result (search (at_end, rules)) c.counted-2.ensures.1
