-- Address signals: packed two to an octet and taken out again, as lists and one by one.
use mathlib.Core.Path.{◌≡◌, refl, ap, ◌∙◌}
use mathlib.Core.Bool.{Bool, true, false, ◌&&◌, and_assoc}
use mathlib.Core.List.{List, [], ◌∷◌, map}
use Prim.Native.Nat.{ℕ, zero, suc, ◌+◌, ◌-◌, ◌*◌, ◌/◌, ◌%◌, ◌≤◌, ◌<◌}
use native.Mathlib.Omega.{arith}
use lib.Dec.{leb}
use lib.ListN.{length, get_or, length-map}
use borrow.Author.Tests.{leb-true, le-leb, ltb-true, lt-ltb}
use Rattle.octets.specs.Classes.{bit, is_digit}
use Rattle.octets.specs.Scans.{all}
use Rattle.sip.proofs.Tests.{all_first, all_others, range_low, range_high}
use Rattle.isup.specs.Fields.{is_signal, packed, signals}
use Rattle.isup.specs.Forward.{signal}
use Rattle.isup.specs.Backward.{is_digit_code, digit}
use Rattle.isup.specs.Steps.{is_pair, digits}

pub bit_most : (t : Bool) → bit t ≤ 1
bit_most true = omega arith
bit_most false = omega arith

-- ---- a digit and its code

pub codes_signals : (cs : List ℕ) → all is_digit_code cs ≡ true → all is_signal cs ≡ true
unfolding all
codes_signals [] e = refl
codes_signals (c ∷ cs) e =
    rw (lt-ltb c 16 (omega (arith, leb-true c 9 (all_first is_digit_code c cs e))), codes_signals cs (all_others is_digit_code c cs e))

pub digit_least : (b : ℕ) → is_digit b ≡ true → 48 ≤ b
unfolding is_digit
digit_least b e = range_low 48 57 b e

pub digit_most : (b : ℕ) → is_digit b ≡ true → b ≤ 57
unfolding is_digit
digit_most b e = range_high 48 57 b e

pub codes_of : (ds : List ℕ) → all is_digit ds ≡ true → all is_digit_code (map signal ds) ≡ true
unfolding all
codes_of [] e = refl
codes_of (d ∷ ds) e =
    rw (le-leb (d - 48) 9 (omega (arith, digit_most d (all_first is_digit d ds e))), codes_of ds (all_others is_digit d ds e))

pub digits_again : (ds : List ℕ) → all is_digit ds ≡ true → map digit (map signal ds) ≡ ds
digits_again [] e = refl
digits_again (d ∷ ds) e =
    let z : 48 + (d - 48) ≡ d = omega (arith, digit_least d (all_first is_digit d ds e)) in
    rw (z, digits_again ds (all_others is_digit d ds e))

pub codes_again : (cs : List ℕ) → map signal (map digit cs) ≡ cs
codes_again [] = refl
codes_again (c ∷ cs) = let z : 48 + c - 48 ≡ c = omega arith in rw (z, codes_again cs)

-- ---- packed

pub packed_length : (cs : List ℕ) → 2 * length (packed cs) ≡ length cs + length cs % 2
unfolding packed
packed_length [] = refl
packed_length (a ∷ []) = refl
packed_length (a ∷ b ∷ cs) = omega (arith, packed_length cs)

pub packed_count : (ds : List ℕ) → length (packed (map signal ds)) ≡ (length ds + 1) / 2
packed_count ds = omega (arith, packed_length (map signal ds), length-map ds signal)

-- what is packed comes out again
pub signals_packed : (cs : List ℕ) → all is_signal cs ≡ true → signals (length cs) (packed cs) ≡ cs
unfolding signals packed
signals_packed [] e = refl
signals_packed (a ∷ []) e = ap (λ (x : ℕ). x ∷ []) (omega (arith, ltb-true a 16 (all_first is_signal a [] e)))
signals_packed (a ∷ b ∷ cs) e =
    let f = all_others is_signal a (b ∷ cs) e in
    let h : a < 16 = ltb-true a 16 (all_first is_signal a (b ∷ cs) e) in
    let i : b < 16 = ltb-true b 16 (all_first is_signal b cs f) in
    let y : (a + 16 * b) % 16 ≡ a = omega arith in
    let z : (a + 16 * b) / 16 ≡ b = omega arith in
    rw (y, z, signals_packed cs (all_others is_signal b cs f))

-- the last octet of an odd number of signals has no second one
pub packed_last : (x y : ℕ) (cs : List ℕ) → all is_signal cs ≡ true → length cs % 2 ≡ 1
    → get_or (x ∷ y ∷ packed cs) (length (x ∷ y ∷ packed cs) - 1) 0 / 16 ≡ 0
unfolding packed
packed_last x y [] e o = absurd (omega arith)
packed_last x y (a ∷ []) e o = let h : a < 16 = ltb-true a 16 (all_first is_signal a [] e) in omega arith
packed_last x y (a ∷ b ∷ cs) e o =
    let z : length (x ∷ y ∷ packed (a ∷ b ∷ cs)) - 1 ≡ suc (length (y ∷ (a + 16 * b) ∷ packed cs) - 1) = omega arith in
    rw z
    (packed_last y (a + 16 * b) cs (all_others is_signal b cs (all_others is_signal a (b ∷ cs) e)) (omega arith))

-- ---- taken out

pub signals_length : (n : ℕ) (bs : List ℕ) → n ≤ 2 * length bs → length (signals n bs) ≡ n
unfolding signals
signals_length zero bs h = refl
signals_length (suc n) [] h = absurd (omega arith)
signals_length (suc zero) (b ∷ bs) h = refl
signals_length (suc (suc n)) (b ∷ bs) h = ap (λ (k : ℕ). suc (suc k)) (signals_length n bs (omega arith))

pub digits_length : (n : ℕ) (bs : List ℕ) → n ≤ 2 * length bs → length (digits n bs) ≡ n
digits_length n bs h = length-map (signals n bs) digit ∙ signals_length n bs h

-- ---- every half is a digit code

-- of an even number of signals
pub pairs_even : (n : ℕ) (bs : List ℕ) → n ≡ 2 * length bs → all is_pair bs ≡ all is_digit_code (signals n bs)
unfolding all signals is_pair
pairs_even zero [] e = refl
pairs_even zero (b ∷ bs) e = absurd (omega arith)
pairs_even (suc n) [] e = absurd (omega arith)
pairs_even (suc zero) (b ∷ bs) e = absurd (omega arith)
pairs_even (suc (suc n)) (b ∷ bs) e =
    ap (λ (t : Bool). (leb (b % 16) 9 && leb (b / 16) 9) && t) (pairs_even n bs (omega arith))
    ∙ and_assoc (leb (b % 16) 9) (leb (b / 16) 9) (all is_digit_code (signals n bs))

-- of an odd number, the last half being 0
pub pairs_odd : (n : ℕ) (bs : List ℕ) → suc n ≡ 2 * length bs → get_or bs (length bs - 1) 0 / 16 ≡ 0 → all is_pair bs ≡ all is_digit_code (signals n bs)
unfolding all signals is_pair
pairs_odd n [] e z = absurd (omega arith)
pairs_odd zero (b ∷ bs) e z = absurd (omega arith)
pairs_odd (suc zero) (b ∷ []) e z = let y : b / 16 ≡ 0 = z in rw y (and_assoc (leb (b % 16) 9) true true)
pairs_odd (suc zero) (b ∷ c ∷ bs) e z = absurd (omega arith)
pairs_odd (suc (suc n)) (b ∷ []) e z = absurd (omega arith)
pairs_odd (suc (suc n)) (b ∷ c ∷ bs) e z =
    let k : length (b ∷ c ∷ bs) - 1 ≡ suc (length (c ∷ bs) - 1) = omega arith in
    let y : get_or (c ∷ bs) (length (c ∷ bs) - 1) 0 / 16 ≡ 0 = rw k at z in
    ap (λ (t : Bool). (leb (b % 16) 9 && leb (b / 16) 9) && t) (pairs_odd n (c ∷ bs) (omega arith) y)
    ∙ and_assoc (leb (b % 16) 9) (leb (b / 16) 9) (all is_digit_code (signals n (c ∷ bs)))

-- ---- what is taken out is packed again

-- an even number of signals
pub packed_even : (n : ℕ) (bs : List ℕ) → n ≡ 2 * length bs → packed (signals n bs) ≡ bs
unfolding packed signals
packed_even zero [] e = refl
packed_even zero (b ∷ bs) e = absurd (omega arith)
packed_even (suc n) [] e = absurd (omega arith)
packed_even (suc zero) (b ∷ bs) e = absurd (omega arith)
packed_even (suc (suc n)) (b ∷ bs) e =
    let z : b % 16 + 16 * (b / 16) ≡ b = omega arith in
    rw (z, packed_even n bs (omega arith))

-- an odd number, the last half being 0
pub packed_odd : (n : ℕ) (bs : List ℕ) → suc n ≡ 2 * length bs → get_or bs (length bs - 1) 0 / 16 ≡ 0 → packed (signals n bs) ≡ bs
unfolding packed signals
packed_odd n [] e z = absurd (omega arith)
packed_odd zero (b ∷ bs) e z = absurd (omega arith)
packed_odd (suc zero) (b ∷ []) e z = let y : b / 16 ≡ 0 = z in let x : b % 16 + 16 * 0 ≡ b = omega arith in rw x
packed_odd (suc zero) (b ∷ c ∷ bs) e z = absurd (omega arith)
packed_odd (suc (suc n)) (b ∷ []) e z = absurd (omega arith)
packed_odd (suc (suc n)) (b ∷ c ∷ bs) e z =
    let k : length (b ∷ c ∷ bs) - 1 ≡ suc (length (c ∷ bs) - 1) = omega arith in
    let y : get_or (c ∷ bs) (length (c ∷ bs) - 1) 0 / 16 ≡ 0 = rw k at z in
    let x : b % 16 + 16 * (b / 16) ≡ b = omega arith in
    rw (x, packed_odd n (c ∷ bs) (omega arith) y)
