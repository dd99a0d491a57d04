-- What the steps of decoding answer: the tests in their order, and the number written into its array.
use mathlib.Core.Path.{◌≡◌, refl, sym, ap, ◌∙◌}
use mathlib.Core.Bool.{Bool, true, false, false≢true, not, cond, ◌&&◌, ◌||◌, or-false}
use mathlib.Core.List.{List, [], ◌∷◌, ◌++◌, append_assoc, append-nil}
use Prim.Native.Nat.{ℕ, zero, suc, ◌+◌, ◌-◌, ◌*◌, ◌/◌, ◌%◌, ◌≤◌, ◌<◌}
use native.Mathlib.Omega.{arith}
use lib.Dec.{leb, ltb, eqb}
use lib.ListN.{length, drop, get_or, length-drop, length-append}
use borrow.Author.Tests.{le-leb, lt-leb, leb-true, leb-false, le-ltb, lt-ltb, ltb-false, eqb-false, eq-eqb, ne_eqb, eqb-true}
use Rattle.octets.specs.Scans.{all}
use Rattle.sip.specs.Values.{is_global}
use Rattle.sip.proofs.Tests.{and_right}
use Rattle.isup.specs.Answers.{Caller}
use Rattle.isup.specs.Fields.{is_odd, signal_count, signals, fields_of, filler, filler_is_zero}
use Rattle.isup.specs.Forward.{is_code}
use Rattle.isup.specs.Backward.{is_cut, is_named, is_digit_code, number_from, no_caller, caller_with, caller_for, decoded}
use Rattle.isup.specs.Steps.{is_pair, digits, digit_at}
use Rattle.isup.specs.declared.fields.Nature.{Nature}
use Rattle.isup.specs.declared.fields.Nature.TheVariants.{National, International}
use Rattle.isup.specs.declared.fields.Presentation.{Presentation}
use Rattle.isup.specs.declared.fields.Presentation.TheVariants.{Allowed, Restricted}
use Rattle.isup.specs.Views.{nature_number, is_national_nature, presentation_octet, caller_in}
use Rattle.isup.specs.declared.Caller.{Caller as Found}
use Rattle.isup.specs.declared.NoCaller.{NoCaller}
use Rattle.isup.specs.declared.NoCaller.TheVariants.{Field}
use Rattle.std.specs.List.{list_all}
use Rattle.std.specs.Prelude.{Result, Ok, Err, IsErr, is_ok}
use Rattle.isup.proofs.Numbers.{global_plus}
use Rattle.isup.proofs.Signals.{bit_most, digits_length, pairs_even, pairs_odd}

-- ---- 43

module _ (s : List ℕ) where
  pub cut_short : length s < 2 → true ≡ is_cut s
  unfolding is_cut
  cut_short h = rw (lt-ltb (length s) 2 h)

  pub cut_bare : 2 ≤ length s → length s < 3 → leb 128 (get_or s 0 0) ≡ is_cut s
  unfolding is_cut
  cut_bare l h = rw (le-ltb (length s) 2 l, eq-eqb (length s) 2 (omega arith)) (go (leb 128 (get_or s 0 0)))
    where
      go : (t : Bool) → t ≡ (t && true)
      go true = refl
      go false = refl

  pub cut_not : 3 ≤ length s → false ≡ is_cut s
  unfolding is_cut
  cut_not l = rw (le-ltb (length s) 2 (omega arith), ne_eqb (length s) 2 (λ z. omega (arith, z))) (go (leb 128 (get_or s 0 0)))
    where
      go : (t : Bool) → false ≡ (t && false)
      go true = refl
      go false = refl

-- ---- 44

-- octet 2 has every field as it is named exactly where it is 19 or 23
second_named : (c : ℕ)
    → (eqb (c / 128) 0 && (eqb (c / 16 % 8) 1 && ((eqb (c / 4 % 4) 0 || eqb (c / 4 % 4) 1) && eqb (c % 4) 3))) ≡ (eqb c 19 || eqb c 23)
second_named c = by_complete (eqb (c / 128) 0) refl
  where
    -- presentation p is 0 or 1
    by_screening : (p : ℕ) (t : Bool) → c / 4 ≡ 4 + p → eqb (c % 4) 3 ≡ t → eqb (c % 4) 3 ≡ eqb c (19 + 4 * p)
    by_screening p true a q = let y : c % 4 ≡ 3 = eqb-true (c % 4) 3 q in rw (q, eq-eqb c (19 + 4 * p) (omega arith))
    by_screening p false a q = let y : c % 4 ≡ 3 → ⊥ = eqb-false (c % 4) 3 q in rw (q, ne_eqb c (19 + 4 * p) (λ x. y (omega arith)))

    by_presentation : (t u : Bool) → c / 16 ≡ 1 → eqb (c / 4 % 4) 0 ≡ t → eqb (c / 4 % 4) 1 ≡ u
        → ((eqb (c / 4 % 4) 0 || eqb (c / 4 % 4) 1) && eqb (c % 4) 3) ≡ (eqb c 19 || eqb c 23)
    by_presentation true u a p q =
        let z : c / 4 % 4 ≡ 0 = eqb-true (c / 4 % 4) 0 p in
        let y : c / 4 ≡ 4 + 0 = omega arith in
        rw (p, ne_eqb c 23 (λ x. omega arith)) (by_screening 0 (eqb (c % 4) 3) y refl ∙ sym (or-false (eqb c 19)))
    by_presentation false true a p q =
        let z : c / 4 % 4 ≡ 1 = eqb-true (c / 4 % 4) 1 q in
        let y : c / 4 ≡ 4 + 1 = omega arith in
        rw (p, q, ne_eqb c 19 (λ x. omega arith)) (by_screening 1 (eqb (c % 4) 3) y refl)
    by_presentation false false a p q =
        let y : c / 4 % 4 ≡ 0 → ⊥ = eqb-false (c / 4 % 4) 0 p in
        let z : c / 4 % 4 ≡ 1 → ⊥ = eqb-false (c / 4 % 4) 1 q in
        rw (p, q, ne_eqb c 19 (λ x. y (omega arith)), ne_eqb c 23 (λ x. z (omega arith)))

    by_plan : (t : Bool) → c / 128 ≡ 0 → eqb (c / 16 % 8) 1 ≡ t
        → (eqb (c / 16 % 8) 1 && ((eqb (c / 4 % 4) 0 || eqb (c / 4 % 4) 1) && eqb (c % 4) 3)) ≡ (eqb c 19 || eqb c 23)
    by_plan true a p =
        let z : c / 16 % 8 ≡ 1 = eqb-true (c / 16 % 8) 1 p in
        rw p (by_presentation (eqb (c / 4 % 4) 0) (eqb (c / 4 % 4) 1) (omega arith) refl refl)
    by_plan false a p =
        let y : c / 16 % 8 ≡ 1 → ⊥ = eqb-false (c / 16 % 8) 1 p in
        rw (p, ne_eqb c 19 (λ x. y (omega arith)), ne_eqb c 23 (λ x. y (omega arith)))

    by_complete : (t : Bool) → eqb (c / 128) 0 ≡ t
        → (eqb (c / 128) 0 && (eqb (c / 16 % 8) 1 && ((eqb (c / 4 % 4) 0 || eqb (c / 4 % 4) 1) && eqb (c % 4) 3))) ≡ (eqb c 19 || eqb c 23)
    by_complete true p = rw p (by_plan (eqb (c / 16 % 8) 1) (eqb-true (c / 128) 0 p) refl)
    by_complete false p =
        let y : c / 128 ≡ 0 → ⊥ = eqb-false (c / 128) 0 p in
        rw (p, ne_eqb c 19 (λ x. y (omega arith)), ne_eqb c 23 (λ x. y (omega arith)))

named_is : (s : List ℕ)
    → is_named (fields_of s) ≡ ((eqb (get_or s 0 0 % 128) 3 || eqb (get_or s 0 0 % 128) 4) && (eqb (get_or s 1 0) 19 || eqb (get_or s 1 0) 23))
unfolding is_named fields_of
named_is s = rw (second_named (get_or s 1 0))

-- what `?` returns
pub not_ok : {T E : Type 0} (r : Result T E) → IsErr r → is_ok r ≡ false
not_ok (Ok x) h = absurd (false≢true h)
not_ok (Err e) h = refl

module _ (s : List ℕ) where
  pub nature_other : {n : ℕ} → n ≡ get_or s 0 0 % 128 → (n ≡ 3 → ⊥) → (n ≡ 4 → ⊥) → false ≡ is_named (fields_of s)
  nature_other {n} e x y = rw (named_is s, ← e, ne_eqb n 3 x, ne_eqb n 4 y)

  nature_good : (x : Nature) → get_or s 0 0 % 128 ≡ nature_number x → (eqb (get_or s 0 0 % 128) 3 || eqb (get_or s 0 0 % 128) 4) ≡ true
  nature_good National e = rw e
  nature_good International e = rw e

  pub octet_other : (x : Nature) → get_or s 0 0 % 128 ≡ nature_number x → (get_or s 1 0 ≡ 19 → ⊥) → (get_or s 1 0 ≡ 23 → ⊥) → false ≡ is_named (fields_of s)
  octet_other x e p q = rw (named_is s, nature_good x e, ne_eqb (get_or s 1 0) 19 p, ne_eqb (get_or s 1 0) 23 q)

  pub both_named : (x : Nature) → get_or s 0 0 % 128 ≡ nature_number x → (y : Presentation) → get_or s 1 0 ≡ presentation_octet y → true ≡ is_named (fields_of s)
  both_named x e Allowed f = rw (named_is s, nature_good x e, f)
  both_named x e Restricted f = rw (named_is s, nature_good x e, f)

-- presentation is 1 in the one of the two octets
shown_or_not : (s : List ℕ) → is_named (fields_of s) ≡ true → eqb (get_or s 1 0) 23 ≡ eqb (fields_of s).presentation 1
unfolding fields_of
shown_or_not s n =
    let b = and_right (eqb (get_or s 0 0 % 128) 3 || eqb (get_or s 0 0 % 128) 4) (eqb (get_or s 1 0) 19 || eqb (get_or s 1 0) 23) (sym (named_is s) ∙ n) in
    go (eqb (get_or s 1 0) 19) (eqb (get_or s 1 0) 23) refl refl b
  where
    go : (t u : Bool) → eqb (get_or s 1 0) 19 ≡ t → eqb (get_or s 1 0) 23 ≡ u → (eqb (get_or s 1 0) 19 || eqb (get_or s 1 0) 23) ≡ true
        → eqb (get_or s 1 0) 23 ≡ eqb (get_or s 1 0 / 4 % 4) 1
    go true u p q b = rw (eqb-true (get_or s 1 0) 19 p)
    go false true p q b = rw (eqb-true (get_or s 1 0) 23 q)
    go false false p q b = let z : false ≡ true = rw (p, q) at b in absurd (false≢true z)

-- ---- 45

module _ (s : List ℕ) where
  pub filled_even : get_or s 0 0 < 128 → true ≡ filler_is_zero s
  unfolding filler_is_zero
  filled_even h = rw (lt-leb 128 (get_or s 0 0) h)

  pub filled_odd : 128 ≤ get_or s 0 0 → ltb (get_or s (length s - 1) 0) 16 ≡ filler_is_zero s
  unfolding filler_is_zero
  filled_odd h = rw (le-leb 128 (get_or s 0 0) h) (go (get_or s (length s - 1) 0))
    where
      go : (x : ℕ) → ltb x 16 ≡ eqb (x / 16) 0
      go x = by (leb 16 x) refl
        where
          by : (t : Bool) → leb 16 x ≡ t → ltb x 16 ≡ eqb (x / 16) 0
          by true p = let l : 16 ≤ x = leb-true 16 x p in rw (le-ltb x 16 l) (sym (ne_eqb (x / 16) 0 (λ y. omega arith)))
          by false p = let l : x < 16 = leb-false 16 x p in rw (lt-ltb x 16 l) (sym (eq-eqb (x / 16) 0 (omega arith)))

-- ---- 46

module _ (b : ℕ) where
  pub low_code : b % 16 ≤ 9 → leb (b / 16) 9 ≡ is_pair b
  unfolding is_pair
  low_code h = rw (le-leb (b % 16) 9 h)

  pub low_other : 9 < b % 16 → leb (b % 16) 9 ≡ is_pair b
  unfolding is_pair
  low_other h = rw (lt-leb (b % 16) 9 h)

-- std's word for it
pub all_listed : (p : ℕ → Bool) (s : List ℕ) → list_all p s ≡ all p s
unfolding all
all_listed p [] = refl
all_listed p (b ∷ s) = ap (λ (t : Bool). p b && t) (all_listed p s)

pub long_enough : (s : List ℕ) → is_cut s ≡ false → 2 ≤ length s
unfolding is_cut
long_enough s k = go (ltb (length s) 2) refl k
  where
    go : (t : Bool) → ltb (length s) 2 ≡ t → (t || (is_odd s && eqb (length s) 2)) ≡ false → 2 ≤ length s
    go true p e = absurd (false≢true (sym e))
    go false p e = ltb-false (length s) 2 p

-- an odd number of signals has an address octet
pub odd_longer : (s : List ℕ) → is_cut s ≡ false → is_odd s ≡ true → 3 ≤ length s
unfolding is_cut
odd_longer s k o = go (eqb (length s) 2) refl
  where
    go : (t : Bool) → eqb (length s) 2 ≡ t → 3 ≤ length s
    go true p = let z : 2 ≤ length s = long_enough s k in
        let y : (ltb (length s) 2 || true) ≡ false = rw (o, p) at k in
        let x : true ≡ false = rw (le-ltb (length s) 2 z) at y in
        absurd (false≢true (sym x))
    go false p = let z : length s ≡ 2 → ⊥ = eqb-false (length s) 2 p in omega (arith, long_enough s k)

drop_at_2 : (s : List ℕ) (n : ℕ) → get_or (drop 2 s) n 0 ≡ get_or s (2 + n) 0
drop_at_2 [] n = refl
drop_at_2 (a ∷ []) n = let z : 2 + n ≡ suc (suc n) = omega arith in rw z
drop_at_2 (a ∷ b ∷ s) n = let z : 2 + n ≡ suc (suc n) = omega arith in rw z

-- the last octet is an address octet, where there is one
pub last_octet : (s : List ℕ) → 3 ≤ length s → get_or (drop 2 s) (length (drop 2 s) - 1) 0 / 16 ≡ filler s
last_octet s l =
    let z : 2 + (length (drop 2 s) - 1) ≡ length s - 1 = omega (arith, length-drop 2 s) in
    rw (drop_at_2 s (length (drop 2 s) - 1), z)

-- every half is a digit code exactly where every signal is
pairs_signals : (s : List ℕ) → is_cut s ≡ false → filler_is_zero s ≡ true → all is_pair (drop 2 s) ≡ all is_digit_code (fields_of s).address_signals
unfolding filler_is_zero fields_of
pairs_signals s k f = go (is_odd s) refl f
  where
    go : (t : Bool) → is_odd s ≡ t → (not t || eqb (filler s) 0) ≡ true → all is_pair (drop 2 s) ≡ all is_digit_code (signals (signal_count s) (drop 2 s))
    go false o f = rw o (pairs_even (2 * (length s - 2) - 0) (drop 2 s) (omega (arith, length-drop 2 s)))
    go true o f =
        let l : 3 ≤ length s = odd_longer s k o in
        rw o (pairs_odd (2 * (length s - 2) - 1) (drop 2 s) (omega (arith, length-drop 2 s)) (last_octet s l ∙ eqb-true (filler s) 0 f))

-- ---- the digits that come back

module _ (bs : List ℕ) (i : ℕ) where
  pub low_half : i % 2 ≡ 0 → 48 + get_or bs (i / 2) 0 % 16 ≡ digit_at bs i
  unfolding digit_at
  low_half h = rw h

  pub high_half : (i % 2 ≡ 0 → ⊥) → 48 + get_or bs (i / 2) 0 / 16 ≡ digit_at bs i
  unfolding digit_at
  high_half h = rw (ne_eqb (i % 2) 0 h)

pub digits_next : (i : ℕ) (bs : List ℕ) → i < 2 * length bs → digits (i + 1) bs ≡ digits i bs ++ digit_at bs i ∷ []
unfolding signals digit_at
digits_next zero [] h = absurd (omega arith)
digits_next zero (b ∷ bs) h = refl
digits_next (suc zero) [] h = absurd (omega arith)
digits_next (suc zero) (b ∷ bs) h = refl
digits_next (suc (suc i)) [] h = absurd (omega arith)
digits_next (suc (suc i)) (b ∷ bs) h =
    let y : suc (suc i) % 2 ≡ i % 2 = omega arith in
    let z : suc (suc i) / 2 ≡ suc (i / 2) = omega arith in
    let x : suc (suc i) + 1 ≡ suc (suc (i + 1)) = omega arith in
    rw (x, y, z, digits_next i bs (omega arith))

-- the number so far, and one digit more
module _ (prefix s : List ℕ) (i : ℕ) {items : List ℕ} (e : items ≡ 43 ∷ (prefix ++ digits i s)) where
  pub number_room : {n : ℕ} → i < n → n ≤ 2 * length s → 1 + length prefix + n ≤ 16 → length items < 16
  number_room l m h = omega (arith, ap length e, length-append prefix (digits i s), digits_length i s (omega arith))

  pub number_next : i < 2 * length s → {d : ℕ} → d ≡ digit_at s i → {others : List ℕ} → others ≡ items ++ d ∷ []
      → others ≡ 43 ∷ (prefix ++ digits (i + 1) s)
  number_next l q f = f ∙ rw (e, q, digits_next i s l, append_assoc prefix (digits i s) (digit_at s i ∷ []))

pub number_begin : (prefix : List ℕ) {a b c : List ℕ} → a ≡ [] → b ≡ a ++ 43 ∷ [] → c ≡ b ++ prefix → c ≡ 43 ∷ (prefix ++ [])
number_begin prefix p q r = r ∙ rw (q, p, append-nil)

-- ---- the caller

pub prefix_same : (x : Nature) (code s : List ℕ) → nature_number x ≡ (fields_of s).nature_of_address
    → cond (is_national_nature x) code [] ≡ cond (eqb (fields_of s).nature_of_address 3) code []
prefix_same National code s e = rw (← e)
prefix_same International code s e = rw (← e)

module _ (s : List ℕ) (k : is_cut s ≡ false) where
  pub count_some : 128 ≤ get_or s 0 0 → 1 ≤ 2 * (length s - 2)
  count_some h = omega (arith, odd_longer s k (le-leb 128 (get_or s 0 0) h))

pub number_47 : (i : Bool) (number : List ℕ) {t : Bool} → t ≡ is_global number → t ≡ false → no_caller 47 ≡ caller_for i number
unfolding caller_for
number_47 i number e q = rw (← e, q)

pub number_good : (i : Bool) (number : List ℕ) {t : Bool} → t ≡ is_global number → t ≡ true → caller_with i number ≡ caller_for i number
unfolding caller_for
number_good i number e q = rw (← e, q)

number_too_long : (m : List ℕ) → 16 < length m → is_global m ≡ false
number_too_long m h = go (is_global m) refl
  where
    go : (t : Bool) → is_global m ≡ t → is_global m ≡ false
    go true p = absurd (omega (arith, (global_plus m p).few, length-drop 1 m))
    go false p = p

module _ (i : Bool) (code s : List ℕ) (k : is_cut s ≡ false) where
  abbrev pre : List ℕ
  pre = cond (eqb (fields_of s).nature_of_address 3) code []

  count_most : signal_count s ≤ 2 * length (drop 2 s)
  count_most = omega (arith, length-drop 2 s)

  number_length : length (number_from code (fields_of s)) ≡ 1 + length pre + signal_count s
  unfolding number_from fields_of
  number_length = omega (arith, length-append pre (digits (signal_count s) (drop 2 s)), digits_length (signal_count s) (drop 2 s) count_most)

  too_long : 16 < length (number_from code (fields_of s)) → no_caller 47 ≡ caller_for i (number_from code (fields_of s))
  unfolding caller_for
  too_long h = rw (number_too_long (number_from code (fields_of s)) h)

  pub far_47 : 10 < length s → no_caller 47 ≡ caller_for i (number_from code (fields_of s))
  far_47 h = too_long (omega (arith, number_length, bit_most (is_odd s)))

  module _ (x : Nature) (same_nature : nature_number x ≡ (fields_of s).nature_of_address) {p : List ℕ} (e : p ≡ cond (is_national_nature x) code [])
      {n : ℕ} (f : n ≡ signal_count s) where
    prefix_is : p ≡ pre
    prefix_is = e ∙ prefix_same x code s same_nature

    pub total_47 : 16 < 1 + length p + n → no_caller 47 ≡ caller_for i (number_from code (fields_of s))
    total_47 h = too_long (omega (arith, number_length, ap length prefix_is))

    pub caller_is : {bs : List ℕ} → bs ≡ drop 2 s → {a : List ℕ} → a ≡ 43 ∷ (p ++ digits n bs) → {r : Caller} → r ≡ caller_for i a
        → r ≡ caller_for i (number_from code (fields_of s))
    unfolding number_from fields_of
    caller_is b g q = q ∙ rw (g, b, prefix_is, f)

-- ---- the tests, in their order

module _ (code s : List ℕ) {a : Bool} (ea : a ≡ is_code code) where
  pub decode_41 : a ≡ false → no_caller 41 ≡ decoded code s
  unfolding decoded
  decode_41 q = rw (← ea, q)

  module _ (qa : a ≡ true) where
    pub code_good : is_code code ≡ true
    code_good = sym ea ∙ qa

    module _ {b : Bool} (eb : b ≡ is_cut s) where
      pub decode_43 : b ≡ true → no_caller 43 ≡ decoded code s
      unfolding decoded
      decode_43 q = rw (code_good, ← eb, q)

      module _ (qb : b ≡ false) where
        pub not_cut : is_cut s ≡ false
        not_cut = sym eb ∙ qb

        pub decode_44 : false ≡ is_named (fields_of s) → no_caller 44 ≡ decoded code s
        unfolding decoded
        decode_44 q = rw (code_good, not_cut, ← q)

        pub decode_refused : (r : Result Found NoCaller) (e : NoCaller) → r ≡ Err e → e ≡ Field → false ≡ is_named (fields_of s)
            → caller_in r ≡ decoded code s
        decode_refused r e x y q = rw (x, y) (decode_44 q)

        module _ (ec : true ≡ is_named (fields_of s)) {d : Bool} (ed : d ≡ filler_is_zero s) where
          pub decode_45 : d ≡ false → no_caller 45 ≡ decoded code s
          unfolding decoded
          decode_45 q = rw (code_good, not_cut, ← ec, ← ed, q)

          module _ (qd : d ≡ true) {bs : List ℕ} (h : bs ≡ drop 2 s) {e : Bool} (ee : e ≡ list_all is_pair bs) where
            filled : filler_is_zero s ≡ true
            filled = sym ed ∙ qd

            codes : e ≡ all is_digit_code (fields_of s).address_signals
            codes = ee ∙ all_listed is_pair bs ∙ ap (all is_pair) h ∙ pairs_signals s not_cut filled

            pub decode_46 : e ≡ false → no_caller 46 ≡ decoded code s
            unfolding decoded
            decode_46 q = rw (code_good, not_cut, ← ec, filled, ← codes, q)

            pub decode_is : e ≡ true → {n : ℕ} → n ≡ get_or s 1 0 → {i : Bool} → i ≡ eqb n 23 → {r : Caller}
                → r ≡ caller_for i (number_from code (fields_of s)) → r ≡ decoded code s
            unfolding decoded
            decode_is q y z f = rw (code_good, not_cut, ← ec, filled, ← codes, q, ← shown_or_not s (sym ec), ← y, ← z) f
