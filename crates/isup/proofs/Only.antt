-- Octets that are taken are those that are produced: their fields are those of the number that they give, and octets are those of their fields.
use mathlib.Core.Path.{◌≡◌, refl, sym, ap, ◌∙◌}
use mathlib.Core.Bool.{Bool, true, false, not, cond, ◌&&◌, ◌||◌}
use mathlib.Core.List.{List, [], ◌∷◌, ◌++◌, map}
use Prim.Native.Nat.{ℕ, ◌+◌, ◌-◌, ◌*◌, ◌/◌, ◌%◌, ◌≤◌, ◌<◌}
use native.Mathlib.Omega.{arith}
use lib.Dec.{leb, eqb}
use lib.ListN.{length, drop, get_or, length-drop}
use lib.Seq.{drop-append_seam}
use borrow.Author.Tests.{leb-true, leb-false, ltb-true, eqb-true}
use Rattle.octets.specs.Classes.{bit}
use Rattle.octets.specs.Scans.{all}
use Rattle.sip.specs.Values.{is_global}
use Rattle.sip.proofs.Tests.{never, and_left, and_right, all_first}
use Rattle.isup.specs.Fields.{Fields, packed, octets, is_odd, signal_count, signals, fields_of, filler, filler_is_zero}
use Rattle.isup.specs.Forward.{is_code, is_national, sent, fields_for, encoded}
use Rattle.isup.specs.Backward.{is_cut, is_named, is_digit_code, digit, number_from, caller_with, caller_for, decoded}
use Rattle.isup.specs.Promises.{is_byte, OnlyProduced}
use Rattle.isup.proofs.Codes.{started}
use Rattle.isup.proofs.Signals.{codes_again, signals_length, packed_even, packed_odd}
use Rattle.isup.proofs.Decoding.{long_enough, odd_longer, last_octet}

-- ---- octets are those of their fields

first_again : (b : ℕ) → b < 256 → 128 * bit (leb 128 b) + b % 128 ≡ b
first_again b l = go (leb 128 b) refl
  where
    go : (t : Bool) → leb 128 b ≡ t → 128 * bit t + b % 128 ≡ b
    go true p = let h : 128 ≤ b = leb-true 128 b p in omega arith
    go false p = let h : b < 128 = leb-false 128 b p in omega arith

second_again : (c : ℕ) → 128 * (c / 128) + 16 * (c / 16 % 8) + 4 * (c / 4 % 4) + c % 4 ≡ c
second_again c =
    let x : c / 16 ≡ 8 * (c / 128) + c / 16 % 8 = omega arith in
    let y : c / 4 ≡ 4 * (c / 16) + c / 4 % 4 = omega arith in
    omega arith

bit_parity : (n : ℕ) (t : Bool) → bit t ≤ 2 * n → (2 * n - bit t) % 2 ≡ bit t
bit_parity n true h = omega arith
bit_parity n false h = omega arith

module _ (s : List ℕ) (b : all is_byte s ≡ true) (k : is_cut s ≡ false) (f : filler_is_zero s ≡ true) where
  enough : bit (is_odd s) ≤ 2 * (length s - 2)
  enough = go (is_odd s) refl
    where
      go : (t : Bool) → is_odd s ≡ t → bit t ≤ 2 * (length s - 2)
      go true o = omega (arith, odd_longer s k o)
      go false o = omega arith

  count : length (signals (signal_count s) (drop 2 s)) ≡ signal_count s
  count = signals_length (signal_count s) (drop 2 s) (omega (arith, length-drop 2 s))

  packed_again : packed (signals (signal_count s) (drop 2 s)) ≡ drop 2 s
  unfolding filler_is_zero
  packed_again = go (is_odd s) refl f
    where
      go : (t : Bool) → is_odd s ≡ t → (not t || eqb (filler s) 0) ≡ true → packed (signals (signal_count s) (drop 2 s)) ≡ drop 2 s
      go false o f = rw o (packed_even (2 * (length s - 2) - 0) (drop 2 s) (omega (arith, length-drop 2 s)))
      go true o f =
          let l : 3 ≤ length s = odd_longer s k o in
          rw o
          (packed_odd (2 * (length s - 2) - 1) (drop 2 s) (omega (arith, length-drop 2 s)) (last_octet s l ∙ eqb-true (filler s) 0 f))

  two : 2 ≤ length s → s ≡ get_or s 0 0 ∷ get_or s 1 0 ∷ drop 2 s
  two l = go s l
    where
      go : (s : List ℕ) → 2 ≤ length s → s ≡ get_or s 0 0 ∷ get_or s 1 0 ∷ drop 2 s
      go [] l = absurd (omega arith)
      go (a ∷ []) l = absurd (omega arith)
      go (a ∷ c ∷ s) l = refl

  first_byte : (s : List ℕ) → all is_byte s ≡ true → get_or s 0 0 < 256
  first_byte [] e = omega arith
  first_byte (a ∷ s) e = ltb-true a 256 (all_first is_byte a s e)

  octets_again : octets (fields_of s) ≡ s
  unfolding octets fields_of
  octets_again =
      let p : signal_count s % 2 ≡ bit (is_odd s) = bit_parity (length s - 2) (is_odd s) enough in
      rw (count, p, first_again (get_or s 0 0) (first_byte s b), second_again (get_or s 1 0), packed_again)
      (sym (two (long_enough s k)))

-- ---- the fields are those of the number

nature_is : (n : ℕ) → (eqb n 3 || eqb n 4) ≡ true → n ≡ cond (eqb n 3) 3 4
nature_is n e = go (eqb n 3) (eqb n 4) refl refl e
  where
    go : (t u : Bool) → eqb n 3 ≡ t → eqb n 4 ≡ u → (t || u) ≡ true → n ≡ cond t 3 4
    go true u p q e = eqb-true n 3 p
    go false true p q e = eqb-true n 4 q
    go false false p q e = never (cc)

presentation_is : (n : ℕ) → (eqb n 0 || eqb n 1) ≡ true → n ≡ bit (eqb n 1)
presentation_is n e = go (eqb n 0) (eqb n 1) refl refl e
  where
    go : (t u : Bool) → eqb n 0 ≡ t → eqb n 1 ≡ u → (t || u) ≡ true → n ≡ bit u
    go t true p q e = eqb-true n 1 q
    go true false p q e = eqb-true n 0 p
    go false false p q e = never (cc)

module _ (code ds : List ℕ) where
  national_is : (home : Bool) → is_national code home (cond home code [] ++ ds) ≡ home
  unfolding is_national
  national_is true = started code ds
  national_is false = refl

  sent_is : (home : Bool) → sent code home (cond home code [] ++ ds) ≡ ds
  unfolding sent
  sent_is true = drop-append_seam code ds
  sent_is false = refl

-- fields that are as named
fields_of_number : (code : List ℕ) (f : Fields) → is_named f ≡ true
    → fields_for code (eqb f.nature_of_address 3) (eqb f.presentation 1) (number_from code f) ≡ f
unfolding is_named number_from fields_for
fields_of_number code f e =
    let home : Bool = eqb f.nature_of_address 3 in
    let shown : Bool = eqb f.presentation 0 || eqb f.presentation 1 in
    let ds : List ℕ = map digit f.address_signals in
    let c3 : Bool = shown && eqb f.screening 3 in
    let c2 : Bool = eqb f.numbering_plan 1 && c3 in
    let c1 : Bool = eqb f.number_incomplete 0 && c2 in
    let n = and_left (eqb f.nature_of_address 3 || eqb f.nature_of_address 4) c1 e in
    let e1 = and_right (eqb f.nature_of_address 3 || eqb f.nature_of_address 4) c1 e in
    let e2 = and_right (eqb f.number_incomplete 0) c2 e1 in
    let e3 = and_right (eqb f.numbering_plan 1) c3 e2 in
    let i0 : f.number_incomplete ≡ 0 = eqb-true f.number_incomplete 0 (and_left (eqb f.number_incomplete 0) c2 e1) in
    let i1 : f.numbering_plan ≡ 1 = eqb-true f.numbering_plan 1 (and_left (eqb f.numbering_plan 1) c3 e2) in
    let i3 : f.screening ≡ 3 = eqb-true f.screening 3 (and_right shown (eqb f.screening 3) e3) in
    rw (
      national_is code ds home,
      sent_is code ds home,
      codes_again f.address_signals,
      ← nature_is f.nature_of_address n,
      ← presentation_is f.presentation (and_left shown (eqb f.screening 3) e3),
      ← i0,
      ← i1,
      ← i3,
    )

-- ---- what is taken

record Taken (code s : List ℕ) : Type 0 where
  pub known_code : is_code code ≡ true
  pub not_cut : is_cut s ≡ false
  pub named : is_named (fields_of s) ≡ true
  pub filled : filler_is_zero s ≡ true
  pub codes : all is_digit_code (fields_of s).address_signals ≡ true
  pub global : is_global (number_from code (fields_of s)) ≡ true

taken : (code s : List ℕ) → (decoded code s).refusal ≡ 0 → Taken code s
unfolding decoded caller_for
taken code s e =
    go (is_code code) (is_cut s) (is_named (fields_of s)) (filler_is_zero s) (all is_digit_code (fields_of s).address_signals)
    (is_global (number_from code (fields_of s))) refl refl refl refl refl refl e
  where
    go : (c k n f d g : Bool) → is_code code ≡ c → is_cut s ≡ k → is_named (fields_of s) ≡ n → filler_is_zero s ≡ f
        → all is_digit_code (fields_of s).address_signals ≡ d → is_global (number_from code (fields_of s)) ≡ g → (decoded code s).refusal ≡ 0 → Taken code s
    go true false true true true true pc pk pn pf pd pg e =
        record { known_code = pc; not_cut = pk; named = pn; filled = pf; codes = pd; global = pg }
    go false k n f d g pc pk pn pf pd pg e = let z : ◌≡◌ {A = ℕ} 41 0 = rw pc at e in absurd (omega arith)
    go true true n f d g pc pk pn pf pd pg e = let z : ◌≡◌ {A = ℕ} 43 0 = rw (pc, pk) at e in absurd (omega arith)
    go true false false f d g pc pk pn pf pd pg e = let z : ◌≡◌ {A = ℕ} 44 0 = rw (pc, pk, pn) at e in absurd (omega arith)
    go true false true false d g pc pk pn pf pd pg e = let z : ◌≡◌ {A = ℕ} 45 0 = rw (pc, pk, pn, pf) at e in absurd (omega arith)
    go true false true true false g pc pk pn pf pd pg e = let z : ◌≡◌ {A = ℕ} 46 0 = rw (pc, pk, pn, pf, pd) at e in absurd (omega arith)
    go true false true true true false pc pk pn pf pd pg e = let z : ◌≡◌ {A = ℕ} 47 0 = rw (pc, pk, pn, pf, pd, pg) at e in absurd (omega arith)

taken_caller : (code s : List ℕ) → Taken code s → decoded code s ≡ caller_with (eqb (fields_of s).presentation 1) (number_from code (fields_of s))
unfolding decoded caller_for
taken_caller code s t = rw (t.known_code, t.not_cut, t.named, t.filled, t.codes, t.global)

pub only_produced : OnlyProduced
unfolding encoded
only_produced code s b e =
    let t = taken code s e in
    record {
      home = eqb (fields_of s).nature_of_address 3;
      restricted = eqb (fields_of s).presentation 1;
      number = number_from code (fields_of s);
      known_code = t.known_code;
      is_number = t.global;
      is_caller = taken_caller code s t;
      made = ap octets (fields_of_number code (fields_of s) t.named) ∙ octets_again s b t.not_cut t.filled;
    }
