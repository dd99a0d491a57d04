-- There and back: the fields are read as they were written, every test of the way back holds of them, and the digits are the same again.
use mathlib.Core.Path.{◌≡◌, refl, sym}
use mathlib.Core.Bool.{Bool, true, false, not, cond, ◌&&◌, ◌||◌}
use mathlib.Core.List.{List, ◌∷◌, ◌++◌, map}
use Prim.Native.Nat.{ℕ, ◌+◌, ◌*◌, ◌/◌, ◌%◌, ◌<◌}
use native.Mathlib.Omega.{arith}
use lib.Dec.{leb, eqb}
use lib.ListN.{length, drop}
use lib.Seq.{drop-append_seam}
use borrow.Author.Tests.{le-leb, lt-leb, le-ltb, eq-eqb, ne_eqb, eqb-true, eqb-false}
use Rattle.octets.specs.Classes.{bit, is_digit}
use Rattle.octets.specs.Scans.{all}
use Rattle.sip.specs.Values.{is_global}
use Rattle.isup.specs.Fields.{Fields, packed, octets, is_odd, signal_count, signals, fields_of, filler, filler_is_zero}
use Rattle.isup.specs.Forward.{is_code, is_national, sent, signal, fields_for, encoded}
use Rattle.isup.specs.Backward.{is_cut, is_named, is_digit_code, number_from, caller_with, caller_for, decoded}
use Rattle.isup.specs.Promises.{InRange, FieldsRead, FieldsWritten, National, International, ThereAndBack}
use Rattle.isup.proofs.Codes.{started}
use Rattle.isup.proofs.Numbers.{global_plus, sent_digits, code_back}
use Rattle.isup.proofs.Signals.{bit_most, codes_of, codes_signals, digits_again, packed_length, signals_packed, packed_last}

-- ---- the fields of octets

odd_bit : (n k : ℕ) → k < 128 → n < 2 → leb 128 (128 * n + k) ≡ eqb n 1
odd_bit n k l h = go (eqb n 1) refl
  where
    go : (t : Bool) → eqb n 1 ≡ t → leb 128 (128 * n + k) ≡ eqb n 1
    go true p = let z : n ≡ 1 = eqb-true n 1 p in rw (p, le-leb 128 (128 * n + k) (omega arith))
    go false p = let z : n ≡ 1 → ⊥ = eqb-false n 1 p in let y : n ≡ 0 = omega arith in rw (p, lt-leb 128 (128 * n + k) (omega arith))

bit_of : (n : ℕ) → n < 2 → bit (eqb n 1) ≡ n
bit_of n h = go (eqb n 1) refl
  where
    go : (t : Bool) → eqb n 1 ≡ t → bit t ≡ n
    go true p = sym (eqb-true n 1 p)
    go false p = let z : n ≡ 1 → ⊥ = eqb-false n 1 p in omega arith

module _ (f : Fields) (r : InRange f) where
  abbrev cs : List ℕ
  cs = f.address_signals

  parity : length cs % 2 < 2
  parity = omega arith

  odd_read : is_odd (octets f) ≡ eqb (length f.address_signals % 2) 1
  unfolding octets
  odd_read = odd_bit (length cs % 2) f.nature_of_address r.nature parity

  counted : signal_count (octets f) ≡ length cs
  unfolding octets
  counted =
      rw (odd_bit (length cs % 2) f.nature_of_address r.nature parity, bit_of (length cs % 2) parity)
      (omega (arith, packed_length cs))

  signals_read : signals (signal_count (octets f)) (packed cs) ≡ cs
  signals_read = rw counted (signals_packed cs r.signals)

  first_read : (128 * (length cs % 2) + f.nature_of_address) % 128 ≡ f.nature_of_address
  first_read = omega (arith, r.nature)

  abbrev second : ℕ
  second = 128 * f.number_incomplete + 16 * f.numbering_plan + 4 * f.presentation + f.screening

  incomplete_read : second / 128 ≡ f.number_incomplete
  incomplete_read = omega (arith, r.plan, r.presented, r.screened_as)

  plan_read : second / 16 % 8 ≡ f.numbering_plan
  plan_read =
      let z : second / 16 ≡ 8 * f.number_incomplete + f.numbering_plan = omega (arith, r.presented, r.screened_as) in
      rw z (omega (arith, r.plan))

  presentation_read : second / 4 % 4 ≡ f.presentation
  presentation_read =
      let z : second / 4 ≡ 32 * f.number_incomplete + 4 * f.numbering_plan + f.presentation = omega (arith, r.screened_as) in
      rw z (omega (arith, r.presented))

  screening_read : second % 4 ≡ f.screening
  screening_read = omega (arith, r.screened_as)

  fields_read : fields_of (octets f) ≡ f
  unfolding fields_of octets
  fields_read = rw (first_read, incomplete_read, plan_read, presentation_read, screening_read, signals_read)

  filler_zero : (t : Bool) → eqb (length cs % 2) 1 ≡ t → (not t || eqb (filler (octets f)) 0) ≡ true
  unfolding octets
  filler_zero true e = eq-eqb (filler (octets f)) 0 (packed_last _ _ cs r.signals (eqb-true (length cs % 2) 1 e))
  filler_zero false e = refl

  filler_read : filler_is_zero (octets f) ≡ true
  unfolding filler_is_zero
  filler_read = rw odd_read (filler_zero (eqb (length cs % 2) 1) refl)

  not_cut : is_cut (octets f) ≡ false
  unfolding is_cut octets
  not_cut = rw (le-ltb (length (octets f)) 2 (omega arith), odd_read) (go (eqb (length cs % 2) 1) refl)
    where
      go : (t : Bool) → eqb (length cs % 2) 1 ≡ t → (t && eqb (length (octets f)) 2) ≡ false
      go true e = ne_eqb (length (octets f)) 2 (λ z. omega (arith, packed_length cs, eqb-true (length cs % 2) 1 e))
      go false e = refl

pub all_fields_read : FieldsRead
all_fields_read f r = record { fields = fields_read f r; odd = odd_read f r; filled = filler_read f r }

-- ---- there and back

module _ (code : List ℕ) (home restricted : Bool) (number : List ℕ) (g : is_global number ≡ true) where
  abbrev national : Bool
  national = is_national code home (drop 1 number)

  abbrev ds : List ℕ
  ds = sent code (is_national code home (drop 1 number)) (drop 1 number)

  are_digits : all is_digit ds ≡ true
  are_digits = sent_digits code national (drop 1 number) (global_plus number g).digits

  nature_small : (t : Bool) → cond t 3 4 < 128
  nature_small true = omega arith
  nature_small false = omega arith

  in_range : InRange (fields_for code home restricted number)
  unfolding fields_for
  in_range =
      record {
        nature = nature_small national;
        incomplete = omega arith;
        plan = omega arith;
        presented = omega (arith, bit_most restricted);
        screened_as = omega arith;
        signals = codes_signals (map signal ds) (codes_of ds are_digits);
      }

  fields_written : fields_of (encoded code home restricted number) ≡ fields_for code home restricted number
  unfolding encoded
  fields_written = fields_read (fields_for code home restricted number) in_range

  named : (t u : Bool) → ((eqb (cond t 3 4) 3 || eqb (cond t 3 4) 4) && (true && (true && ((eqb (bit u) 0 || eqb (bit u) 1) && true)))) ≡ true
  named true true = refl
  named true false = refl
  named false true = refl
  named false false = refl

  is_named_lem : is_named (fields_for code home restricted number) ≡ true
  unfolding is_named fields_for
  is_named_lem = named national restricted

  nature_back : (t : Bool) → eqb (cond t 3 4) 3 ≡ t
  nature_back true = refl
  nature_back false = refl

  number_back : number_from code (fields_for code home restricted number) ≡ number
  unfolding number_from fields_for
  number_back =
      rw (nature_back national, digits_again ds are_digits, code_back code home (drop 1 number) national refl)
      (global_plus number g).plus

  presented_back : (t : Bool) → eqb (bit t) 1 ≡ t
  presented_back true = refl
  presented_back false = refl

  id_back : eqb (fields_for code home restricted number).presentation 1 ≡ restricted
  unfolding fields_for
  id_back = presented_back restricted

  signals_good : all is_digit_code (fields_for code home restricted number).address_signals ≡ true
  unfolding fields_for
  signals_good = codes_of ds are_digits

  there_back : is_code code ≡ true → decoded code (encoded code home restricted number) ≡ caller_with restricted number
  unfolding decoded encoded caller_for
  there_back c =
      let f : Fields = fields_for code home restricted number in
      rw (c, not_cut f in_range, fields_read f in_range, is_named_lem, filler_read f in_range, signals_good, number_back, id_back, g)

pub there_and_back : ThereAndBack
there_and_back code home restricted number c g = there_back code home restricted number g c

pub all_fields_written : FieldsWritten
all_fields_written = fields_written

-- ---- national or not

pub national_sent : National
unfolding fields_for is_national sent
national_sent code others restricted g =
    let number : List ℕ = 43 ∷ (code ++ others) in
    record {
      nature_is = rw (fields_written code true restricted number g, started code others);
      signals_are = rw (fields_written code true restricted number g, started code others, drop-append_seam code others);
    }

pub international_sent : International
unfolding fields_for is_national sent
international_sent code home restricted number g e =
    record {
      nature_is = rw (fields_written code home restricted number g, e);
      signals_are = rw (fields_written code home restricted number g, e);
    }
