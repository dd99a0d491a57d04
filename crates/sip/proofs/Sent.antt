-- A kept field's line is at most 9 bytes longer than the field, but for four fields that may not repeat: all together grow by at most 932.
use mathlib.Core.Path.{◌≡◌, refl}
use mathlib.Core.Bool.{Bool, true, false, cond, ◌&&◌}
use mathlib.Core.List.{List, [], ◌∷◌, ◌++◌}
use mathlib.Core.Option.{Option}
use Prim.Native.Nat.{ℕ, suc, ◌+◌, ◌-◌, ◌*◌, ◌≤◌}
use native.Mathlib.Omega.{arith}
use lib.Dec.{eqb}
use lib.ListN.{length, length-append}
use Rattle.octets.specs.Classes.{text, bit}
use Rattle.octets.specs.Scans.{decimal}
use Rattle.sip.specs.declared.Column.{Column}
use Rattle.sip.specs.Lines.{Field, bytes, canonical}
use Rattle.sip.specs.Profile.{rows, find, number_of, ignored, name_of, once}
use Rattle.sip.specs.Values.{tag_of}
use Rattle.sip.specs.Refusals.{Entry, kept, first_repeat}
use Rattle.sip.specs.Output.{numeral, anonymous, sent_value, line, field_lines}
use Rattle.sip.specs.Change.{header_bytes}
use Rattle.sip.proofs.Lengths.{canonical_le, tag_le, digits_le}
use Rattle.sip.proofs.NameLengths.{one, name_le}
use Rattle.sip.proofs.Once.{times, at_most_once}

anonymous_length : length anonymous ≡ 50
unfolding anonymous text
anonymous_length = refl

alone : (once 2 ≡ true) × (once 3 ≡ true) × (once 8 ≡ true) × (once 9 ≡ true)
unfolding once find rows
alone = (refl, refl, refl, refl)

-- what four fields may grow by, beyond the 9 bytes of every field: each of them counted
abbrev room : (ℕ → ℕ) → ℕ
room count = 5 * count 2 + 50 * count 3 + 10 * count 8 + 3 * count 9

abbrev entry_of : Field → Entry
entry_of f = record { number = number_of f.name; value = canonical f.value }

module _ (masked : Bool) (body : ℕ) where
  sent_le : (e : Entry)
      → length (sent_value masked body e) ≤ length e.value + (5 * one 2 e.number + 50 * one 3 e.number + 5 * one 8 e.number)
  unfolding sent_value
  sent_le e = go (eqb e.number 2) (eqb e.number 3) (eqb e.number 8) masked
    where
      go : (a b c m : Bool)
          → length (cond a (numeral (decimal 0 e.value - 1)) (cond c (numeral body) (cond (m && b) (anonymous ++ tag_of e.value) e.value)))
          ≤ length e.value + (5 * bit a + 50 * bit b + 5 * bit c)
      go true b c m = omega (arith, digits_le 5 (decimal 0 e.value - 1))
      go false b true m = omega (arith, digits_le 5 body)
      go false true false true = omega (arith, length-append anonymous (tag_of e.value), anonymous_length, tag_le e.value)
      go false false false true = omega arith
      go false b false false = omega arith

  line_le : (f : Field)
      → length (line (number_of f.name) (sent_value masked body (entry_of f))) ≤ length (bytes f) + (9 + room (λ k. one k (number_of f.name)))
  unfolding line
  line_le f =
      let n : ℕ = number_of f.name in
      let v : List ℕ = sent_value masked body (entry_of f) in
      let written : length (line n v) ≡ length (name_of n) + (length v + 4) = simp length-append (omega arith) in
      let stood : length (bytes f) ≡ length f.name + (length f.gap + (length f.value + 3)) = simp length-append (omega arith) in
      omega (arith, name_le f.name, sent_le (entry_of f), canonical_le f.value)

  module _ (rest : List ℕ) (c : Option Column) where
    lines_le : (fs : List Field)
        → length (field_lines masked body (kept c fs)) + (2 + length rest)
        ≤ length (header_bytes fs rest) + (9 * length fs + room (λ k. times k (kept c fs)))
    unfolding field_lines kept times
    lines_le [] = omega arith
    lines_le (f ∷ fs) = rw (length-append (bytes f)) (go (ignored c n) (masked && eqb n 15) refl refl (lines_le fs))
      where
        n : ℕ
        n = number_of f.name

        go : (t u : Bool) → ignored c (number_of f.name) ≡ t → (masked && eqb (number_of f.name) 15) ≡ u
            → length (field_lines masked body (kept c fs)) + (2 + length rest)
            ≤ length (header_bytes fs rest) + (9 * length fs + room (λ k. times k (kept c fs)))
            → length (field_lines masked body (kept c (f ∷ fs))) + (2 + length rest)
            ≤ length (bytes f) + length (header_bytes fs rest) + (9 * suc (length fs) + room (λ k. times k (kept c (f ∷ fs))))
        go true u p q l = rw p (omega arith)
        go false true p q l = rw (p, q) (omega arith)
        go false false p q l = rw (p, q, length-append (line n (sent_value masked body (entry_of f)))) (omega (arith, line_le f))

    pub lines_bound : (fs : List Field) → first_repeat [] (kept c fs) ≡ 0 → length fs ≤ 96
        → length (field_lines masked body (kept c fs)) + (2 + length rest) ≤ length (header_bytes fs rest) + 932
    lines_bound fs h few =
        let es : List Entry = kept c fs in
        let (a, b, d, g) = alone in
        omega (arith, lines_le fs, at_most_once 2 a es h, at_most_once 3 b es h, at_most_once 8 d es h, at_most_once 9 g es h)
