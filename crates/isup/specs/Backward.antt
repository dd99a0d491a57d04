-- CR 7, backward: what lent bytes give, and what a cause does.
use Rattle.std.specs.Prelude.{Bool, false, cond, ◌&&◌, ◌||◌, List, [], ◌∷◌, ◌++◌, map, ℕ, ◌+◌, leb, ltb, eqb, length, replicate}
use Rattle.octets.specs.Scans.{all}
use Rattle.sip.specs.Values.{is_global}
use Rattle.causes.specs.Causes.{status}
use Rattle.isup.specs.Answers.{Caller}
use Rattle.isup.specs.Answers.{Status}
use Rattle.isup.specs.Fields.{Fields, is_odd, fields_of, filler_is_zero}
use Rattle.isup.specs.Forward.{is_code, padded}

-- "cut short (under two bytes, or odd with no address byte) 43"
unfoldable pub is_cut : List ℕ → Bool
is_cut s = ltb (length s) 2 || (is_odd s && eqb (length s) 2)

-- each field has a value that is named; else "field outside those named 44"
unfoldable pub is_named : Fields → Bool
is_named f =
    (eqb f.nature_of_address 3 || eqb f.nature_of_address 4)
    && (eqb f.number_incomplete 0
    && (eqb f.numbering_plan 1
    && ((eqb f.presentation 0 || eqb f.presentation 1)
    && eqb f.screening 3)))

-- the code of a digit; else "digit code over 9 46"
abbrev pub is_digit_code : ℕ → Bool
is_digit_code c = leb c 9

abbrev pub digit : ℕ → ℕ
digit c = 48 + c

-- "Backwards it gives the `+` number": a national one gets the code back (002, Table 13: "Add CC")
unfoldable pub number_from : List ℕ → Fields → List ℕ
number_from code f = 43 ∷ (cond (eqb f.nature_of_address 3) code [] ++ map digit f.address_signals)

abbrev pub no_caller : ℕ → Caller
no_caller refusal = record { refusal = refusal; id = false; len = 0; number = replicate 16 0 }

unfoldable pub caller_with : Bool → List ℕ → Caller
caller_with id number = record { refusal = 0; id = id; len = length number; number = padded 16 number }

-- "result not a `+` number of the profile 47"
unfoldable pub caller_for : Bool → List ℕ → Caller
caller_for id number = cond (is_global number) (caller_with id number) (no_caller 47)

-- "backwards 41, then cut short .. 43, field outside those named 44, filler not zero 45, digit code over 9 46, result not .. 47"; "and whether
-- a Privacy `id` goes with it (Tables 13, 15)": where presentation is 1
unfoldable pub decoded : List ℕ → List ℕ → Caller
decoded code s =
    let f = fields_of s in
    cond (is_code code)
    (cond (is_cut s) (no_caller 43)
    (cond (is_named f)
    (cond (filler_is_zero s)
    (cond (all is_digit_code f.address_signals) (caller_for (eqb f.presentation 1) (number_from code f)) (no_caller 46))
    (no_caller 45))
    (no_caller 44)))
    (no_caller 41)

-- ---- "A cause from the trunk becomes a reply's status through the cause map."

-- the status, or 0 and refusal 21; the row whose status it is (CR 4) is not handed back here
unfoldable pub status_for : ℕ → Status
status_for cause = record { status = (status cause).status; refusal = (status cause).refusal }
