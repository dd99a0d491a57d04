-- CR 7, what holds of the box for the old exchange, as statements; their proofs are in proofs/.
use Rattle.std.specs.Prelude.{◌≡◌, Bool, true, false, ◌&&◌, List, [], ◌∷◌, ◌++◌, map, ℕ, ◌%◌, ◌≤◌, ◌<◌, ltb, eqb, length, take, drop}
use Rattle.octets.specs.Classes.{among, is_digit}
use Rattle.octets.specs.Scans.{all, starts}
use Rattle.sip.specs.Values.{is_global}
use Rattle.sip.specs.Refusals.{Answer, withheld, Passed, refused, accepted, judgement}
use Rattle.sip.specs.Readings.{calling_number}
use Rattle.sip.specs.Screen.{refusing, screened}
use Rattle.sip.specs.Change.{Changed}
use Rattle.isup.specs.Answers.{Parameter}
use Rattle.isup.specs.Answers.{Caller}
use Rattle.isup.specs.Fields.{Fields, is_signal, octets, is_odd, fields_of, filler_is_zero}
use Rattle.isup.specs.Forward.{is_code, starts_with, signal, fields_for, encoded, no_parameter, parameter_of, is_initial_invite, calling_of, produced}
use Rattle.isup.specs.Backward.{is_cut, is_named, is_digit_code, number_from, no_caller, caller_with, decoded}

-- ---- the fields and the octets

-- each field has no more than its bits, and each address signal four
pub record InRange (f : Fields) : Type 0 where
  pub nature : f.nature_of_address < 128
  pub incomplete : f.number_incomplete < 2
  pub plan : f.numbering_plan < 8
  pub presented : f.presentation < 4
  pub screened_as : f.screening < 4
  pub signals : all is_signal f.address_signals ≡ true

-- the octets of fields are read as those fields; odd/even says whether the number of signals is odd, and the filler is zero
pub record ReadBack (f : Fields) : Type 0 where
  pub fields : fields_of (octets f) ≡ f
  pub odd : is_odd (octets f) ≡ eqb (length f.address_signals % 2) 1
  pub filled : filler_is_zero (octets f) ≡ true

abbrev pub FieldsRead : Type 0
FieldsRead = (f : Fields) → InRange f → ReadBack f

-- what is written of a number are the fields that the page names
abbrev pub FieldsWritten : Type 0
FieldsWritten =
    (code : List ℕ) (home restricted : Bool) (number : List ℕ) → is_global number ≡ true
    → fields_of (encoded code home restricted number) ≡ fields_for code home restricted number

-- ---- "Country code: 1 to 3 digits, not starting with 0"

pub record CodeForm (code : List ℕ) : Type 0 where
  pub some_digit : 1 ≤ length code
  pub three_digits : length code ≤ 3
  pub only_digits : all is_digit code ≡ true
  pub no_zero : starts 48 code ≡ false

abbrev pub CodeRead : Type 0
CodeRead = (code : List ℕ) → is_code code ≡ true → CodeForm code

abbrev pub CodeTaken : Type 0
CodeTaken = (code : List ℕ) → CodeForm code → is_code code ≡ true

-- ---- "National exactly when the number starts with our country code and a lent flag says that the next node is at home"

abbrev pub StartsRead : Type 0
StartsRead = (code digits : List ℕ) → starts_with code digits ≡ true → digits ≡ code ++ drop (length code) digits

abbrev pub StartsTaken : Type 0
StartsTaken = (code others : List ℕ) → starts_with code (code ++ others) ≡ true

-- nature of address and address signals of what is written
pub record Sends (s : List ℕ) (nature : ℕ) (digits : List ℕ) : Type 0 where
  pub nature_is : (fields_of s).nature_of_address ≡ nature
  pub signals_are : (fields_of s).address_signals ≡ map signal digits

-- "the code is then left out"
abbrev pub National : Type 0
National =
    (code others : List ℕ) (restricted : Bool) → is_global (43 ∷ (code ++ others)) ≡ true
    → Sends (encoded code true restricted (43 ∷ (code ++ others))) 3 others

abbrev pub International : Type 0
International =
    (code : List ℕ) (home restricted : Bool) (number : List ℕ) → is_global number ≡ true → (home && starts_with code (drop 1 number)) ≡ false
    → Sends (encoded code home restricted number) 4 (drop 1 number)

-- ---- "Refusals: the screen's own first, then no initial INVITE 42, bad country code 41"

-- what the judgement refuses, the screen refuses on side 0 whatever the room and the calls remembered, and the box with the same numbers; where
-- it accepts, the screen lacks at most room, and the box has a refusal of its own or none
pub record OwnFirst (m code : List ℕ) (home : Bool) (table buffer : List ℕ) : Type 0 where
  pub of_the_screen :
      (a : Answer) → judgement m ≡ refused a
      → (screened m 0 table buffer ≡ refusing a buffer table) × (produced m code home ≡ no_parameter a.reason a.reply a.detail a.missing)
  pub of_the_box :
      (r : Passed) → judgement m ≡ accepted r
      → (among (0 ∷ 16 ∷ []) (screened m 0 table buffer).answer.reason ≡ true)
      × (among (0 ∷ 41 ∷ 42 ∷ []) (produced m code home).refusal.reason ≡ true)

abbrev pub ScreensOwn : Type 0
ScreensOwn = (m code : List ℕ) (home : Bool) (table buffer : List ℕ) → OwnFirst m code home table buffer

-- of a message that the screen accepts
pub record OfAccepted (m code : List ℕ) (home : Bool) (r : Passed) : Type 0 where
  pub no_invite : is_initial_invite r ≡ false → produced m code home ≡ no_parameter 42 0 0 0
  pub bad_code : is_initial_invite r ≡ true → is_code code ≡ false → produced m code home ≡ no_parameter 41 0 0 0
  pub parameter :
      is_initial_invite r ≡ true → is_code code ≡ true
      → produced m code home ≡ parameter_of (encoded code home (withheld r.fields) (calling_of r))

abbrev pub Forward : Type 0
Forward = (m code : List ℕ) (home : Bool) (r : Passed) → judgement m ≡ accepted r → OfAccepted m code home r

-- an initial INVITE has a calling number, which is the same whatever the trunk number
pub record HasNumber (m : List ℕ) (r : Passed) : Type 0 where
  pub is_number : is_global (calling_of r) ≡ true
  pub calling : (trunk : List ℕ) → is_global trunk ≡ true → calling_number m trunk ≡ calling_of r

abbrev pub AlwaysNumber : Type 0
AlwaysNumber = (m : List ℕ) (r : Passed) → judgement m ≡ accepted r → is_initial_invite r ≡ true → HasNumber m r

-- ---- "backwards 41, then cut short .. 43, field outside those named 44, filler not zero 45, digit code over 9 46, result not a `+` number of
-- the profile 47": each where those before do not apply

pub record Backwards (code s : List ℕ) : Type 0 where
  pub gives_41 : is_code code ≡ false → decoded code s ≡ no_caller 41
  pub gives_43 : is_code code ≡ true → is_cut s ≡ true → decoded code s ≡ no_caller 43
  pub gives_44 : is_code code ≡ true → is_cut s ≡ false → is_named (fields_of s) ≡ false → decoded code s ≡ no_caller 44
  pub gives_45 : is_code code ≡ true → is_cut s ≡ false → is_named (fields_of s) ≡ true → filler_is_zero s ≡ false → decoded code s ≡ no_caller 45
  pub gives_46 :
      is_code code ≡ true → is_cut s ≡ false → is_named (fields_of s) ≡ true → filler_is_zero s ≡ true
      → all is_digit_code (fields_of s).address_signals ≡ false → decoded code s ≡ no_caller 46
  pub gives_47 :
      is_code code ≡ true → is_cut s ≡ false → is_named (fields_of s) ≡ true → filler_is_zero s ≡ true
      → all is_digit_code (fields_of s).address_signals ≡ true → is_global (number_from code (fields_of s)) ≡ false → decoded code s ≡ no_caller 47

abbrev pub Backward : Type 0
Backward = (code s : List ℕ) → Backwards code s

-- ---- "There and back is the identity on what is produced."

-- of every number of the profile's form, restricted or not, every good code and both flags
abbrev pub ThereAndBack : Type 0
ThereAndBack =
    (code : List ℕ) (home restricted : Bool) (number : List ℕ) → is_code code ≡ true → is_global number ≡ true
    → decoded code (encoded code home restricted number) ≡ caller_with restricted number

-- of every message that gives a parameter: it is an initial INVITE that is accepted, its parameter is that of its calling number, and gives
-- back that number and whether the caller is withheld
pub record Returns (m code : List ℕ) (home : Bool) : Type 0 where
  pub message : Passed
  pub is_accepted : judgement m ≡ accepted message
  pub is_initial : is_initial_invite message ≡ true
  pub known_code : is_code code ≡ true
  pub octets_are :
      take (produced m code home).len (produced m code home).bytes ≡ encoded code home (withheld message.fields) (calling_of message)
  pub comes_back :
      decoded code (take (produced m code home).len (produced m code home).bytes)
      ≡ caller_with (withheld message.fields) (calling_of message)

abbrev pub InviteReturns : Type 0
InviteReturns = (m code : List ℕ) (home : Bool) → (produced m code home).refusal.reason ≡ 0 → Returns m code home

-- an octet has eight bits
abbrev pub is_byte : ℕ → Bool
is_byte b = ltb b 256

-- ---- back and there: octets that are taken are those that a number gives, with the same code and the one or the other flag

pub record Producible (code s : List ℕ) : Type 0 where
  pub home : Bool
  pub restricted : Bool
  pub number : List ℕ
  pub known_code : is_code code ≡ true
  pub is_number : is_global number ≡ true
  pub is_caller : decoded code s ≡ caller_with restricted number
  pub made : encoded code home restricted number ≡ s

abbrev pub OnlyProduced : Type 0
OnlyProduced = (code s : List ℕ) → all is_byte s ≡ true → (decoded code s).refusal ≡ 0 → Producible code s

-- every number of the profile's form stands in an initial INVITE that is accepted, withheld or not
pub record Carries (m number : List ℕ) (restricted : Bool) : Type 0 where
  pub message : Passed
  pub is_accepted : judgement m ≡ accepted message
  pub is_initial : is_initial_invite message ≡ true
  pub number_is : calling_of message ≡ number
  pub withheld_is : withheld message.fields ≡ restricted

abbrev pub EveryNumber : Type 0
EveryNumber = (number : List ℕ) (restricted : Bool) → is_global number ≡ true → (m : List ℕ) × Carries m number restricted

-- so octets that are taken are those that a message gives, with the same code and the one or the other flag
pub record GivenBy (code s : List ℕ) : Type 0 where
  pub message : List ℕ
  pub home : Bool
  pub gives : produced message code home ≡ parameter_of s

abbrev pub EveryTaken : Type 0
EveryTaken = (code s : List ℕ) → all is_byte s ≡ true → (decoded code s).refusal ≡ 0 → GivenBy code s

-- ---- sizes: length 0 says that there is nothing, and what there is fits into its array

pub record ParameterSized (p : Parameter) : Type 0 where
  pub whole : length p.bytes ≡ 10
  pub at_most : p.len ≤ 10
  pub given : p.refusal.reason ≡ 0 → 4 ≤ p.len
  pub none_given : (p.refusal.reason ≡ 0 → ⊥) → p.len ≡ 0

abbrev pub ParameterSize : Type 0
ParameterSize = (m code : List ℕ) (home : Bool) → ParameterSized (produced m code home)

pub record NumberSized (c : Caller) : Type 0 where
  pub whole : length c.number ≡ 16
  pub at_most : c.len ≤ 16
  pub given : c.refusal ≡ 0 → 8 ≤ c.len
  pub none_given : (c.refusal ≡ 0 → ⊥) → c.len ≡ 0

abbrev pub NumberSize : Type 0
NumberSize = (code s : List ℕ) → NumberSized (decoded code s)

-- ---- demand 3 of the box: ignored fields that are added and other names for listed ones change nothing, neither the answer nor one octet

abbrev pub Demand3 : Type 0
Demand3 = (m m' code : List ℕ) (home : Bool) → Changed m m' → produced m' code home ≡ produced m code home
