-- CR 7, forward: what a message gives, and the country code.
use Rattle.std.specs.Prelude.{Bool, false, not, cond, ◌&&◌, List, [], ◌++◌, map, ℕ, ◌-◌, eqb, length, take, drop, replicate}
use Rattle.std.proofs.Math.Option.{Option, none, some}
use Rattle.octets.specs.Classes.{bit, within, is_digit}
use Rattle.octets.specs.Scans.{run, starts, same}
use Rattle.sip.specs.declared.Column.{Column}
use Rattle.sip.specs.Lines.{Start, request, response}
use Rattle.sip.specs.Profile.{column_of}
use Rattle.sip.specs.Refusals.{Entry, to_tagged, withheld, is_initial, Passed, Judgement, refused, accepted, judgement}
use Rattle.sip.specs.Readings.{caller_in, number_or}
use Rattle.isup.specs.Answers.{Parameter}
use Rattle.isup.specs.Fields.{Fields, octets}

-- "Country code: 1 to 3 digits, not starting with 0."
unfoldable pub is_code : List ℕ → Bool
is_code code = let n = run is_digit code in within 1 3 n && (eqb n (length code) && not (starts 48 code))

-- "the number starts with our country code": its digits do
unfoldable pub starts_with : List ℕ → List ℕ → Bool
starts_with code digits = same code (take (length code) digits)

-- "National exactly when the number starts with our country code and a lent flag says that the next node is at home"
unfoldable pub is_national : List ℕ → Bool → List ℕ → Bool
is_national code home digits = home && starts_with code digits

-- "the code is then left out"
unfoldable pub sent : List ℕ → Bool → List ℕ → List ℕ
sent code national digits = cond national (drop (length code) digits) digits

-- the address signal of a digit
abbrev pub signal : ℕ → ℕ
signal b = b - 48

-- of a number with its `+`: "nature of address 3 national or 4 international, numbering plan 1, presentation 1 if withheld, else 0, screening 3,
-- number complete, and address digits"
unfoldable pub fields_for : List ℕ → Bool → Bool → List ℕ → Fields
fields_for code home restricted number =
    let national = is_national code home (drop 1 number) in
    record {
      nature_of_address = cond national 3 4;
      number_incomplete = 0;
      numbering_plan = 1;
      presentation = bit restricted;
      screening = 3;
      address_signals = map signal (sent code national (drop 1 number));
    }

unfoldable pub encoded : List ℕ → Bool → Bool → List ℕ → List ℕ
encoded code home restricted number = octets (fields_for code home restricted number)

-- ---- by value

-- these bytes and zeros behind them, up to that size
unfoldable pub padded : ℕ → List ℕ → List ℕ
padded size s = s ++ replicate (size - length s) 0

abbrev pub no_parameter : ℕ → ℕ → ℕ → ℕ → Parameter
no_parameter reason reply detail missing =
    record { refusal = record { reason = reason; reply = reply; detail = detail; missing = missing }; len = 0; bytes = replicate 10 0 }

abbrev pub parameter_of : List ℕ → Parameter
parameter_of s = record { refusal = record { reason = 0; reply = 0; detail = 0; missing = 0 }; len = length s; bytes = padded 10 s }

-- ---- of a message

abbrev pub is_initial_column : Option Column → Bool
is_initial_column none = false
is_initial_column (some c) = is_initial c

abbrev starts_call : Start → List Entry → Bool
starts_call (request l) es = is_initial_column (column_of l.method (to_tagged es))
starts_call (response l) es = false

-- "an initial INVITE": one of the INVITE column, not of "re"
unfoldable pub is_initial_invite : Passed → Bool
is_initial_invite r = starts_call r.line r.fields

-- the calling number. That an initial INVITE has one is a theorem, so that no trunk number is asked for
unfoldable pub calling_of : Passed → List ℕ
calling_of r = number_or [] (caller_in r.fields)

-- "accepted on side 0 (room aside)": the judgement of a message knows neither side nor room. "Refusals: the screen's own first, then no initial
-- INVITE 42, bad country code 41"
abbrev pub produced_by : List ℕ → Bool → Judgement → Parameter
produced_by code home (refused a) = no_parameter a.reason a.reply a.detail a.missing
produced_by code home (accepted r) =
    cond (is_initial_invite r)
    (cond (is_code code) (parameter_of (encoded code home (withheld r.fields) (calling_of r))) (no_parameter 41 0 0 0))
    (no_parameter 42 0 0 0)

unfoldable pub produced : List ℕ → List ℕ → Bool → Parameter
produced m code home = produced_by code home (judgement m)
