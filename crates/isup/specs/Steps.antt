-- What the code's steps answer.
use Rattle.std.specs.Prelude.{Bool, false, cond, ◌&&◌, List, map, ℕ, ◌+◌, ◌*◌, ◌/◌, ◌%◌, eqb, get_or}
use Rattle.octets.specs.Classes.{bit}
use Rattle.sip.specs.Refusals.{Judgement, refused, accepted, judgement}
use Rattle.isup.specs.Fields.{signals}
use Rattle.isup.specs.Forward.{is_initial_invite}
use Rattle.isup.specs.Backward.{is_digit_code, digit}

abbrev initial_by : Judgement → Bool
initial_by (refused a) = false
initial_by (accepted r) = is_initial_invite r

-- the message is accepted, and is an initial INVITE
unfoldable pub initial_in : List ℕ → Bool
initial_in m = initial_by (judgement m)

-- octet 2 of what is produced
abbrev pub second_for : Bool → ℕ
second_for withheld = 19 + 4 * bit withheld

-- both halves of an octet are digit codes
unfoldable pub is_pair : ℕ → Bool
is_pair b = is_digit_code (b % 16) && is_digit_code (b / 16)

-- the first n digits of address octets
abbrev pub digits : ℕ → List ℕ → List ℕ
digits n bs = map digit (signals n bs)

-- the i-th of them
unfoldable pub digit_at : List ℕ → ℕ → ℕ
digit_at bs i = digit (cond (eqb (i % 2) 0) (get_or bs (i / 2) 0 % 16) (get_or bs (i / 2) 0 / 16))
