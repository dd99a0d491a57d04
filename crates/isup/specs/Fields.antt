-- CR 7: "the calling party number parameter of ITU-T Q.763", its fields under Q.763's names (3.10) and as octets. The octets of its name and
-- length are not among them. Octet 1: bit 8 odd/even, bits 7 to 1 nature of address. Octet 2: bit 8 number incomplete, bits 7 to 5 numbering
-- plan, bits 4 and 3 presentation, bits 2 and 1 screening. From octet 3 on the address signals, two to an octet.
use Rattle.std.specs.Prelude.{Bool, not, ◌||◌, List, [], ◌∷◌, ℕ, zero, suc, ◌+◌, ◌-◌, ◌*◌, ◌/◌, ◌%◌, leb, ltb, eqb, length, drop, get_or}
use Rattle.octets.specs.Classes.{bit}

-- odd/even is not among them: it says whether the number of address signals is odd
pub record Fields : Type 0 where
  pub nature_of_address : ℕ
  pub number_incomplete : ℕ
  pub numbering_plan : ℕ
  pub presentation : ℕ
  pub screening : ℕ
  pub address_signals : List ℕ

-- an address signal has four bits
abbrev pub is_signal : ℕ → Bool
is_signal c = ltb c 16

-- ---- fields as octets

-- "address digits two to a byte, the first in the low half, zero filler if odd"
unfoldable pub packed : List ℕ → List ℕ
packed [] = []
packed (a ∷ []) = (a + 16 * 0) ∷ []
packed (a ∷ b ∷ signals) = (a + 16 * b) ∷ packed signals

unfoldable pub octets : Fields → List ℕ
octets f =
    (128 * (length f.address_signals % 2) + f.nature_of_address)
    ∷ (128 * f.number_incomplete + 16 * f.numbering_plan + 4 * f.presentation + f.screening)
    ∷ packed f.address_signals

-- ---- octets as fields

-- bit 8 of octet 1
abbrev pub is_odd : List ℕ → Bool
is_odd s = leb 128 (get_or s 0 0)

-- how many address signals there are: two in each octet from the third on, one less where their number is odd
abbrev pub signal_count : List ℕ → ℕ
signal_count s = 2 * (length s - 2) - bit (is_odd s)

-- the first n signals, of which the first is in the low half
unfoldable pub signals : ℕ → List ℕ → List ℕ
signals zero bs = []
signals (suc n) [] = []
signals (suc zero) (b ∷ bs) = b % 16 ∷ []
signals (suc (suc n)) (b ∷ bs) = b % 16 ∷ b / 16 ∷ signals n bs

unfoldable pub fields_of : List ℕ → Fields
fields_of s =
    record {
      nature_of_address = get_or s 0 0 % 128;
      number_incomplete = get_or s 1 0 / 128;
      numbering_plan = get_or s 1 0 / 16 % 8;
      presentation = get_or s 1 0 / 4 % 4;
      screening = get_or s 1 0 % 4;
      address_signals = signals (signal_count s) (drop 2 s);
    }

-- what stands in the high half of the last octet, behind the last signal where their number is odd
abbrev pub filler : List ℕ → ℕ
filler s = get_or s (length s - 1) 0 / 16

-- the filler is zero, where there is one
unfoldable pub filler_is_zero : List ℕ → Bool
filler_is_zero s = not (is_odd s) || eqb (filler s) 0
