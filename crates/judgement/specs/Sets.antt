-- Sets of field numbers as masks: bit n for number n.
use Rattle.std.specs.Prelude.{Bool, false, not, cond, ◌&&◌, List, [], ◌∷◌, ℕ, ◌+◌, ◌^◌, eqb, length}
use Rattle.std.specs.Prelude.{Option as RustOption, Some, None}
use Rattle.std.proofs.Math.Option.{Option, none, some}
use Rattle.std.specs.Int.Bits.{bit_and}
use Rattle.sip.specs.declared.Column.{Column}
use Rattle.sip.specs.Profile.{column_of, ignored, mandatory, numbers, once}
use Rattle.sip.specs.Refusals.{head_or}
use Rattle.judgement.specs.declared.Lack.{Lack}

-- n is in the set
unfoldable pub has : ℕ → ℕ → Bool
has set n = not (eqb (bit_and set (2 ^ n)) 0)

-- the set of those of the numbers that pass the test
unfoldable pub set_of : (ℕ → Bool) → List ℕ → ℕ
set_of p [] = 0
set_of p (n ∷ ns) = let others = set_of p ns in cond (p n) (2 ^ n + others) others

-- what a column keeps
unfoldable pub kept_set : Column → ℕ
kept_set c = set_of (λ (n : ℕ). not (ignored (some c) n)) numbers

-- what a column asks for, where the body after cutting is empty or not
unfoldable pub mandatory_set : Column → Bool → ℕ
mandatory_set c empty = set_of (mandatory c empty) numbers

-- what may not repeat
unfoldable pub once_set : ℕ
once_set = set_of once numbers

abbrev pub column_found : Option Column → RustOption Column
column_found none = None
column_found (some c) = Some c

-- the column of a method; an INVITE's initial one
unfoldable pub column_at : List ℕ → RustOption Column
column_at method = column_found (column_of method false)

-- those of the numbers that pass the test
unfoldable pub pick : (ℕ → Bool) → List ℕ → List ℕ
pick p [] = []
pick p (n ∷ ns) = let others = pick p ns in cond (p n) (n ∷ others) others

-- the mandatory numbers that are not in the set: `missing_of` of Refusals.antt asks the fields themselves, the code has only the mask
abbrev pub lack_of : Column → Bool → ℕ → List ℕ
lack_of c empty seen = pick (λ (n : ℕ). mandatory c empty n && not (has seen n)) numbers

-- "the missing count says how many numbers are missing", and the lowest of them
unfoldable pub lack_at : Column → Bool → ℕ → Lack
lack_at c empty seen = let ns = lack_of c empty seen in record { count = length ns; lowest = head_or 0 ns }

-- nothing is missing
abbrev pub no_lack : Lack
no_lack = record { count = 0; lowest = 0 }
