-- A number's digits, as they are written and as they are read back.
use Rattle.std.specs.Prelude.{◌≡◌, List, [], ◌∷◌, ◌++◌, ℕ, zero, suc, ◌+◌, ◌/◌, ◌%◌, ◌^◌, ◌<◌}
use Rattle.octets.specs.Scans.{decimal}
use Rattle.sip.specs.Output.{whole_numeral}

-- the last digit, as a byte
abbrev pub last : ℕ → ℕ
last n = 48 + n % 10

-- the i lowest digits
unfoldable pub lowest : ℕ → ℕ → List ℕ
lowest zero n = []
lowest (suc i) n = lowest i (n / 10) ++ (last n ∷ [])

-- the digits of any number of 64 bits read as that number
abbrev pub NumberRead : Type 0
NumberRead = (n : ℕ) → n < 2 ^ 64 → decimal 0 (whole_numeral n) ≡ n
