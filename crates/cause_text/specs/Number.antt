-- The cause on a line of standard input.
use Rattle.std.specs.Prelude.{cond, ◌&&◌, Option, Some, None, List, ℕ, ◌-◌, eqb, length, take, get_or}
use Rattle.octets.specs.Classes.{within, is_digit}
use Rattle.octets.specs.Scans.{all, decimal}

-- the bytes before the LF that ends them, if one does
unfoldable pub without_lf : List ℕ → List ℕ
without_lf s = let last = length s - 1 in cond (eqb (get_or s last 0) 10) (take last s) s

-- 1 to 19 decimal digits and nothing else, so that the number fits 64 bits
unfoldable pub number_of : List ℕ → Option ℕ
number_of s = cond (within 1 19 (length s) && all is_digit s) (Some (decimal 0 s)) None
