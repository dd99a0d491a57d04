-- A text whose first byte is b has a byte.
use Rattle.std.proofs.Common.{◌≡◌, ℕ, ◌+◌, ◌-◌, ◌≤◌, Bool, true, List, [], ◌∷◌, length, sym, ◌∙◌, arith}
use mathlib.Core.Bool.{false≢true}
use Rattle.octets.specs.Scans.{starts}

pub has_first : (b : ℕ) (s : List ℕ) {a : Bool} → a ≡ starts b s → a ≡ true → 1 ≤ length s
unfolding starts
has_first b s h e = go s (sym h ∙ e)
  where
    go : (s : List ℕ) → starts b s ≡ true → 1 ≤ length s
    go [] z = absurd (false≢true z)
    go (c ∷ s) z = omega arith

-- so does what stands before, and one more
pub has_next : (b : ℕ) (t s : List ℕ) (n : ℕ) {a : Bool} {k : ℕ} → a ≡ starts b t → a ≡ true → length t ≡ length s - n → k ≡ n + 1 → k ≤ length s
has_next b t s n h e l z = omega (arith, has_first b t h e)
