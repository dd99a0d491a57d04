-- Writing a text into a buffer at a place.
use Rattle.std.specs.Prelude.{◌≡◌, Bool, cond, List, ◌++◌, ℕ, ◌+◌, ◌≤◌, leb, length, take, drop}

-- there is room for s at the place at of d
abbrev pub fits : List ℕ → ℕ → List ℕ → Bool
fits d at s = leb (at + length s) (length d)

-- d with s at the place at, what stands before and after staying; d itself where there is no room
unfoldable pub put_at : List ℕ → ℕ → List ℕ → List ℕ
put_at d at s = cond (fits d at s) (take at d ++ (s ++ drop (at + length s) d)) d

-- the place after s; the same place where there is no room
unfoldable pub next_at : List ℕ → ℕ → List ℕ → ℕ
next_at d at s = cond (fits d at s) (at + length s) at

-- s was put at the place at of d: r is the place after it, and d' what the buffer then holds
pub record Wrote (d : List ℕ) (at : ℕ) (s : List ℕ) (r : ℕ) (d' : List ℕ) : Type 0 where
  pub next : r ≡ next_at d at s
  pub holds : d' ≡ put_at d at s

-- s was put there, and there was room: s stands at the place at of what was d and is d' now, and r is the place after it
pub record Placed (d : List ℕ) (at : ℕ) (s : List ℕ) (r : ℕ) (d' : List ℕ) : Type 0 where
  pub wrote : Wrote d at s r d'
  pub fits : at + length s ≤ length d
  pub next : r ≡ at + length s
