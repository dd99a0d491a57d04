-- The two bytes at the place, as far as the text has them.
use mathlib.Core.Path.{◌≡◌, refl}
use mathlib.Core.Bool.{false}
use mathlib.Core.List.{List, [], ◌∷◌}
use Prim.Native.Nat.{ℕ, ◌+◌, ◌≤◌, ◌<◌}
use lib.Dec.{eqb}
use lib.ListN.{length, drop, get_or, drop_of_length-le}
use borrow.Author.Tests.{eq-eqb, ne_eqb}
use Rattle.octets.proofs.Places.{drop1, drop2}
use Rattle.sip.specs.Lines.{starts_crlf}
use Rattle.lines.proofs.field.is_empty_line.Goals as goal

other : (a : ℕ) (t : List ℕ) → (a ≡ 13 → ⊥) → false ≡ starts_crlf (a ∷ t)
unfolding starts_crlf
other a [] n = refl
other a (b ∷ t) n = rw (ne_eqb a 13 n)

module _ (s : List ℕ) (at : ℕ) where
  past : length s ≤ at → false ≡ starts_crlf (drop at s)
  unfolding starts_crlf
  past h = rw (drop_of_length-le s h)

  no_cr : at < length s → (get_or s at 0 ≡ 13 → ⊥) → false ≡ starts_crlf (drop at s)
  no_cr h n = rw (drop1 s at h) (other (get_or s at 0) (drop (at + 1) s) n)

  short : at < length s → length s ≤ at + 1 → false ≡ starts_crlf (drop at s)
  unfolding starts_crlf
  short h l = rw (drop1 s at h, drop_of_length-le s l)

  after_cr : at + 1 < length s → get_or s at 0 ≡ 13 → eqb (get_or s (at + 1) 0) 10 ≡ starts_crlf (drop at s)
  unfolding starts_crlf
  after_cr h e = rw (drop2 s at h, eq-eqb (get_or s at 0) 13 e)

pub returns-then-s-at : goal.returns-then-s-at
returns-then-s-at c = search past

pub returns-then-s-at-ne13 : goal.returns-then-s-at-ne13
returns-then-s-at-ne13 c = search no_cr

pub returns-then-s-lf : goal.returns-then-s-lf
returns-then-s-lf c = search short

pub returns : goal.returns
returns c = search after_cr
