-- The lines of a message by its length and its start line; and the header at a place, by the empty line or the field that stands there.
use mathlib.Core.Path.{◌≡◌, refl, ◌∙◌}
use mathlib.Core.Bool.{Bool, true, false}
use mathlib.Core.List.{List, [], ◌∷◌}
use mathlib.Core.Option.{none, some}
use Prim.Native.Nat.{ℕ, ◌+◌, ◌≤◌, ◌<◌}
use native.Mathlib.Omega.{arith}
use lib.ListN.{length, drop}
use lib.Seq.{drop-drop}
use borrow.Author.Tests.{le-leb, lt-leb}
use Rattle.sip.specs.Lines.{Start, start, start_size, starts_crlf, Shape, shape, size, field_of, with_field, header}
use Rattle.sip.specs.Refusals.{unread, lines, header_lines}
use Rattle.sip.proofs.Fields.{no_crlf, field_here}
use Rattle.sip.proofs.Headers.{header_next}
use Rattle.std.specs.Prelude.{None}
use Rattle.lines.specs.Places.{start_at}
use Rattle.lines.proofs.Values.{never}
use Rattle.lines.proofs.Starts.{no_start}
use Rattle.lines.proofs.Fields.{FieldRead}

-- ---- the lines

pub lines_long : (m : List ℕ) → 8192 < length m → lines m ≡ unread 2
unfolding lines
lines_long m l = rw (lt-leb (length m) 8192 l)

module _ (m : List ℕ) (l : length m ≤ 8192) where
  pub lines_unbegun : None ≡ start_at m → lines m ≡ unread 3
  unfolding lines
  lines_unbegun e = rw (le-leb (length m) 8192 l, no_start m e)

  pub lines_begun : (k : Start) → start m ≡ some k → lines m ≡ header_lines k (header 0 (drop (start_size k) m))
  unfolding lines
  lines_begun k r = rw (le-leb (length m) 8192 l, r)

-- ---- the header at a place

pub header_done : (s : List ℕ) → starts_crlf s ≡ true → header 0 s ≡ some (record { fields = []; rest = drop 2 s })
unfolding header starts_crlf
header_done [] e = never e
header_done (b ∷ s) e = rw e

pub header_bad : (s : List ℕ) → starts_crlf s ≡ false → shape s ≡ none → header 0 s ≡ none
unfolding header
header_bad [] e q = refl
header_bad (b ∷ s) e q = rw (e, q)

-- no field begins with a line break
pub field_line : (s : List ℕ) (f : Shape) → shape s ≡ some f → starts_crlf s ≡ false
field_line s f e = let h = field_here s f e in rw h.here at (no_crlf (field_of f s) (drop (size f) s) h.shaped)

-- a field, and the header after it
pub header_found :
    (m : List ℕ) (at : ℕ) {x v e : ℕ} {d : Bool} (r : FieldRead m at x v e d) {k : ℕ} → k ≡ e + 2
    → header 0 (drop at m) ≡ with_field (field_of r.parts (drop at m)) (header 0 (drop k m))
header_found m at r {k} z =
    let y : at + size r.parts ≡ k = omega (arith, r) in
    header_next (drop at m) r.parts (field_line (drop at m) r.parts r.reads) r.reads ∙ rw (drop-drop (size r.parts) at m, y)
