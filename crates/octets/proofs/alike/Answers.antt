-- The same byte has the same small form; any other two are compared by it, as the library does.
use mathlib.Core.Path.{◌≡◌, ◌∙◌}
use mathlib.Core.Bool.{Bool}
use Prim.Native.Nat.{ℕ}
use lib.Dec.{eqb}
use Rattle.std.specs.Char.{to_ascii_lowercase}
use Rattle.octets.specs.Scans.{lower}
use Rattle.octets.proofs.Texts.{small_form}
use Rattle.octets.proofs.alike.Goals as goal

forms : (x y : ℕ) {r : Bool} → r ≡ eqb (to_ascii_lowercase x) (to_ascii_lowercase y) → r ≡ eqb (lower x) (lower y)
forms x y e = e ∙ rw (small_form x, small_form y)

pub returns-else-x-y : goal.returns-else-x-y
returns-else-x-y c = forms c.args.x c.args.y c.eq_ignore_ascii_case.ensures
