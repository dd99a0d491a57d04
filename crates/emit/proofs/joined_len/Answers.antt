-- `emit::joined_len` meets its contract, by the test that `joined` makes.
use mathlib.Core.Path.{◌≡◌, sym, ap}
use mathlib.Core.Bool.{Bool, true, false}
use mathlib.Core.List.{List}
use Prim.Native.Nat.{ℕ, ◌≤◌}
use native.Mathlib.Omega.{arith}
use lib.ListN.{length}
use borrow.Author.Rules.{rules}
use Rattle.octets.specs.Classes.{is_break}
use Rattle.octets.specs.Scans.{any}
use Rattle.sip.specs.Lines.{joined}
use Rattle.sip.proofs.Canonical.{joined_le}
use Rattle.emit.proofs.Pieces.{joined_space, joined_same}
use Rattle.emit.proofs.joined_len.Goals as goal

module _ (g : List ℕ) {t : Bool} (e : t ≡ any is_break g) where
  space : t ≡ true → 1 ≡ length (joined g)
  space q = sym (ap length (joined_space g e q))

  some : t ≡ true → 1 ≤ length g
  some q = omega (arith, space q, joined_le g)

  same : t ≡ false → length g ≡ length (joined g)
  same q = sym (ap length (joined_same g e q))

pub returns-then-has_break : goal.returns-then-has_break
returns-then-has_break c = search (space, some)

pub returns : goal.returns
returns c = search (same, rules)
