-- The reason says the group, or the field does.
use mathlib.Core.Path.{◌≡◌, sym}
use mathlib.Core.Bool.{Bool, true, false}
use Prim.Native.Nat.{ℕ}
use Rattle.octets.specs.Classes.{text, within}
use Rattle.records.specs.Kinds.{group_by}
use Rattle.records.proofs.group_of.Goals as goal

module _ (reason : ℕ) {t : Bool} (e : t ≡ within 1 5 reason) (n : t ≡ false) {u v : Bool} (h : u ≡ v) where
  relay : u ≡ true → 0 ≡ group_by reason v
  relay y = sym (rw (← e, n, ← h, y))

  other : u ≡ false → 1 ≡ group_by reason v
  other y = sym (rw (← e, n, ← h, y))

pub returns-then-has_field : goal.returns-then-has_field
unfolding text
returns-then-has_field c = search relay

pub returns : goal.returns
unfolding text
returns c = search other
