-- `emit::has_room` meets its contract: the difference that is tested is there once the size is within the buffer.
use mathlib.Core.Path.{◌≡◌, refl, sym}
use mathlib.Core.Bool.{Bool, true, false}
use Prim.Native.Nat.{ℕ, ◌+◌, ◌-◌, ◌≤◌, ◌<◌}
use native.Mathlib.Omega.{arith}
use lib.Dec.{leb}
use borrow.Author.Tests.{le-leb, lt-leb, leb-true, leb-false}
use Rattle.emit.proofs.has_room.Goals as goal

module _ (len at size : ℕ) where
  past : len < size → false ≡ leb (at + size) len
  past h = sym (lt-leb (at + size) len (omega arith))

  left : size ≤ len → leb at (len - size) ≡ leb (at + size) len
  left h = go (leb (at + size) len) refl
    where
      go : (t : Bool) → leb (at + size) len ≡ t → leb at (len - size) ≡ t
      go true e = le-leb at (len - size) (omega (arith, leb-true (at + size) len e))
      go false e = lt-leb at (len - size) (omega (arith, leb-false (at + size) len e))

pub returns-then-len-size : goal.returns-then-len-size
returns-then-len-size c = search past

pub returns : goal.returns
returns c = search left
