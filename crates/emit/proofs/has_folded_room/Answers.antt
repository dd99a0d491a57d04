-- `emit::has_folded_room` meets its contract: where v has room, so has what is no longer.
use mathlib.Core.Path.{◌≡◌, sym, ◌∙◌}
use mathlib.Core.Bool.{Bool, true}
use mathlib.Core.List.{List}
use Prim.Native.Nat.{ℕ, ◌+◌}
use native.Mathlib.Omega.{arith}
use lib.Dec.{leb}
use lib.ListN.{length}
use borrow.Author.Tests.{le-leb, leb-true}
use Rattle.sip.specs.Lines.{folded}
use Rattle.sip.proofs.Canonical.{folded_le}
use Rattle.emit.proofs.has_folded_room.Goals as goal

module _ (len at : ℕ) (v : List ℕ) {t : Bool} where
  ample : t ≡ leb (at + length v) len → t ≡ true → true ≡ leb (at + length (folded 0 v)) len
  ample e q = sym (le-leb (at + length (folded 0 v)) len (omega (arith, leb-true (at + length v) len (sym e ∙ q), folded_le v)))

  tight : {n : ℕ} → t ≡ leb (at + n) len → n ≡ length (folded 0 v) → t ≡ leb (at + length (folded 0 v)) len
  tight e l = e ∙ rw l

pub returns-then-has_room : goal.returns-then-has_room
returns-then-has_room c = search ample

pub returns : goal.returns
returns c = search tight
