-- `emit::put_joined` meets its contract, by the test that `joined` makes.
use mathlib.Core.Path.{◌≡◌, sym, ap}
use mathlib.Core.Bool.{Bool, true, false}
use mathlib.Core.List.{List, [], ◌∷◌}
use Prim.Native.Nat.{ℕ, ◌+◌, ◌≤◌, ◌<◌}
use native.Mathlib.Omega.{arith}
use lib.ListN.{length}
use Rattle.octets.specs.Classes.{is_break}
use Rattle.octets.specs.Scans.{any}
use Rattle.sip.specs.Lines.{joined}
use Rattle.emit.specs.Put.{Wrote}
use Rattle.emit.proofs.Laws.{wrote_as}
use Rattle.emit.proofs.Pieces.{joined_space, joined_same}
use Rattle.emit.proofs.put_joined.Goals as goal

module _ (g : List ℕ) {t : Bool} (e : t ≡ any is_break g) (d : List ℕ) (at : ℕ) where
  module _ (h : at + length (joined g) ≤ length d) where
    space_fits : t ≡ true → at < length d
    space_fits q = omega (arith, ap length (joined_space g e q))

    same_fits : t ≡ false → at + length g ≤ length d
    same_fits q = omega (arith, ap length (joined_same g e q))

  module _ {r : ℕ} {d' : List ℕ} where
    space : t ≡ true → Wrote d at (32 ∷ []) r d' → Wrote d at (joined g) r d'
    space q w = wrote_as w (joined g) (sym (joined_space g e q))

    same : t ≡ false → Wrote d at g r d' → Wrote d at (joined g) r d'
    same q w = wrote_as w (joined g) (sym (joined_same g e q))

pub put_byte-requires : goal.put_byte-requires
put_byte-requires c = search space_fits

pub returns-then-has_break : goal.returns-then-has_break
returns-then-has_break c = search space

pub copy-requires : goal.copy-requires
copy-requires c = search same_fits

pub returns : goal.returns
returns c = search same
