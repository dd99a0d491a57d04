-- `emit::put_byte` meets its contract: to set a byte is to put a text of one byte.
use mathlib.Core.Path.{◌≡◌, sym, ◌∙◌}
use mathlib.Core.List.{List, [], ◌∷◌}
use Prim.Native.Nat.{ℕ, ◌+◌, ◌<◌}
use native.Mathlib.Numerals.{add-one}
use native.Mathlib.Omega.{arith}
use lib.ListN.{length, set}
use lib.Seq.{set_split}
use Rattle.emit.specs.Put.{Wrote}
use Rattle.emit.proofs.Laws.{next_room, put_room}
use Rattle.emit.proofs.put_byte.Goals as goal

done : (d : List ℕ) (at b : ℕ) {r : ℕ} → at < length d → r ≡ at + 1 → Wrote d at (b ∷ []) r (set d at b)
done d at b h z =
    record {
      next = omega (arith, next_room d at (b ∷ []) (omega arith));
      holds = set_split d at b h ∙ rw (← add-one at) (sym (put_room d at (b ∷ []) (omega arith)));
    }

pub returns : goal.returns
returns c = search done
