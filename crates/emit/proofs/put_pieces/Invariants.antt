-- The invariant: what is left, folded and put now, gives what the whole, put at once, would give.
use mathlib.Core.Path.{◌≡◌}
use mathlib.Core.List.{List}
use Prim.Native.Nat.{ℕ, ◌+◌, ◌-◌, ◌≤◌}
use lib.ListN.{length, drop}
use Rattle.sip.specs.Lines.{folded}
use Rattle.emit.specs.Put.{put_at, next_at, Wrote}
use Rattle.emit.proofs.put_pieces.Given as goal

pub record Left (d : List ℕ) (at : ℕ) (v : List ℕ) (d' : List ℕ) (o i : ℕ) : Type 0 where
  pub room : o + length (folded 0 (drop i v)) ≤ length d'
  pub wrote : Wrote d at (folded 0 v) (next_at d' o (folded 0 (drop i v))) (put_at d' o (folded 0 (drop i v)))

abbrev pub invariant-loop-i : goal.invariant-loop-i
invariant-loop-i l = (l.i ≤ length l.v) × (length l.out ≡ length l.initial.out) × Left l.initial.out l.at l.v l.out l.o l.i

abbrev pub decreases-loop-i : goal.decreases-loop-i
decreases-loop-i l = length l.v - l.i
