-- The invariant: the first j bytes of s are put. N more are put after them, or over their end (Copies).
use mathlib.Core.Path.{◌≡◌}
use Prim.Native.Nat.{◌≤◌}
use lib.ListN.{length, take}
use Rattle.emit.specs.Put.{put_at}
use Rattle.gateway.proofs.copy.words.Given as goal

abbrev pub invariant-loop-j : goal.invariant-loop-j
invariant-loop-j g l = (l.j ≤ length l.s) × (length l.out ≡ length l.initial.out) × (l.out ≡ put_at l.initial.out l.at (take l.j l.s))
