-- The invariant: the lines from the i-th slot on, put now, give what the lines of all, put at once, would give.
use mathlib.Core.List.{List}
use Prim.Native.Nat.{ℕ, ◌+◌, ◌≤◌}
use lib.ListN.{length}
use Rattle.emit.specs.Put.{put_at, next_at, Wrote}
use Rattle.gateway.specs.declared.message.Outgoing.{Outgoing}
use Rattle.gateway.specs.Accepted.{lines_by}
use Rattle.gateway.proofs.Passing.{lines_after}
use Rattle.gateway.proofs.message.Outgoing.put_lines.Given as goal

pub record Left (d : List ℕ) (from : ℕ) (o : Outgoing) (d' : List ℕ) (at i : ℕ) : Type 0 where
  pub room : at + length (lines_after o i) ≤ length d'
  pub wrote : Wrote d from (lines_by o) (next_at d' at (lines_after o i)) (put_at d' at (lines_after o i))

abbrev pub invariant-loop-i : goal.invariant-loop-i
invariant-loop-i l = Left l.initial.out l.from l.self l.out l.at l.i
