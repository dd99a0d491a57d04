-- The invariant: the sum and the length of the lines from the i-th slot on are the length of all; each line has at most 8265 bytes.
use mathlib.Core.Path.{◌≡◌}
use Prim.Native.Nat.{ℕ, ◌+◌, ◌*◌, ◌≤◌}
use lib.ListN.{length}
use Rattle.gateway.specs.declared.message.Outgoing.{Outgoing}
use Rattle.gateway.specs.Accepted.{lines_by}
use Rattle.gateway.proofs.Passing.{lines_after}
use Rattle.gateway.proofs.message.Outgoing.lines_len.Given as goal

abbrev pub Left : Outgoing → ℕ → ℕ → Type 0
Left o i sum = sum + length (lines_after o i) ≡ length (lines_by o)

abbrev pub invariant-loop-i : goal.invariant-loop-i
invariant-loop-i l = (l.sum ≤ 8265 * l.i) × Left l.self l.i l.sum
