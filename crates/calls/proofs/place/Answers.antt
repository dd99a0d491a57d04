-- The bytes of one place are written over (Placing).
use Rattle.std.proofs.Common.{rules}
use Rattle.calls.proofs.Placing.{placed_nowhere, placed_long_id, placed_long_tag, placed_there}
use Rattle.calls.proofs.place.Goals.{else-k-lt32-via-then-k-lt32+then-pair-le128+else-pair-le64, else-k-lt32-via-then-k-lt32+else-pair-le128, else-k-lt32-via-else-k-lt32}
use Rattle.calls.proofs.place.Goals as goal

pub returns-then-pair-le64 : goal.returns-then-pair-le64
returns-then-pair-le64 c = search (placed_there, rules)

pub returns-else-k-lt32 : goal.returns-else-k-lt32
returns-else-k-lt32 c =
    elim c.else-k-lt32.branch [
      | else-k-lt32-via-then-k-lt32+then-pair-le128+else-pair-le64 w ↦ search (placed_long_tag, rules)
      | else-k-lt32-via-then-k-lt32+else-pair-le128 w ↦ search (placed_long_id, rules)
      | else-k-lt32-via-else-k-lt32 w ↦ search (placed_nowhere, rules)
    ]
