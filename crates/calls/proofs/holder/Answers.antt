-- No place says a text that is too long (Says).
use Rattle.std.proofs.Common.{rules}
use Rattle.calls.proofs.Says.{no_id_held, long_id_held, long_tag_held}
use Rattle.calls.proofs.holder.Goals.{then-is_empty-via-then-is_empty, then-is_empty-via-else-is_empty+then-pair-gt128, then-is_empty-via-else-is_empty+else-pair-gt128+then-pair-gt64}
use Rattle.calls.proofs.holder.Goals as goal

pub returns-then-is_empty : goal.returns-then-is_empty
returns-then-is_empty c =
    elim c.then-is_empty.branch [
      | then-is_empty-via-then-is_empty w ↦ search (no_id_held, rules)
      | then-is_empty-via-else-is_empty+then-pair-gt128 w ↦ search (long_id_held, rules)
      | then-is_empty-via-else-is_empty+else-pair-gt128+then-pair-gt64 w ↦ search (long_tag_held, rules)
    ]
