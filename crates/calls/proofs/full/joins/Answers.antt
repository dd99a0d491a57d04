-- By the one byte (Masks).
use Rattle.std.proofs.Common.{rules}
use Rattle.calls.proofs.Masks.{joins_not}
use Rattle.calls.proofs.full.joins.Goals as goal

pub returns-else-a-one : goal.returns-else-a-one
returns-else-a-one c = search (joins_not, rules)
