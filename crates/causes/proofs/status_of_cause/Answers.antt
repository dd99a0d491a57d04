-- The row of the cause, or else of its class end: `map_answers`.
use Rattle.std.proofs.Common.{rules}
use Rattle.causes.proofs.Promises.{map_answers}
use Rattle.causes.proofs.status_of_cause.Goals as goal

pub returns : goal.returns
returns c = rw c.ok_or.ensures.value (map_answers c.args.cause c.listed_row.result c.or_else.result c.listed_row.ensures (search rules))
