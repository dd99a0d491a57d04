-- The last byte that is no gap ends what is left.
use Rattle.octets.specs.Classes.{is_gap}
use Rattle.std.proofs.Common.{rules}
use Rattle.lines.proofs.Trims.{none_left, last_stays}
use Rattle.lines.proofs.value.end_of.Goals as goal

pub returns-in-Some : goal.returns-in-Some
returns-in-Some c = (last_stays is_gap c.args.s.now c.in-Some.last (search rules) (search rules) (search rules), search rules)

pub returns-in-None : goal.returns-in-None
returns-in-None c = search (none_left, rules)
