-- With a star or without.
use Rattle.octets.specs.Classes.{text}
use Rattle.cause_text.proofs.table.push_end.Goals as goal

pub returns-then-starred : goal.returns-then-starred
unfolding text
returns-then-starred c = rw c.if-starred.true c.push.ensures

pub returns-else-starred : goal.returns-else-starred
unfolding text
returns-else-starred c = rw c.if-starred.false c.push-else-starred.ensures
