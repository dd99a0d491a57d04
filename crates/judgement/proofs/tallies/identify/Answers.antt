-- The first field that asserts, a sip identity in the second, and a tel one there.
use borrow.Author.Rules.{rules}
use Rattle.judgement.specs.Tallies.{identified}
use Rattle.judgement.proofs.tallies.identify.Goals as goal

pub returns-then-t-eq0 : goal.returns-then-t-eq0
unfolding identified
returns-then-t-eq0 c = search rules

pub returns-then-f-eq1 : goal.returns-then-f-eq1
unfolding identified
returns-then-f-eq1 c = search rules

pub returns-else-f-eq1 : goal.returns-else-f-eq1
unfolding identified
returns-else-f-eq1 c = search rules
