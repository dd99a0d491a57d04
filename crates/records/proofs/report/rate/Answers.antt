-- By the test (Pushing).
use Rattle.records.proofs.Pushing.{none_came, some_came}
use Rattle.records.proofs.report.rate.Goals as goal

pub returns-then-all-eq0 : goal.returns-then-all-eq0
returns-then-all-eq0 c = search none_came

pub returns-else-all-eq0 : goal.returns-else-all-eq0
returns-else-all-eq0 c = search some_came
