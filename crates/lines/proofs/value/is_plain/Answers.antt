-- The last test decides: one space stands before the value, and no gap at its start.
use Rattle.lines.proofs.Trims.{plain_test, two_bytes}
use Rattle.lines.proofs.value.is_plain.Goals as goal

pub returns : goal.returns
returns c = search (plain_test, two_bytes)
