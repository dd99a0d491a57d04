-- The count is one of the two that are found.
use Rattle.lines.proofs.Messages.{count_is}
use Rattle.lines.proofs.count.Goals as goal

pub returns : goal.returns
returns c = search count_is
