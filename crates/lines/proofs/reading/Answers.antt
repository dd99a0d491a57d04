-- The part at the place that is found.
use Rattle.lines.proofs.Messages.{part_is}
use Rattle.lines.proofs.reading.Goals as goal

pub returns : goal.returns
returns c = search part_is
