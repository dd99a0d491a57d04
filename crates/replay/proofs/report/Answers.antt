-- There is room for every report.
use Rattle.records.proofs.Lengths.{prints}
use Rattle.replay.proofs.report.Goals as goal

pub returns : goal.returns
returns g c = search prints
