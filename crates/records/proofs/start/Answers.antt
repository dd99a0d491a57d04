-- Each count is 0.
use mathlib.Core.Path.{refl}
use Rattle.records.specs.History.{history_from, calls_through, history}
use Rattle.records.specs.Report.{how_many, table}
use Rattle.records.specs.Running.{counts_of}
use Rattle.records.proofs.start.Goals as goal

pub returns : goal.returns
unfolding history history_from calls_through how_many table counts_of
returns c = refl
