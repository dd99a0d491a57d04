-- The pieces are the shares.
use mathlib.Core.List.{append_assoc}
use Rattle.emit.proofs.Pushes.{pushed_append}
use Rattle.records.proofs.report.push_shares.Goals as goal

pub returns : goal.returns
returns c =
    simp
    (c.push_spaced-3.ensures, c.push_spaced-2.ensures, c.push_spaced.ensures, c.rate.ensures, pushed_append, append_assoc)
