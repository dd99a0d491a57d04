-- The first line ends where its value bytes do; the rest is what is called.
use Rattle.lines.proofs.Finds.{after_first}
use Rattle.lines.proofs.has_field.Goals as goal

pub returns : goal.returns
returns c = search after_first
