-- The pair of an accepted message fits into a place.
use mathlib.Core.Path.{◌∙◌}
use Rattle.gateway.proofs.Passing.{pair_fits}
use Rattle.gateway.proofs.message.Accepted.change.Goals as goal

pub returns-in-New : goal.returns-in-New
returns-in-New c = c.place.ensures ∙ rw (c.pair-in-New.ensures, pair_fits c.args.self.now, c.in-New.is)
