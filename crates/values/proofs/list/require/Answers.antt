-- The test that is handed in answers what `is_lacking` says.
use Rattle.std.proofs.Common.{ap, ◌∙◌}
use Rattle.sip.specs.Values.{is_lacking}
use Rattle.values.specs.Answers.{require_at}
use Rattle.values.proofs.list.require.Goals as goal

pub returns : goal.returns
unfolding require_at
returns c = (c.list.ensures.reads is_lacking (λ t a h. h.says.met ∙ ap is_lacking h.shows), c.list.ensures.counts)
