-- The test that is handed in answers what `is_restricting` says.
use Rattle.std.proofs.Common.{ap, ◌∙◌}
use Rattle.sip.specs.Values.{is_restricting}
use Rattle.values.specs.Answers.{privacy_at}
use Rattle.values.proofs.list.privacy.Goals as goal

pub returns : goal.returns
unfolding privacy_at
returns c = (c.list.ensures.reads is_restricting (λ t a h. h.says.met ∙ ap is_restricting h.shows), c.list.ensures.counts)
