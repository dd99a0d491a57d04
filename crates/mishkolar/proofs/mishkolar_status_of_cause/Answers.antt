-- The three numbers of the map's answer.
use mathlib.Core.Path.{ap, ◌∙◌}
use Rattle.causes.specs.declared.StatusAnswer.{StatusAnswer}
use Rattle.mishkolar.proofs.mishkolar_status_of_cause.Goals as goal

pub returns : goal.returns
returns c = (ap (λ (x : StatusAnswer). x.status) (c.from-answer.ensures ∙ c.status_of_cause.ensures), ap (λ (x : StatusAnswer). x.row) (c.from-answer.ensures ∙ c.status_of_cause.ensures), ap (λ (x : StatusAnswer). x.refusal) (c.from-answer.ensures ∙ c.status_of_cause.ensures))
