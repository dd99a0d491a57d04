-- The two numbers of the map's answer.
use mathlib.Core.Path.{ap, ◌∙◌}
use Rattle.causes.specs.declared.CauseAnswer.{CauseAnswer}
use Rattle.mishkolar.proofs.mishkolar_cause_of_status.Goals as goal

pub returns : goal.returns
returns c = (ap (λ (x : CauseAnswer). x.cause) (c.from-answer.ensures ∙ c.cause_of_status.ensures), ap (λ (x : CauseAnswer). x.refusal) (c.from-answer.ensures ∙ c.cause_of_status.ensures))
