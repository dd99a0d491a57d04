-- The line of the map's answer.
use Rattle.std.proofs.Common.{◌≡◌, ◌∙◌}
use Rattle.causes.specs.Causes.{status}
use Rattle.cause_text.specs.Text.{answer_text}
use Rattle.cause_text.proofs.table.push_answer.Goals as goal

pub returns : goal.returns
unfolding answer_text
returns c = let e : c.from-answer.result ≡ status c.args.cause = c.from-answer.ensures ∙ c.status_of_cause.ensures in rw (← e) c.push_three.ensures
