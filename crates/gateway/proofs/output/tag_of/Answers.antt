-- By whether the value has a line break in it.
use mathlib.Core.Path.{◌∙◌}
use Rattle.gateway.proofs.output.tag_of.Goals as goal

pub returns-then-broken : goal.returns-then-broken
returns-then-broken c = c.part.ensures.0 ∙ rw (c.if-broken.true, c.unfolded_at.ensures.0)

pub returns : goal.returns
returns c = c.part-2.ensures.0 ∙ rw c.if-broken.false
