-- The two numbers of the part, which lies within the message.
use mathlib.Core.Path.{ap}
use Rattle.sip.specs.declared.Span.{Span}
use Rattle.mishkolar.proofs.mishkolar_reading.Goals as goal

pub returns : goal.returns
returns c = let e = c.reading_at-p.ensures in (ap (λ (x : Span). x.len) e.0, ap (λ (x : Span). x.start) e.0, e.1)
