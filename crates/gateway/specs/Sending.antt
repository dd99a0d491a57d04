-- What the writer of the kept fields is told besides them.
use Rattle.std.specs.Prelude.{Bool, ℕ}
use Rattle.sip.specs.declared.Span.{Span}
use Rattle.judgement.specs.declared.Judged.{Judged}
use Rattle.gateway.specs.declared.message.Outgoing.{Outgoing}

-- whether the caller is masked, what Max-Forwards says, the length of the body, and where the tag stands in From's value
pub record Sending : Type 0 where
  pub masked : Bool
  pub hops : ℕ
  pub body : ℕ
  pub tag : Span

abbrev pub sending_of : Bool → Judged → Sending
sending_of masked j = record { masked = masked; hops = j.hops; body = j.body; tag = j.tag }

abbrev pub sending_by : Outgoing → Sending
sending_by o = sending_of o.masked o.of.now.judged
