-- Both texts.
use Rattle.sip.proofs.Calls.Pairs.{made}
use Rattle.gateway.proofs.message.Accepted.pair.Goals as goal

pub returns : goal.returns
returns c = made c.call_id.ensures c.from_tag.ensures
