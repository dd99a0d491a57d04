-- Two cases of the method.
use Rattle.octets.specs.Classes.{text}
use Rattle.gateway.proofs.CallStates.{is_bye, is_other_lem}
use Rattle.gateway.proofs.message.Accepted.known.Goals as goal

pub returns-then-same : goal.returns-then-same
unfolding text
returns-then-same c = search is_bye

pub returns : goal.returns
unfolding text
returns c = search is_other_lem
