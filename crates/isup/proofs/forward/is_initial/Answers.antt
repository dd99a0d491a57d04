-- It keeps P-Asserted-Identity, and its To has no tag (Producing).
use Rattle.isup.proofs.Producing.{no_invite, by_tag}
use Rattle.isup.proofs.forward.is_initial.Goals as goal

pub returns-then-not-in_set : goal.returns-then-not-in_set
returns-then-not-in_set c = search no_invite

pub returns : goal.returns
returns c = search by_tag
