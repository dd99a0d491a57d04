-- With the code or without it.
use Rattle.std.proofs.Common.{rules}
use Rattle.isup.specs.Forward.{sent}
use Rattle.isup.proofs.encode.sent_part.Goals as goal

pub returns-in-National : goal.returns-in-National
unfolding sent
returns-in-National c = search rules

pub returns-in-International : goal.returns-in-International
unfolding sent
returns-in-International c = search rules
