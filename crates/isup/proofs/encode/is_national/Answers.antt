-- The next node is at home or not (Encoding).
use Rattle.isup.proofs.Encoding.{away, at_home}
use Rattle.isup.proofs.encode.is_national.Goals as goal

pub returns-then-home : goal.returns-then-home
returns-then-home c = search at_home

pub returns-else-home : goal.returns-else-home
returns-else-home c = search away
