-- What is left of the mandatory mask is looked at by `Members`: `lacks_none` where it is 0, else `lacks_some`.
use Rattle.judgement.proofs.Members.{lacks_none, some_lack, lacks_some}
use Rattle.judgement.proofs.sets.lack_of.Goals as goal

pub returns-then-left-eq0 : goal.returns-then-left-eq0
returns-then-left-eq0 c = search lacks_none

pub returns : goal.returns
returns c = search (lacks_some, some_lack)
