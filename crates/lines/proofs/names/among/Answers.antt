-- The invariant: the name is none of the spellings that are looked at.
use Rattle.lines.proofs.Spellings.{none_among, hit_among, next_among}
use Rattle.lines.proofs.names.among.Goals as goal

pub returns-then-same_text : goal.returns-then-same_text
returns-then-same_text g c = search hit_among

pub loop-spelling-preserved : goal.loop-spelling-preserved
loop-spelling-preserved g c = search next_among

pub returns : goal.returns
returns g c = search none_among
