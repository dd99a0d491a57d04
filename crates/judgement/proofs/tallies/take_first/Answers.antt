-- The reader for the number, and what it found noted (Found).
use Rattle.judgement.proofs.Found.{read_noted, hops_noted, cut_noted, other_noted}
use Rattle.judgement.proofs.tallies.take_first.Goals as goal

pub returns-in-2 : goal.returns-in-2
returns-in-2 c = search hops_noted

pub returns-in-3 : goal.returns-in-3
returns-in-3 c = search read_noted

pub returns-in-4 : goal.returns-in-4
returns-in-4 c = search read_noted

pub returns-in-5 : goal.returns-in-5
returns-in-5 c = search read_noted

pub returns-in-8 : goal.returns-in-8
returns-in-8 c = search cut_noted

pub returns-in-14 : goal.returns-in-14
returns-in-14 c = search read_noted

pub returns-in-15 : goal.returns-in-15
returns-in-15 c = search read_noted

pub returns-in-16 : goal.returns-in-16
returns-in-16 c = search read_noted

pub returns-in_default : goal.returns-in_default
returns-in_default c = search other_noted
