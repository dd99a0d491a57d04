-- The numbers of each case of the verdict (Cases).
use Rattle.mishkolar.proofs.Cases.{accepted_numbers, refused_numbers}
use borrow.Author.Rules.{rules}
use Rattle.mishkolar.proofs.mishkolar_screen.Goals as goal

pub returns-in-Accepted : goal.returns-in-Accepted
returns-in-Accepted c = search (accepted_numbers, rules)

pub returns-in-Refused : goal.returns-in-Refused
returns-in-Refused c = search (refused_numbers, rules)
