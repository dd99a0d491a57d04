-- The text that stands is the name with its colon and a space.
use Rattle.octets.specs.Classes.{text}
use borrow.Author.Rules.{rules}
use Rattle.lines.proofs.Spelt.{to_spelt}
use Rattle.lines.proofs.known.to.Goals as goal

pub returns : goal.returns
unfolding text
returns c = search (to_spelt, rules)
