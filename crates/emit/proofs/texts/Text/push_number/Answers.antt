-- The number stands behind the text; where there is no room there is no text (Pushes).
use Rattle.std.proofs.Common.{rules}
use Rattle.emit.specs.Texts.{pushed}
use Rattle.emit.proofs.Pushes.{number_end, number_pushed, seen}
use Rattle.emit.proofs.texts.Text.push_number.Goals as goal

pub returns-in-Some : goal.returns-in-Some
returns-in-Some g c =
    number_pushed c.args.n c.put_whole_number-next.ensures c.self.told (rw c.in-Some.is at c.self.invariant) c.then_some-self-inside.ensures _
    (seen c.self.inside.bytes c.in-Some.is _ c.self.view_is)

pub returns-in_default : goal.returns-in_default
unfolding pushed
returns-in_default g c = search rules

pub invariant_of-self : goal.invariant_of-self
invariant_of-self g c =
    number_end _ c.put_whole_number-next.ensures c.self.told (rw c.in-Some.is at c.self.invariant) c.then_some-self-inside.ensures
