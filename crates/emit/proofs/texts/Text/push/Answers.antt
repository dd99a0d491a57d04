-- What is copied stands behind the text; where there is no room there is no text.
use Rattle.std.proofs.Common.{rules, sym, ◌∙◌}
use borrow.Author.Tests.{leb-true, leb-false}
use Rattle.emit.specs.Texts.{pushed}
use Rattle.emit.proofs.Pushes.{copied, copied_end, no_room, seen}
use Rattle.emit.proofs.texts.Text.push.Goals as goal

pub returns-then-has_room : goal.returns-then-has_room
returns-then-has_room g c =
    copied c.copy.ensures c.self.told (leb-true _ _ (sym c.has_room.ensures ∙ c.if-has_room.true)) _ (seen c.self.inside.bytes c.in-Some.is _ c.self.view_is)

pub returns-else-has_room : goal.returns-else-has_room
returns-else-has_room g c =
    no_room c.self.inside.bytes c.in-Some.at g.row.N c.args.s.now c.self.told (rw c.in-Some.is at c.self.invariant)
    (leb-false _ _ (sym c.has_room.ensures ∙ c.if-has_room.false)) _ (seen c.self.inside.bytes c.in-Some.is _ c.self.view_is)

pub returns-in_default : goal.returns-in_default
unfolding pushed
returns-in_default g c = search rules

pub invariant_of-self : goal.invariant_of-self
invariant_of-self g c = copied_end c.copy.ensures c.self.told (leb-true _ _ (sym c.has_room.ensures ∙ c.if-has_room.true))
