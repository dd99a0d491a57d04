-- By whether it is a P-Asserted-Identity or a Require, and whether its number came before (Noted).
use borrow.Author.Tests.{ne_eqb}
use Rattle.judgement.proofs.Noted.{identity_noted, len_fits, start_fits, require_noted, again_noted, first_noted, new_noted}
use Rattle.judgement.proofs.tallies.note.Goals.{else-not-this-via-then-not-this+else-in_set, else-not-this-via-else-not-this}
use Rattle.judgement.proofs.tallies.note.Goals as goal

pub returns-then-n-eq15 : goal.returns-then-n-eq15
returns-then-n-eq15 g c = search identity_noted

pub require-requires-clause-tags : goal.require-requires-clause-tags
require-requires-clause-tags g c = search len_fits

pub require-requires-clause-place : goal.require-requires-clause-place
require-requires-clause-place g c = search start_fits

pub returns-then-n-eq14 : goal.returns-then-n-eq14
returns-then-n-eq14 g c = search require_noted

pub returns-then-in_set : goal.returns-then-in_set
returns-then-in_set g c = search again_noted

pub returns : goal.returns
returns g c =
    elim c.else-not-this.branch [
      | else-not-this-via-then-not-this+else-in_set w ↦ search new_noted
      | else-not-this-via-else-not-this w ↦
          first_noted c.args.t c.args.n c.args.f c.count-there.ensures c.if-n-eq15.false c.if-n-eq14.false
          (rw (ne_eqb g.row.FIRST 0 w.if-not-this.false) at c.requires.new) c.say.ensures
    ]
