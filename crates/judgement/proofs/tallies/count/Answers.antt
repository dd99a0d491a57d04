-- Field by field; the first of a number repeats none.
use mathlib.Core.Path.{◌≡◌, sym, ◌∙◌}
use mathlib.Core.Bool.{Bool, false, cond, ◌&&◌, and-false}
use Prim.Native.Nat.{ℕ, ◌^◌}
use lib.Bits.{bit_or}
use Rattle.sip.specs.Profile.{once}
use Rattle.judgement.specs.declared.Tally.{Tally}
use Rattle.judgement.specs.Sets.{has}
use Rattle.judgement.specs.Tallies.{or_else, recounted, counted}
use borrow.Author.Tests.{ne_eqb}
use Rattle.judgement.proofs.Totals.{else_none}
use Rattle.judgement.proofs.tallies.count.Goals.{then-this-ne0, else-this-ne0}
use Rattle.judgement.proofs.tallies.count.Goals as goal

whole : (t : Tally) (n : ℕ) (good : Bool) {seen again malformed : ℕ} → seen ≡ bit_or t.seen (2 ^ n)
    → again ≡ or_else t.again (cond (once n && has t.seen n) n 0) → malformed ≡ or_else t.malformed (cond good 0 n)
    → recounted t seen again malformed ≡ counted t n good
unfolding counted
whole t n good s a m = rw (s, a, m)

unrepeated : (again seen n : ℕ) → has seen n ≡ false → again ≡ or_else again (cond (once n && has seen n) n 0)
unrepeated again seen n h = rw (h, and-false (once n)) (sym (else_none again))

pub returns : goal.returns
returns g c =
    elim c.if-this-ne0.branch [
      | then-this-ne0 w ↦ whole c.args.t c.args.n c.args.good c.with_number.ensures (w.again-is ∙ unrepeated c.args.t.again c.args.t.seen c.args.n (rw (ne_eqb g.row.FIRST 0 w.if-this-ne0.true) at c.requires.new)) c.malformed_of.ensures
      | else-this-ne0 w ↦ whole c.args.t c.args.n c.args.good c.with_number.ensures (w.again-is ∙ w.again_of-again.ensures) c.malformed_of.ensures
    ]
