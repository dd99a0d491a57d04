-- Octet 2 has each field as it is named exactly where it is 19 or 23 (Decoding).
use Rattle.std.proofs.Common.{refl, sym, ◌∙◌}
use Rattle.isup.specs.Fields.{fields_of}
use Rattle.isup.proofs.Decoding.{not_ok, nature_other, octet_other, both_named}
use Rattle.isup.proofs.backward.fields_in.Goals as goal

pub returns-in_err-nature-clause-variant : goal.returns-in_err-nature-clause-variant
returns-in_err-nature-clause-variant c =
    not_ok c.from_residual.result c.from_residual.ensures.0
    ∙ nature_other c.args.s.now refl c.in_err-nature.ensures.1 c.in_err-nature.ensures.2

pub returns-in_err-presentation-clause-variant : goal.returns-in_err-presentation-clause-variant
returns-in_err-presentation-clause-variant c =
    not_ok c.from_residual-in_err-presentation.result c.from_residual-in_err-presentation.ensures.0
    ∙ octet_other c.args.s.now c.in_ok-nature.nature c.in_ok-nature.ensures c.in_err-presentation.ensures.1 c.in_err-presentation.ensures.2

pub returns-clause-variant : goal.returns-clause-variant
returns-clause-variant c =
    both_named c.args.s.now c.in_ok-nature.nature c.in_ok-nature.ensures c.in_ok-presentation.presentation c.in_ok-presentation.ensures

pub returns-clause-fields : goal.returns-clause-fields
unfolding fields_of
returns-clause-fields c = (sym c.in_ok-nature.ensures, sym c.in_ok-presentation.ensures)
