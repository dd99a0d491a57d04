-- `octets::has_break` meets its contract: the library looks for a first byte of a line break.
use Rattle.std.proofs.Common.{rules}
use Rattle.std.proofs.lemmas.Iterator.{YieldsList-from_slice}
use Rattle.std.proofs.lemmas.Iterator.Search.{any_from_yields_List}
use borrow.Author.Tests.{tests}
use Rattle.octets.specs.Classes.{is_break}
use Rattle.octets.proofs.Runs.{any_from}
use Rattle.octets.proofs.has_break.Goals as goal

pub returns : goal.returns
returns c =
    any_from is_break c.args.s.now
    (any_from_yields_List is_break _ _ _ c.any.ensures.ran (YieldsList-from_slice c.args.s.now cc) (λ x b q k. search (rules, tests)))
