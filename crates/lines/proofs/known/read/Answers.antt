-- A byte before a colon is a compact name, or none that is listed. What twenty bytes tell is told at their place.
use borrow.Author.Rules.{rules}
use Rattle.lines.proofs.Spelt.{letter_by, in_place, place_fits}
use Rattle.lines.proofs.known.read.Goals as goal

pub returns-then-s-at-eq58 : goal.returns-then-s-at-eq58
returns-then-s-at-eq58 c = letter_by _ _ (search rules) (search rules) _ c.compact.ensures.0 c.compact.ensures.1 (search rules) (search rules)

pub overflow_add-result-2 : goal.overflow_add-result-2
overflow_add-result-2 c =
    let fits = place_fits c.in_ok-found.ensures c.args.s.now c.args.at c.in_ok-name.ensures.cases.same (search rules) in
    search rules

pub returns : goal.returns
returns c = in_place c.in_ok-found.ensures c.args.s.now c.args.at c.in_ok-name.ensures.cases.same (search rules)
