-- The text that stands is the name with its colon.
use Rattle.std.proofs.Common.{◌≤◌, length, arith}
use borrow.Author.Rules.{rules}
use Rattle.lines.proofs.Spelt.{spelling_long, spelling_short, spelt}
use Rattle.lines.proofs.known.told.Goals as goal

pub stand-requires : goal.stand-requires
stand-requires c =
    let l : 4 ≤ length c.args.spelling.now = search (spelling_long, rules) in
    let h : length c.args.spelling.now ≤ 20 = search (spelling_short, rules) in
    (omega arith, omega arith)

pub returns : goal.returns
returns c = search (spelt, rules)
