-- The pieces are the line; what came is no more than 20 counts come to (Pushing).
use Rattle.std.proofs.Common.{arith, ◌∙◌}
use Rattle.records.proofs.Pushing.{row_pushed, sum_total, total_most, total_first}
use Rattle.records.proofs.report.push_row.Goals as goal

pub push_shares-requires : goal.push_shares-requires
push_shares-requires c =
    let e = c.total.ensures ∙ sum_total c.args.row.now in (
      omega (arith, e, c.from.ensures, total_first c.args.row.now),
      omega (arith, e, total_most c.args.row.now c.type_inv.row),
    )

pub returns : goal.returns
returns c = row_pushed c.args.text.now c.args.row.now c.total.ensures c.from.ensures c.push_shares.ensures c.push_pairs.ensures c.push.ensures
