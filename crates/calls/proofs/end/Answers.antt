-- The pair is held where there is a place (Says).
use Rattle.std.proofs.Common.{rules}
use Rattle.calls.proofs.Says.{holder_formed, holder_first, end_known, end_unknown, not_removed}
use Rattle.calls.proofs.end.Goals as goal

pub clear-requires : goal.clear-requires
clear-requires c =
    let e = c.in-Some.ensures.0 in
    let h = c.in-Some.ensures.1 in
    let formed = holder_formed c.args.pair.call_id.now c.args.pair.tag.now c.args.table.now c.told-table in
    let first = holder_first c.args.pair.call_id.now c.args.pair.tag.now c.args.table.now c.told-table in
    (formed e h, first e h, h)

pub returns-in-Some : goal.returns-in-Some
returns-in-Some c = search (end_known, rules)

pub returns-in-None : goal.returns-in-None
returns-in-None c = search (end_unknown, not_removed, rules)
