-- The columns fit, and the star stands where the row is the cause, that is where the cause is listed.
use Rattle.std.proofs.Common.{◌≡◌, ◌∙◌, arith, ap}
use Rattle.causes.specs.Causes.{status}
use Rattle.emit.specs.Texts.{pushed}
use Rattle.emit.proofs.Pushes.{pushed_append}
use Rattle.cause_text.proofs.Columns.{status_small, row_small, line_is}
use Rattle.cause_text.proofs.table.push_line.Goals as goal

pub push_columns-requires : goal.push_columns-requires
push_columns-requires c =
    let e : c.from-answer.result ≡ status c.args.cause = c.from-answer.ensures ∙ c.status_of_cause.ensures in
    (omega arith, status_small c.args.cause c.requires e, row_small c.args.cause c.requires e)

pub returns : goal.returns
returns c =
    let e : c.from-answer.result ≡ status c.args.cause = c.from-answer.ensures ∙ c.status_of_cause.ensures in
    c.push_end.ensures ∙ rw c.push_columns.ensures (pushed_append _ _ _ _) ∙ ap (pushed 1792 c.args.text.now) (line_is c.args.cause e)
