-- By what stands there: nothing, a number, or something else.
use Rattle.std.proofs.Common.{◌∙◌, ap, arith}
use Rattle.emit.specs.Texts.{pushed}
use Rattle.octets.specs.Classes.{text}
use Rattle.cause_text.specs.Text.{line_text}
use Rattle.cause_text.proofs.Input.{no_bytes, some_bytes, no_length, some_length}
use Rattle.cause_text.proofs.push_lines.Goals as goal

pub returns-then-is_empty : goal.returns-then-is_empty
returns-then-is_empty c =
    let n = no_length _ c.is_empty.ensures c.if-is_empty.true in
    c.push_table.ensures ∙ ap (pushed 1792 c.args.text.now) (no_bytes c.args.input.now (omega arith))

pub returns-in-Some : goal.returns-in-Some
unfolding line_text
returns-in-Some c =
    let n = some_length _ c.is_empty.ensures c.if-is_empty.false in
    rw (some_bytes c.args.input.now (omega arith), ← c.without_lf.ensures, ← c.number_of.ensures, c.in-Some.is) c.push_answer.ensures

pub returns-in-None : goal.returns-in-None
unfolding line_text text
returns-in-None c =
    let n = some_length _ c.is_empty.ensures c.if-is_empty.false in
    rw (some_bytes c.args.input.now (omega arith), ← c.without_lf.ensures, ← c.number_of.ensures, c.in-None.is) c.push.ensures
