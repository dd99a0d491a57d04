-- No report is longer (Pushing).
use Rattle.std.proofs.Common.{[], ap, ◌∙◌}
use Rattle.emit.specs.Texts.{pushed}
use Rattle.records.specs.Report.{printed}
use Rattle.records.specs.Running.{state_of, report_of}
use Rattle.records.proofs.Pushing.{report_pushed}
use Rattle.records.proofs.put_report.Goals as goal

pub returns : goal.returns
returns c =
    let e = c.push_all.ensures ∙ ap (λ o. pushed 4096 o (printed (report_of (state_of c.args.st [])))) c.new-text.ensures ∙ report_pushed (state_of c.args.st []) in
    rw e at c.put.ensures
