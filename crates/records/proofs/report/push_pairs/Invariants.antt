-- The pairs so far, and those that are left, are all.
use Rattle.std.proofs.Common.{◌≡◌, ◌+◌, drop}
use Rattle.emit.specs.Texts.{pushed}
use Rattle.records.specs.Report.{pairs}
use Rattle.records.proofs.report.push_pairs.Given as goal

abbrev pub invariant-loop-i : goal.invariant-loop-i
invariant-loop-i l = pushed 4096 l.text (pairs (1 + l.i) (drop l.i l.refused)) ≡ pushed 4096 l.initial.text (pairs 1 l.refused)
