-- The lines so far, and those that are left, are all.
use mathlib.Core.Path.{◌≡◌}
use Prim.Native.Nat.{◌-◌}
use Rattle.emit.specs.Texts.{pushed}
use Rattle.cause_text.specs.Text.{table_from, table}
use Rattle.cause_text.proofs.table.push_table.Given as goal

abbrev pub invariant-loop-cause : goal.invariant-loop-cause
invariant-loop-cause l = pushed 1792 l.text (table_from (128 - l.cause) l.cause) ≡ pushed 1792 l.initial.text table
