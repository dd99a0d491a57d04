-- A value on one line after one space by its law, and any other by its part.
use borrow.Author.Rules.{rules}
use native.Mathlib.Omega.{arith}
use Rattle.lines.proofs.Breaks.{after_space, spaced_slot}
use Rattle.lines.proofs.header.slot.Goals as goal

pub returns-then-is_plain : goal.returns-then-is_plain
returns-then-is_plain c = (search (spaced_slot, rules), search rules, omega (arith, after_space _ c.if-is_plain.true c.is_plain.ensures.1))
