-- The invariant: the sum and the length of the lines from the i-th slot on are the length of all; each line has at most 8265 bytes.
use mathlib.Core.Path.{◌≡◌, ap}
use mathlib.Core.Bool.{Bool, true, false}
use Prim.Native.Nat.{ℕ, ◌+◌, ◌≤◌, ◌<◌}
use native.Mathlib.Omega.{arith}
use lib.ListN.{length, length-append}
use borrow.Author.Rules.{rules}
use Rattle.lines.specs.declared.Slot.{Slot}
use Rattle.lines.specs.Index.{slot_at}
use Rattle.judgement.specs.Sets.{has}
use Rattle.gateway.specs.declared.message.Outgoing.{Outgoing}
use Rattle.gateway.specs.Accepted.{lines_by, line_by}
use Rattle.gateway.proofs.Passing.{few, goes_out, after_all, none_after, sent_after, not_after}
use Rattle.gateway.proofs.message.Outgoing.lines_len.Invariants.{Left}
use Rattle.gateway.proofs.message.Outgoing.lines_len.Goals.{then-in_set, else-in_set}
use Rattle.gateway.proofs.message.Outgoing.lines_len.Goals as goal

module _ (o : Outgoing) where
  begin : Left o 0 0
  begin = rw (after_all o) (omega arith)

  module _ (i sum : ℕ) (g : Left o i sum) where
    finish : o.of.now.judged.count ≤ i → sum ≡ length (lines_by o)
    finish h = omega (arith, ap length (none_after o i h), g)

    module _ (h : i < o.of.now.judged.count) {s : Slot} (es : s ≡ slot_at o.of.now.slots.now i) {b : Bool} (eb : b ≡ has o.sent s.number) where
      counted : b ≡ true → {k n : ℕ} → k ≡ length (line_by o s) → n ≡ sum + k → Left o (i + 1) n
      counted q ek en = omega (arith, g, simp length-append at (ap length (sent_after o i h es eb q)))

      passed : b ≡ false → {n : ℕ} → n ≡ sum → Left o (i + 1) n
      passed q en = omega (arith, g, ap length (not_after o i h es eb q))

pub loop-i-init : goal.loop-i-init
loop-i-init c = search (begin, rules)

pub line_len-sum-requires : goal.line_len-sum-requires
line_len-sum-requires c = search (goes_out, rules)

pub overflow_add-sum : goal.overflow_add-sum
overflow_add-sum c = omega (arith, few c.args.self.now, c.loop-i.invariant.0)

pub loop-i-preserved : goal.loop-i-preserved
loop-i-preserved c = elim c.if-in_set.branch [
  | then-in_set w ↦ (omega (arith, w.sum-is, w.line_len-sum.ensures.1, c.loop-i.invariant.0), counted c.args.self.now c.loop-i.i c.loop-i.sum c.loop-i.invariant.1 c.loop-i-test.true c.slot_at-s.ensures.0 c.in_set.ensures w.if-in_set.true w.line_len-sum.ensures.0 w.sum-is)
  | else-in_set w ↦ (omega (arith, w.sum-is, c.loop-i.invariant.0), passed c.args.self.now c.loop-i.i c.loop-i.sum c.loop-i.invariant.1 c.loop-i-test.true c.slot_at-s.ensures.0 c.in_set.ensures w.if-in_set.false w.sum-is)
]

pub returns : goal.returns
returns c =
    let o = c.args.self.now in
    (finish o c.loop-i.i c.loop-i.sum c.loop-i.invariant.1 c.loop-i-test.false, omega (arith, c.loop-i.invariant.0, c.loop-i.auto.i-end, few o))
