-- The invariant: the lines from the i-th slot on, put now, give what the lines of all, put at once, would give.
use mathlib.Core.Path.{◌≡◌, refl, sym, ap, ◌∙◌}
use mathlib.Core.Bool.{Bool, true, false}
use mathlib.Core.List.{List}
use Prim.Native.Nat.{ℕ, ◌+◌, ◌≤◌, ◌<◌}
use native.Mathlib.Omega.{arith}
use lib.ListN.{length, length-append}
use borrow.Author.Rules.{rules}
use Rattle.emit.specs.Put.{Wrote}
use Rattle.emit.proofs.Laws.{length_put, next_nil, put_nil, next_after, put_after, wrote_room, wrote_length}
use Rattle.lines.specs.declared.Slot.{Slot}
use Rattle.lines.specs.Index.{slot_at}
use Rattle.judgement.specs.Sets.{has}
use Rattle.gateway.specs.declared.message.Outgoing.{Outgoing}
use Rattle.gateway.specs.Accepted.{lines_by, line_by}
use Rattle.gateway.proofs.Passing.{few, lines_after, goes_out, after_all, none_after, sent_after, not_after}
use Rattle.gateway.proofs.message.Outgoing.put_lines.Invariants.{Left}
use Rattle.gateway.proofs.message.Outgoing.put_lines.Goals.{then-in_set, else-in_set}
use Rattle.gateway.proofs.message.Outgoing.put_lines.Goals as goal

module _ (d : List ℕ) (from : ℕ) (o : Outgoing) where
  begin : from + length (lines_by o) ≤ length d → Left d from o d from 0
  begin h = record { room = rw (after_all o) h; wrote = rw (after_all o) (record { next = refl; holds = refl }) }

  module _ (d' : List ℕ) (at i : ℕ) (g : Left d from o d' at i) where
    stays : length d' ≡ length d
    stays = sym (length_put d' at (lines_after o i)) ∙ wrote_length g.wrote

    finish : o.of.now.judged.count ≤ i → Wrote d from (lines_by o) at d'
    finish h = rw (none_after o i h, next_nil, put_nil) at g.wrote

    module _ (h : i < o.of.now.judged.count) {s : Slot} (es : s ≡ slot_at o.of.now.slots.now i) {b : Bool} (eb : b ≡ has o.sent s.number) where
      fits : b ≡ true → at + length (line_by o s) ≤ length d'
      fits q = omega (arith, g.room, simp length-append at (ap length (sent_after o i h es eb q)))

      put : b ≡ true → {r n : ℕ} {d'' e : List ℕ} → Wrote d' at (line_by o s) r d'' → n ≡ r → e ≡ d'' → Left d from o e n (i + 1)
      put q p en ed =
          let x = lines_after o (i + 1) in
          let y = sent_after o i h es eb q in
          let l : at + (length (line_by o s) + length x) ≤ length d' = omega (arith, g.room, simp length-append at (ap length y)) in
          record {
            room = rw (en, ed) (omega (arith, (wrote_room p (omega arith)).0, wrote_length p));
            wrote = rw (en, ed, next_after p x l, put_after p x l, ← y) g.wrote;
          }

      passed : b ≡ false → {n : ℕ} {e : List ℕ} → n ≡ at → e ≡ d' → Left d from o e n (i + 1)
      passed q en ed =
          let y = not_after o i h es eb q in
          record {
            room = rw (en, ed, ← y) g.room;
            wrote = rw (en, ed, ← y) g.wrote;
          }

pub loop-i-init : goal.loop-i-init
loop-i-init c = search (begin, rules)

pub put_line-at-requires : goal.put_line-at-requires
put_line-at-requires c =
    let o = c.args.self.now in
    let h : c.loop-i.i < o.of.now.judged.count = omega arith in (
      goes_out o c.loop-i.i h c.slot_at-s.ensures.0 c.in_set.ensures c.if-in_set.true,
      fits c.args.out.now c.args.from o c.loop-i.out c.loop-i.at c.loop-i.i c.loop-i.invariant h c.slot_at-s.ensures.0 c.in_set.ensures c.if-in_set.true,
    )

pub loop-i-preserved : goal.loop-i-preserved
loop-i-preserved c =
    let o = c.args.self.now in
    let h : c.loop-i.i < o.of.now.judged.count = omega arith in
    elim c.if-in_set.branch [
      | then-in_set w ↦
          put c.args.out.now c.args.from o c.loop-i.out c.loop-i.at c.loop-i.i c.loop-i.invariant h c.slot_at-s.ensures.0 c.in_set.ensures
          w.if-in_set.true w.put_line-at.ensures w.at-is w.out-is
      | else-in_set w ↦
          passed c.args.out.now c.args.from o c.loop-i.out c.loop-i.at c.loop-i.i c.loop-i.invariant h c.slot_at-s.ensures.0 c.in_set.ensures
          w.if-in_set.false w.at-is w.out-is
    ]

pub returns : goal.returns
returns c =
    let o = c.args.self.now in
    let n = few o in
    finish c.args.out.now c.args.from o c.loop-i.out c.loop-i.at c.loop-i.i c.loop-i.invariant (omega arith)
