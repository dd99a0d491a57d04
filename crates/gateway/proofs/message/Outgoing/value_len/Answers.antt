-- What goes out is one of five texts, by the number and by what the writer is told; each has the length that is answered.
use mathlib.Core.Path.{◌≡◌, ◌∙◌, ap}
use mathlib.Core.Bool.{Bool, true, ◌&&◌}
use mathlib.Core.List.{List}
use Prim.Native.Nat.{ℕ, ◌+◌, ◌≤◌}
use native.Mathlib.Omega.{arith}
use lib.Dec.{eqb}
use lib.ListN.{length}
use mir.Syntax.{w64}
use mir.Val.{Fits}
use borrow.Author.Rules.{rules}
use Rattle.sip.specs.Output.{numeral}
use Rattle.emit.proofs.Numerals.{numeral_le}
use Rattle.lines.specs.declared.Slot.{Slot}
use Rattle.gateway.specs.Sending.{Sending, sending_by}
use Rattle.judgement.specs.Entries.{entry_at}
use Rattle.judgement.specs.Judges.{Tells}
use Rattle.gateway.proofs.Lines.{sent_hops, sent_body, sent_broken, sent_whole, from_told, tag_le}
use Rattle.gateway.proofs.Passing.{short as short_message}
use Rattle.gateway.proofs.message.Outgoing.value_len.Goals as goal

short : (n : ℕ) {k : ℕ} → k ≡ length (numeral n) → k ≤ 8242
short n e = omega (arith, numeral_le n)

-- the length of the same text, said otherwise
long_as : (a b : List ℕ) {k : ℕ} → k ≡ length a → a ≡ b → k ≡ length b
long_as a b e q = e ∙ ap length q

as_long : (a b : List ℕ) → a ≡ b → length a ≡ length b
as_long a b q = ap length q

module _ (w : Sending) (m : List ℕ) (s : Slot) (t : Tells w.hops w.tag (entry_at m s)) (two : s.number ≡ 2 → ⊥) (eight : s.number ≡ 8 → ⊥)
    {f : Bool} (ef : f ≡ (w.masked && eqb s.number 3)) (q : f ≡ true) (h : length m ≤ 8192) where
  from_le : 50 + w.tag.len ≤ 8242
  from_le = omega (arith, tag_le w m s t two eight ef q)

  from_fits : Fits w64 (50 + w.tag.len)
  from_fits = omega (arith, from_le)

pub returns-then-s-eq2 : goal.returns-then-s-eq2
returns-then-s-eq2 c = search (long_as, sent_hops (sending_by c.args.self.now), short)

pub returns-then-s-eq8 : goal.returns-then-s-eq8
returns-then-s-eq8 c = search (long_as, sent_body (sending_by c.args.self.now), short)

pub overflow_add-result : goal.overflow_add-result
overflow_add-result c = search (from_fits (sending_by c.args.self.now), short_message c.args.self.now.of.now)

pub returns-then-masks : goal.returns-then-masks
returns-then-masks c = search (from_told (sending_by c.args.self.now), from_le (sending_by c.args.self.now), short_message c.args.self.now.of.now)

pub returns-then-s : goal.returns-then-s
returns-then-s c = search (long_as, sent_broken (sending_by c.args.self.now), short_message c.args.self.now.of.now, rules)

pub returns : goal.returns
returns c = search (as_long, sent_whole (sending_by c.args.self.now), short_message c.args.self.now.of.now, rules)
