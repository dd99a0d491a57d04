-- What goes out is one of five texts, by the number and by what the writer is told; that one is written.
use mathlib.Core.Path.{◌≡◌, ap}
use mathlib.Core.Bool.{Bool, true, false, cond, ◌&&◌}
use mathlib.Core.List.{List, ◌++◌}
use Prim.Native.Nat.{ℕ, ◌+◌, ◌-◌, ◌≤◌}
use native.Mathlib.Omega.{arith}
use lib.Dec.{eqb}
use lib.ListN.{length, take, drop}
use borrow.Author.Rules.{rules}
use Rattle.octets.specs.Classes.{is_gap}
use Rattle.octets.specs.Scans.{any}
use Rattle.sip.specs.Lines.{folded}
use Rattle.sip.specs.Output.{numeral, anonymous}
use Rattle.emit.specs.Put.{Wrote}
use Rattle.emit.proofs.Laws.{wrote_as}
use Rattle.lines.specs.declared.Slot.{Slot}
use Rattle.gateway.specs.Sending.{Sending, sending_by}
use Rattle.judgement.specs.Entries.{value_at, entry_at}
use Rattle.judgement.specs.Judges.{Tells}
use Rattle.gateway.proofs.Lines.{raw, sent_at, tag_at, sent_hops, sent_body, sent_from, plain_tag, from_length, sent_broken, sent_whole}
use Rattle.gateway.proofs.message.Outgoing.put_value.Goals as goal

-- the tag in the value as the slot has it
abbrev tag_in : Sending → Slot → List ℕ → List ℕ
tag_in w s v = take w.tag.len (drop w.tag.start (cond s.folded (folded 0 v) v))

module _ (w : Sending) (m : List ℕ) (s : Slot) (t : Tells w.hops w.tag (entry_at m s)) {v : List ℕ} (ev : v ≡ raw m s)
    (two : s.number ≡ 2 → ⊥) (eight : s.number ≡ 8 → ⊥) {f : Bool} (ef : f ≡ (w.masked && eqb s.number 3)) (q : f ≡ true) where
  tag_is : tag_in w s v ≡ tag_at w m s
  unfolding value_at
  tag_is = rw ev

  plain : any is_gap (tag_in w s v) ≡ false
  plain = rw tag_is (plain_tag w m s t two eight ef q)

  room : (d : List ℕ) (at : ℕ) → at + length (sent_at w m s) ≤ length d → at + (50 + length (tag_in w s v)) ≤ length d
  room d at h = omega (arith, from_length w m s t two eight ef q, ap length tag_is)

  from : {d d' : List ℕ} {at r : ℕ} → Wrote d at (anonymous ++ tag_in w s v) r d' → Wrote d at (sent_at w m s) r d'
  from p = wrote_as p (sent_at w m s) (rw tag_is (sent_from w m s t two eight ef q))

-- the room for what goes out is room for the text that it is
module _ (w : Sending) (m : List ℕ) (s : Slot) (t : Tells w.hops w.tag (entry_at m s)) (d : List ℕ) (at : ℕ)
    (h : at + length (sent_at w m s) ≤ length d) where
  hops_fit : {n : ℕ} → s.number ≡ 2 → n ≡ w.hops - 1 → at + length (numeral n) ≤ length d
  hops_fit q e = rw (sent_hops w m s t q e) h

  body_fits : s.number ≡ 8 → at + length (numeral w.body) ≤ length d
  body_fits q = rw (sent_body w m s t q) h

  whole_fits : (s.number ≡ 2 → ⊥) → (s.number ≡ 8 → ⊥) → {f : Bool} → f ≡ (w.masked && eqb s.number 3) → f ≡ false → {v : List ℕ}
      → v ≡ raw m s → s.folded ≡ false → at + length v ≤ length d
  whole_fits two eight ef q ev b = rw (sent_whole w m s t two eight ef q ev b) h

pub put_number-requires : goal.put_number-requires
put_number-requires c = search (hops_fit (sending_by c.args.self.now), rules)

pub returns-then-s-eq2 : goal.returns-then-s-eq2
returns-then-s-eq2 c = search (wrote_as, sent_hops (sending_by c.args.self.now))

pub put_number-requires-then-s-eq8 : goal.put_number-requires-then-s-eq8
put_number-requires-then-s-eq8 c = search (body_fits (sending_by c.args.self.now), rules)

pub returns-then-s-eq8 : goal.returns-then-s-eq8
returns-then-s-eq8 c = search (wrote_as, sent_body (sending_by c.args.self.now))

pub put_masked_from-requires : goal.put_masked_from-requires
put_masked_from-requires c = search (plain (sending_by c.args.self.now), room (sending_by c.args.self.now), rules)

pub returns-then-masks : goal.returns-then-masks
returns-then-masks c = search (from (sending_by c.args.self.now))

pub returns-then-s : goal.returns-then-s
returns-then-s c = search (wrote_as, sent_broken (sending_by c.args.self.now))

pub value-requires : goal.value-requires
value-requires c = search (whole_fits (sending_by c.args.self.now), rules)

pub returns : goal.returns
returns c = search (wrote_as, sent_whole (sending_by c.args.self.now))
