-- The text before the tag and the tag are written one after the other.
use mathlib.Core.Path.{◌≡◌, refl, ◌∙◌}
use mathlib.Core.Bool.{Bool, true, false, cond}
use mathlib.Core.List.{List, ◌++◌}
use Prim.Native.Nat.{ℕ, ◌+◌, ◌≤◌}
use native.Mathlib.Omega.{arith}
use lib.ListN.{length, take, drop}
use borrow.Author.Rules.{rules}
use Rattle.octets.specs.Classes.{text, is_gap}
use Rattle.octets.specs.Scans.{any}
use Rattle.sip.specs.declared.Span.{Span}
use Rattle.sip.specs.Lines.{folded, unfolded_at}
use Rattle.sip.specs.Readings.{part}
use Rattle.sip.specs.Output.{anonymous}
use Rattle.sip.proofs.Unfolded.{unfolded_part}
use Rattle.emit.specs.Put.{Wrote}
use Rattle.emit.proofs.Laws.{then, wrote_room, wrote_length, wrote_as}
use Rattle.gateway.proofs.Lines.{anonymous_length}
use Rattle.gateway.proofs.output.put_masked_from.Goals as goal

module _ (tag : Span) (v : List ℕ) (b : Bool) where
  abbrev tagged : List ℕ
  tagged = part tag (cond b (folded 0 v) v)

  stands : any is_gap tagged ≡ false → {k : ℕ} → k ≡ cond b (unfolded_at tag.start 0 v) tag.start → take tag.len (drop k v) ≡ tagged
  stands g e = rw e (go b refl)
    where
      go : (t : Bool) → b ≡ t → take tag.len (drop (cond b (unfolded_at tag.start 0 v) tag.start) v) ≡ tagged
      go true q = let p : any is_gap (part tag (folded 0 v)) ≡ false = rw q at g in rw q (unfolded_part v tag.start tag.len p)
      go false q = rw q

  module _ (d : List ℕ) (at : ℕ) (h : at + (50 + length tagged) ≤ length d) where
    front_fits : at + 50 ≤ length d
    front_fits = omega arith

    module _ (g : any is_gap tagged ≡ false) {k : ℕ} (ek : k ≡ cond b (unfolded_at tag.start 0 v) tag.start)
        {y : List ℕ} (ey : y ≡ take tag.len (drop k v)) {d₁ : List ℕ} {n : ℕ} (p : Wrote d at anonymous n d₁) where
      tag_is : y ≡ tagged
      tag_is = ey ∙ stands g ek

      tag_fits : n + length y ≤ length d₁
      tag_fits = rw tag_is (omega (arith, wrote_length p, anonymous_length, (wrote_room p (rw anonymous_length front_fits)).0))

      both : {d₂ : List ℕ} {r : ℕ} → Wrote d₁ n y r d₂ → Wrote d at (anonymous ++ tagged) r d₂
      both q = then p (wrote_as q tagged tag_is) (rw anonymous_length h)

pub put-next-requires : goal.put-next-requires
put-next-requires c = search (front_fits, rules)

pub value-requires : goal.value-requires
unfolding anonymous text
value-requires c = search (tag_fits, rules)

pub returns : goal.returns
unfolding anonymous text
returns c = search both
