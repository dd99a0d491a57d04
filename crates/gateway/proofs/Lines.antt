-- What goes out for a field, by its number and by what the writer is told of it; its length; and the lines of the fields from a place on.
use mathlib.Core.Path.{◌≡◌, refl, sym, ap, ◌∙◌}
use mathlib.Core.Bool.{Bool, true, false, not, cond, ◌&&◌}
use mathlib.Core.List.{List, [], ◌∷◌, ◌++◌}
use Prim.Native.Nat.{ℕ, zero, suc, ◌+◌, ◌-◌, ◌≤◌, ◌<◌}
use native.Mathlib.Omega.{arith}
use lib.Dec.{eqb}
use lib.ListN.{length, take, drop, length-append, length-take, length-drop}
use lib.Seq.{length-take-le}
use borrow.Author.Tests.{eq-eqb, ne_eqb, eqb-true}
use Rattle.octets.specs.Classes.{text, is_gap}
use Rattle.octets.specs.Scans.{any}
use Rattle.sip.specs.Lines.{folded}
use Rattle.sip.specs.Profile.{name_of}
use Rattle.sip.specs.Output.{numeral, anonymous, sent_value, line, field_lines}
use Rattle.sip.specs.Refusals.{Entry}
use Rattle.sip.proofs.Canonical.{folded_le}
use Rattle.sip.proofs.Tags.{tag_plain}
use Rattle.sip.proofs.Tests.{never, and_right}
use Rattle.sip.specs.declared.Span.{Span}
use Rattle.lines.specs.declared.Slot.{Slot}
use Rattle.lines.specs.Index.{slot_at}
use Rattle.judgement.specs.Sets.{has}
use Rattle.judgement.specs.Entries.{value_at, entry_at, entries_from}
use Rattle.judgement.specs.Judges.{Tells, Told, also}
use Rattle.gateway.specs.Sending.{Sending}
use Rattle.gateway.specs.Sent.{Goes}

pub anonymous_length : length anonymous ≡ 50
unfolding anonymous text
anonymous_length = refl

-- ---- the value that a slot speaks of

module _ (m : List ℕ) (s : Slot) where
  abbrev pub raw : List ℕ
  raw = take s.len (drop s.start m)

  value_broken : s.folded ≡ true → value_at m s ≡ folded 0 raw
  unfolding value_at
  value_broken e = rw e

  value_whole : s.folded ≡ false → value_at m s ≡ raw
  unfolding value_at
  value_whole e = rw e

  raw_le : length raw ≤ length m
  raw_le = rw (length-take, length-drop) (omega arith)

  value_le : length (value_at m s) ≤ length m
  value_le = go s.folded refl
    where
      go : (t : Bool) → s.folded ≡ t → length (value_at m s) ≤ length m
      go true e = omega (arith, ap length (value_broken e), folded_le raw, raw_le)
      go false e = omega (arith, ap length (value_whole e), raw_le)

-- ---- as it goes out

abbrev pub sent_at : Sending → List ℕ → Slot → List ℕ
sent_at w m s = sent_value w.masked w.body (entry_at m s)

-- the tag where it is told to stand
abbrev pub tag_at : Sending → List ℕ → Slot → List ℕ
tag_at w m s = take w.tag.len (drop w.tag.start (value_at m s))

-- by the number, and by the test f that From is masked
module _ (w : Sending) (m : List ℕ) (s : Slot) (t : Tells w.hops w.tag (entry_at m s)) where
  pub sent_hops : {n : ℕ} → s.number ≡ 2 → n ≡ w.hops - 1 → numeral n ≡ sent_at w m s
  unfolding sent_value
  sent_hops q e = rw (e, eq-eqb s.number 2 q, t.hops_are q)

  pub sent_body : s.number ≡ 8 → numeral w.body ≡ sent_at w m s
  unfolding sent_value
  sent_body q = let z : eqb s.number 2 ≡ false = ne_eqb s.number 2 (λ y. omega arith) in rw (z, eq-eqb s.number 8 q)

  module _ (two : s.number ≡ 2 → ⊥) (eight : s.number ≡ 8 → ⊥) {f : Bool} (ef : f ≡ (w.masked && eqb s.number 3)) where
    module _ (q : f ≡ true) where
      is_from : s.number ≡ 3
      is_from = eqb-true s.number 3 (and_right w.masked (eqb s.number 3) (sym ef ∙ q))

      pub sent_from : anonymous ++ tag_at w m s ≡ sent_at w m s
      unfolding sent_value
      sent_from = rw (ne_eqb s.number 2 two, ne_eqb s.number 8 eight, ← ef, q, t.tag_is is_from)

      tag_length : length (tag_at w m s) ≡ w.tag.len
      tag_length = length-take-le w.tag.len (drop w.tag.start (value_at m s)) (rw length-drop (omega (arith, t.tag_within is_from)))

      pub plain_tag : any is_gap (tag_at w m s) ≡ false
      plain_tag = rw (← t.tag_is is_from) (tag_plain (value_at m s))

      pub from_length : length (sent_at w m s) ≡ 50 + length (tag_at w m s)
      from_length = sym (ap length sent_from) ∙ length-append anonymous (tag_at w m s) ∙ rw anonymous_length

      pub from_told : 50 + w.tag.len ≡ length (sent_at w m s)
      from_told = sym (from_length ∙ rw tag_length)

      pub tag_le : w.tag.len ≤ length m
      tag_le = omega (arith, t.tag_within is_from, value_le m s)

    module _ (q : f ≡ false) {v : List ℕ} (ev : v ≡ raw m s) where
      as_it_is : sent_at w m s ≡ value_at m s
      unfolding sent_value
      as_it_is = rw (ne_eqb s.number 2 two, ne_eqb s.number 8 eight, ← ef, q)

      pub sent_broken : s.folded ≡ true → folded 0 v ≡ sent_at w m s
      sent_broken b = rw (ev, as_it_is, value_broken m s b)

      pub sent_whole : s.folded ≡ false → v ≡ sent_at w m s
      sent_whole b = rw (ev, as_it_is, value_whole m s b)

-- ---- its line

pub line_length : (n : ℕ) (v : List ℕ) → length (line n v) ≡ length (name_of n) + (length v + 4)
unfolding line
line_length n v = simp length-append (omega arith)

lines_first : (masked : Bool) (body : ℕ) (e : Entry) (es : List Entry) → (masked && eqb e.number 15) ≡ false
    → field_lines masked body (e ∷ es) ≡ line e.number (sent_value masked body e) ++ field_lines masked body es
unfolding field_lines
lines_first masked body e es q = rw q

-- ---- the fields from the i-th slot on

abbrev pub fields_from : ℕ → List ℕ → List ℕ → ℕ → ℕ → List Entry
fields_from sent m ns count i = entries_from sent m ns (count - i) i

module _ (sent : ℕ) (m ns : List ℕ) (count i : ℕ) where
  fields_none : count ≤ i → fields_from sent m ns count i ≡ []
  unfolding entries_from
  fields_none h = let z : count - i ≡ 0 = omega arith in rw z

  module _ (h : i < count) {s : Slot} (es : s ≡ slot_at ns i) {b : Bool} (eb : b ≡ has sent s.number) {j : ℕ} (ej : j ≡ i + 1) where
    step : fields_from sent m ns count i
        ≡ cond (has sent (slot_at ns i).number) (entry_at m (slot_at ns i) ∷ fields_from sent m ns count j) (fields_from sent m ns count j)
    unfolding entries_from
    step =
        let y : count - i ≡ suc (count - j) = omega arith in
        let z : j ≡ suc i = omega arith in
        rw (y, ← z)

    fields_sent : b ≡ true → fields_from sent m ns count i ≡ entry_at m s ∷ fields_from sent m ns count j
    fields_sent q = let z : has sent (slot_at ns i).number ≡ true = (rw es at (sym eb)) ∙ q in step ∙ rw (z, es)

    fields_not : b ≡ false → fields_from sent m ns count i ≡ fields_from sent m ns count j
    fields_not q = let z : has sent (slot_at ns i).number ≡ false = (rw es at (sym eb)) ∙ q in step ∙ rw z

-- ---- what is told of each

abbrev pub ToldFrom : Sending → ℕ → List ℕ → List ℕ → ℕ → ℕ → Type 0
ToldFrom w sent m ns count i = Told w.hops w.tag (fields_from sent m ns count i)

module _ (w : Sending) {e : Entry} {es : List Entry} where
  told_first : Told w.hops w.tag (e ∷ es) → Tells w.hops w.tag e
  told_first (also t ts) = t

  told_others : Told w.hops w.tag (e ∷ es) → Told w.hops w.tag es
  told_others (also t ts) = ts

-- ---- the lines of the fields from the i-th slot on

abbrev pub lines_from : Sending → ℕ → List ℕ → List ℕ → ℕ → ℕ → List ℕ
lines_from w sent m ns count i = field_lines w.masked w.body (fields_from sent m ns count i)

-- where the caller is masked, P-Asserted-Identity is not in the set
shown : (masked : Bool) (sent n : ℕ) → (masked && has sent 15) ≡ false → has sent n ≡ true → (masked && eqb n 15) ≡ false
shown true sent n q h = ne_eqb n 15 (λ z. let x : has sent 15 ≡ true = rw z at h in never (cc))
shown false sent n q h = refl

module _ (w : Sending) (sent : ℕ) (m ns : List ℕ) (count : ℕ) where
  pub lines_none : (i : ℕ) → count ≤ i → lines_from w sent m ns count i ≡ []
  unfolding field_lines
  lines_none i h = rw (fields_none sent m ns count i h)

  module _ (i : ℕ) (h : i < count) {s : Slot} (es : s ≡ slot_at ns i) {b : Bool} (eb : b ≡ has sent s.number) where
    pub told_here : b ≡ true → ToldFrom w sent m ns count i → Tells w.hops w.tag (entry_at m s)
    told_here q t = told_first w (rw (fields_sent sent m ns count i h es eb {j = i + 1} refl q) at t)

    module _ {j : ℕ} (ej : j ≡ i + 1) where
      pub told_sent : b ≡ true → ToldFrom w sent m ns count i → ToldFrom w sent m ns count j
      told_sent q t = told_others w (rw (fields_sent sent m ns count i h es eb ej q) at t)

      pub told_not : b ≡ false → ToldFrom w sent m ns count i → ToldFrom w sent m ns count j
      told_not q t = rw (fields_not sent m ns count i h es eb ej q) at t

      pub lines_sent : (w.masked && has sent 15) ≡ false → b ≡ true
          → lines_from w sent m ns count i ≡ line s.number (sent_at w m s) ++ lines_from w sent m ns count j
      lines_sent g q =
          ap (field_lines w.masked w.body) (fields_sent sent m ns count i h es eb ej q)
          ∙ lines_first w.masked w.body (entry_at m s) (fields_from sent m ns count j) (shown w.masked sent s.number g (sym eb ∙ q))

      pub lines_not : b ≡ false → lines_from w sent m ns count i ≡ lines_from w sent m ns count j
      lines_not q = ap (field_lines w.masked w.body) (fields_not sent m ns count i h es eb ej q)

-- ---- the kept fields, and those that go out

module _ (masked : Bool) {kept sent : ℕ} (g : Goes masked kept sent) where
  pub none_hidden : (masked && has sent 15) ≡ false
  none_hidden = rw (g.member 15) (go masked (has kept 15))
    where
      go : (a b : Bool) → (a && (b && not (a && true))) ≡ false
      go true true = refl
      go true false = refl
      go false b = refl

  module _ (m ns : List ℕ) where
    pub lines_kept : (body k i : ℕ) → field_lines masked body (entries_from sent m ns k i) ≡ field_lines masked body (entries_from kept m ns k i)
    unfolding entries_from field_lines
    lines_kept body zero i = refl
    lines_kept body (suc k) i =
        let n : ℕ = (slot_at ns i).number in
        rw (g.member n) (go (has kept n) (masked && eqb n 15) refl (lines_kept body k (suc i)))
      where
        e : Entry
        e = entry_at m (slot_at ns i)

        xs : List Entry
        xs = entries_from sent m ns k (suc i)

        ys : List Entry
        ys = entries_from kept m ns k (suc i)

        go : (a h : Bool) → (masked && eqb e.number 15) ≡ h → field_lines masked body xs ≡ field_lines masked body ys
            → field_lines masked body (cond (a && not h) (e ∷ xs) xs) ≡ field_lines masked body (cond a (e ∷ ys) ys)
        go true true q ih = ih ∙ sym (rw q)
        go true false q ih = rw (q, ih)
        go false h q ih = ih

    pub told_kept : (hops : ℕ) (tag : Span) (k i : ℕ) → Told hops tag (entries_from kept m ns k i) → Told hops tag (entries_from sent m ns k i)
    unfolding entries_from
    told_kept hops tag zero i t = t
    told_kept hops tag (suc k) i t =
        let n : ℕ = (slot_at ns i).number in
        rw (g.member n) (go (entry_at m (slot_at ns i)) (entries_from kept m ns k (suc i)) (has kept n) (masked && eqb n 15) t (told_kept hops tag k (suc i)))
      where
        go : (e : Entry) {xs : List Entry} (ys : List Entry) (a h : Bool) → Told hops tag (cond a (e ∷ ys) ys) → (Told hops tag ys → Told hops tag xs)
            → Told hops tag (cond (a && not h) (e ∷ xs) xs)
        go e ys true true (also x ts) f = f ts
        go e ys true false (also x ts) f = also x (f ts)
        go e ys false h ts f = f ts
