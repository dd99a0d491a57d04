-- A message by its start line and by how its fields end; and what is read of it by number and place.
use mathlib.Core.Path.{◌≡◌, refl, sym, ap, ◌∙◌}
use mathlib.Core.List.{List, []}
use Prim.Native.Nat.{ℕ, ◌+◌, ◌≤◌, ◌<◌}
use native.Mathlib.Omega.{arith}
use lib.ListN.{length, take, drop}
use borrow.Author.Tests.{eq-eqb}
use Rattle.sip.specs.Refusals.{Lines, unread, read, lines}
use Rattle.sip.specs.Readings.{place, spans, count, reading_at, reading}
use Rattle.sip.specs.declared.Span.{Span}
use Rattle.sip.proofs.Within.{reading_within}
use Rattle.std.specs.Prelude.{Option as Answer, None, Some, Result, Ok, Err}
use Rattle.lines.specs.Places.{start_at}
use Rattle.lines.specs.Index.{packed, zeros, padded, Head, Indexed, unread_index, index_of, index, reason_of, HasMethod, read_head, head_of}
use Rattle.lines.specs.Passes.{Lengths, line_size, settled, first_slots, spans_in, counted_in}
use Rattle.lines.specs.declared.StartLine.{StartLine}
use Rattle.lines.specs.declared.Unread.{Unread}
use Rattle.lines.specs.declared.Unread.TheVariants.{TooLong, NoStartLine, BadFields, TooManyFields}
use Rattle.lines.specs.declared.Message.{Message}
use Rattle.lines.specs.declared.header.Ended.{Ended}
use Rattle.lines.specs.declared.slots.Counted.{Counted}
use Rattle.lines.proofs.Starts.{start_long}
use Rattle.lines.proofs.Headers.{lines_long, lines_unbegun}
use Rattle.lines.proofs.Counts.{message_spans, count_few}

-- no slots are stored yet
pub cleared : {ss : List ℕ} → ss ≡ zeros 384 → ss ≡ padded []
unfolding padded packed
cleared q = q

-- ---- how the fields end

module _ (m : List ℕ) (ns : List ℕ) where
  module _ {r : Result Ended Unread} (hr : settled m r ns ≡ index m) where
    pub settled_unread : (e : Unread) → r ≡ Err e → head_of (Err e) ≡ (index m).head
    settled_unread e q = ap (λ (x : Indexed). x.head) (rw q at hr)

    pub settled_cleared : (e : Unread) → r ≡ Err e → {ss : List ℕ} → ss ≡ zeros 384 → ss ≡ (index m).slots
    settled_cleared e q y = y ∙ ap (λ (x : Indexed). x.slots) (rw q at hr)

  module _ {o : Answer StartLine} (ho : o ≡ start_at m) {k : StartLine} (qk : o ≡ Some k) {l : ℕ} (hl : l ≡ line_size k)
      {r : Result Ended Unread} (hr : settled m r ns ≡ index m) {e : Ended} (qr : r ≡ Ok e) where
    hk : Some k ≡ start_at m
    hk = sym qk ∙ ho

    h : settled m (Ok e) ns ≡ index m
    h = rw qr at hr

    pub settled_read : head_of (Ok (record { start = k; line = l; rest = e.rest; count = e.count })) ≡ (index m).head
    settled_read =
        let s = (start_long m k hk).0 in
        rw hl (ap (λ (x : Lengths). record { reason = 0; method = x.method; uri = x.uri; line = x.line; rest = e.rest; count = e.count }) (sym s) ∙ ap (λ (x : Indexed). x.head) h)

    pub settled_slots : ns ≡ (index m).slots
    settled_slots = ap (λ (x : Indexed). x.slots) h

    pub settled_method : HasMethod k
    settled_method = (start_long m k hk).1

-- ---- the start line

module _ (m : List ℕ) (l : length m ≤ 8192) {o : Answer StartLine} (ho : o ≡ start_at m) (q : o ≡ None) where
  not_begun : index m ≡ unread_index 3
  unfolding index
  not_begun = rw (lines_unbegun m l (sym q ∙ ho))

  pub start_unread : head_of (Err NoStartLine) ≡ (index m).head
  start_unread = sym (ap (λ (x : Indexed). x.head) not_begun)

  pub start_cleared : {ss : List ℕ} → ss ≡ zeros 384 → ss ≡ (index m).slots
  start_cleared q = q ∙ sym (ap (λ (x : Indexed). x.slots) not_begun)

module _ (m : List ℕ) (l : 8192 < length m) where
  too_long : index m ≡ unread_index 2
  unfolding index
  too_long = rw (lines_long m l)

  pub long_unread : head_of (Err TooLong) ≡ (index m).head
  long_unread = sym (ap (λ (x : Indexed). x.head) too_long)

  pub long_cleared : {ss : List ℕ} → ss ≡ zeros 384 → ss ≡ (index m).slots
  long_cleared h = h ∙ sym (ap (λ (x : Indexed). x.slots) too_long)

some_reason : (e : Unread) → reason_of e ≡ 0 → ⊥
some_reason TooLong y = omega arith
some_reason NoStartLine y = omega arith
some_reason BadFields y = omega arith
some_reason TooManyFields y = omega arith

-- ---- the fields of a number

no_spans : (m : List ℕ) (n : ℕ) → n < 1 → spans m n ≡ []
unfolding spans
no_spans m n h = go (lines m) refl
  where
    go : (x : Lines) → lines m ≡ x → spans m n ≡ []
    go (unread r) e = rw e
    go (read l g) e = rw (e, eq-eqb n 0 (omega arith))

module _ (m : List ℕ) (n k : ℕ) where
  pub none_found : n < 1 → record { count = 0; span = record { start = 0; len = 0 } } ≡ counted_in k (spans m n)
  unfolding place
  none_found h = rw (no_spans m n h)

  pub all_found : 1 ≤ n → {a : Result Message Unread} → head_of a ≡ (index m).head → (r : Message) → a ≡ Ok r → {ss : List ℕ} → ss ≡ (index m).slots
      → {c : Counted} → c ≡ counted_in k (spans_in n (first_slots r.count ss))
      → c ≡ counted_in k (spans m n)
  all_found h {a} ha r qa {ss} es {c} q =
      let z : r.count ≡ (index m).head.count = ap (λ (x : Head). x.count) (rw qa at ha) in
      q ∙ rw (z, es, message_spans n (λ z. omega arith) m)

  pub count_small : {a : Result Message Unread} → head_of a ≡ (index m).head → (r : Message) → a ≡ Ok r → r.count ≤ 96
  count_small ha r qa = let e : read_head r ≡ (index m).head = rw qa at ha in count_few m e

  -- a message that is not read has none
  pub unread_found : {a : Result Message Unread} → head_of a ≡ (index m).head → (e : Unread) → a ≡ Err e → record { count = 0; span = record { start = 0; len = 0 } } ≡ counted_in k (spans m n)
  unfolding spans place index
  unread_found {a} ha e qa = go (lines m) refl
    where
      go : (x : Lines) → lines m ≡ x → record { count = 0; span = record { start = 0; len = 0 } } ≡ counted_in k (spans m n)
      go (unread r) z = rw z
      go (read l h) z =
          let q : head_of (Err e) ≡ (index m).head = rw qa at ha in
          let y : reason_of e ≡ 0 = ap (λ (x : Head). x.reason) q ∙ ap (λ (x : Lines). (index_of m x).head.reason) z in
          absurd (some_reason e y)

  module _ {c : Counted} (h : c ≡ counted_in k (spans m n)) where
    pub count_is : c.count ≡ count m n
    unfolding count
    count_is = rw h

    pub place_is : c.span ≡ reading_at m n k
    unfolding reading_at
    place_is = rw h

    pub place_within : c.span.start + c.span.len ≤ length m
    place_within = rw place_is (reading_within m n k)

  pub part_is : {p : Span} → p ≡ reading_at m n k → {x : List ℕ} → x ≡ drop p.start m → {y : List ℕ} → y ≡ take p.len x → y ≡ reading m n k
  unfolding reading
  part_is e hx hy = hy ∙ rw (hx, e)
