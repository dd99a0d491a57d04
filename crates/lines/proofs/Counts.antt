-- Count and place of the fields of a number, slot by slot; and the slots of a message give the values of its fields.
use mathlib.Core.Path.{◌≡◌, refl, sym, ◌∙◌}
use mathlib.Core.Bool.{Bool, true, false, cond}
use mathlib.Core.List.{List, [], ◌∷◌, ◌++◌}
use Prim.Native.Nat.{ℕ, zero, suc, ◌+◌, ◌≤◌}
use native.Mathlib.Omega.{arith}
use lib.Dec.{eqb}
use lib.ListN.{length, length-append}
use borrow.Author.Tests.{eqb-true, eq-eqb, ne_eqb}
use Rattle.sip.specs.Lines.{start_size, Field, bytes}
use Rattle.sip.specs.Profile.{number_of}
use Rattle.sip.specs.Refusals.{Lines, unread, read, lines}
use Rattle.sip.specs.Readings.{value_spans, place, spans}
use Rattle.sip.specs.declared.Span.{Span}
use Rattle.sip.proofs.Sizes.{read_inv}
use Rattle.lines.specs.Index.{slot_of, slots_of, slot_at, index, Head}
use Rattle.lines.specs.Passes.{first_slots, span_of, spans_in, counted_in, counting}
use Rattle.lines.specs.declared.Slot.{Slot}
use Rattle.lines.specs.declared.slots.Counted.{Counted}
use Rattle.lines.proofs.Values.{eqb_suc}
use Rattle.lines.proofs.Packs.{first_all}

-- ---- one slot, by the tests

module _ (n k : ℕ) (c : Counted) (s : Slot) where
  pub other_number : (s.number ≡ n → ⊥) → c ≡ counting n k c s
  unfolding counting
  other_number h = rw (ne_eqb s.number n h)

  module _ (h : s.number ≡ n) {m : ℕ} (e : m ≡ c.count + 1) where
    pub other_place : (m ≡ k → ⊥) → record { count = m; span = c.span } ≡ counting n k c s
    unfolding counting
    other_place q = rw (eq-eqb s.number n h, ← e, ne_eqb m k q)

    pub same_place : m ≡ k → record { count = m; span = span_of s } ≡ counting n k c s
    unfolding counting
    same_place q = rw (eq-eqb s.number n h, ← e, eq-eqb m k q)

-- ---- one slot more

place_last : (k : ℕ) (ps : List Span) (p : Span) → place k (ps ++ p ∷ []) ≡ cond (eqb (length ps + 1) k) p (place k ps)
unfolding place
place_last zero [] p = refl
place_last (suc zero) [] p = refl
place_last (suc (suc k)) [] p = rw (ne_eqb 1 (suc (suc k)) (λ z. omega arith))
place_last zero (q ∷ ps) p = rw (ne_eqb (suc (length ps) + 1) 0 (λ z. omega arith))
place_last (suc zero) (q ∷ ps) p = rw (ne_eqb (suc (length ps) + 1) 1 (λ z. omega arith))
place_last (suc (suc k)) (q ∷ ps) p =
    let z : suc (length ps) + 1 ≡ suc (length ps + 1) = omega arith in
    rw (z, eqb_suc (length ps + 1) (suc k)) (place_last (suc k) ps p)

module _ (n : ℕ) where
  pub spans_last : (ss : List Slot) (s : Slot) → spans_in n (ss ++ s ∷ []) ≡ cond (eqb s.number n) (spans_in n ss ++ span_of s ∷ []) (spans_in n ss)
  unfolding spans_in
  spans_last [] s = refl
  spans_last (r ∷ ss) s = go (eqb r.number n) (eqb s.number n) (spans_in n (ss ++ s ∷ [])) (spans_in n ss) (spans_last ss s)
    where
      go : (t u : Bool) (xs ys : List Span) → xs ≡ cond u (ys ++ span_of s ∷ []) ys
          → cond t (span_of r ∷ xs) xs ≡ cond u (cond t (span_of r ∷ ys) ys ++ span_of s ∷ []) (cond t (span_of r ∷ ys) ys)
      go true true xs ys e = rw e
      go true false xs ys e = rw e
      go false true xs ys e = e
      go false false xs ys e = e

  module _ (k : ℕ) where
    counting_next : (ss : List Slot) (s : Slot) → counting n k (counted_in k (spans_in n ss)) s ≡ counted_in k (spans_in n (ss ++ s ∷ []))
    unfolding counting
    counting_next ss s = rw (spans_last ss s) (go (eqb s.number n))
      where
        go : (t : Bool)
            → cond t (record { count = length (spans_in n ss) + 1; span = cond (eqb (length (spans_in n ss) + 1) k) (span_of s) (place k (spans_in n ss)) })
            (counted_in k (spans_in n ss))
            ≡ counted_in k (cond t (spans_in n ss ++ span_of s ∷ []) (spans_in n ss))
        go true = rw (length-append (spans_in n ss), place_last k (spans_in n ss) (span_of s))
        go false = refl

    -- ---- a loop over the first slots

    module _ (ns : List ℕ) where
      pub none_counted : record { count = 0; span = record { start = 0; len = 0 } } ≡ counted_in k (spans_in n (first_slots 0 ns))
      unfolding first_slots spans_in place
      none_counted = refl

      module _ {c : Counted} (i : ℕ) (e : c ≡ counted_in k (spans_in n (first_slots i ns))) where
        pub one_counted : {s : Slot} {r : Counted} {j : ℕ} → s ≡ slot_at ns i → r ≡ counting n k c s → j ≡ i + 1
            → r ≡ counted_in k (spans_in n (first_slots j ns))
        unfolding first_slots
        one_counted {s} {r} {j} p q z =
            let y : j ≡ suc i = omega arith in
            q ∙ rw (e, p, y) (counting_next (first_slots i ns) (slot_at ns i))

        pub all_counted : {j : ℕ} → i ≤ j → j ≤ i → c ≡ counted_in k (spans_in n (first_slots j ns))
        all_counted {j} p q = let z : j ≡ i = omega arith in rw z e

-- ---- the fields of a message

pub slots_few : (at : ℕ) (fs : List Field) → length (slots_of at fs) ≤ length fs
unfolding slots_of
slots_few at [] = omega arith
slots_few at (f ∷ fs) = go (eqb (number_of f.name) 0) (slots_few (at + length (bytes f)) fs)
  where
    go : (t : Bool) → length (slots_of (at + length (bytes f)) fs) ≤ length fs
        → length (cond t (slots_of (at + length (bytes f)) fs) (slot_of at f ∷ slots_of (at + length (bytes f)) fs)) ≤ suc (length fs)
    go true l = omega arith
    go false l = omega arith

pub count_few : (m : List ℕ) {r : Head} → r ≡ (index m).head → r.count ≤ 96
unfolding index
count_few m {r} e = rw e (go (lines m) refl)
  where
    go : (x : Lines) → lines m ≡ x → (index m).head.count ≤ 96
    go (unread n) q = rw q (omega arith)
    go (read l g) q = rw q (omega (arith, slots_few (start_size l) g.fields, (read_inv m l g q).few))

module _ (n : ℕ) (h : n ≡ 0 → ⊥) where
  fields_spans : (at : ℕ) (fs : List Field) → spans_in n (slots_of at fs) ≡ value_spans n at fs
  unfolding spans_in slots_of value_spans slot_of
  fields_spans at [] = refl
  fields_spans at (f ∷ fs) = go (eqb (number_of f.name) 0) refl (fields_spans (at + length (bytes f)) fs)
    where
      go : (t : Bool) → eqb (number_of f.name) 0 ≡ t → spans_in n (slots_of (at + length (bytes f)) fs) ≡ value_spans n (at + length (bytes f)) fs
          → spans_in n (slots_of at (f ∷ fs)) ≡ value_spans n at (f ∷ fs)
      go true q e =
          let z : number_of f.name ≡ 0 = eqb-true (number_of f.name) 0 q in
          let w : eqb (number_of f.name) n ≡ false = ne_eqb (number_of f.name) n (λ y. h (sym y ∙ z)) in
          rw (q, w) e
      go false q e = rw (q, e)

  pub message_spans : (m : List ℕ) → spans_in n (first_slots (index m).head.count (index m).slots) ≡ spans m n
  unfolding index spans first_slots spans_in
  message_spans m = go (lines m) refl
    where
      go : (x : Lines) → lines m ≡ x → spans_in n (first_slots (index m).head.count (index m).slots) ≡ spans m n
      go (unread r) e = rw e
      go (read l g) e =
          let at : ℕ = start_size l in
          let few : length (slots_of at g.fields) ≤ 96 = omega (arith, slots_few at g.fields, (read_inv m l g e).few) in
          rw (e, ne_eqb n 0 h, first_all (slots_of at g.fields) few) (fields_spans at g.fields)
