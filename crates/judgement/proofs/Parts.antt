-- The slots that reading a message leaves give its kept fields: by induction over the fields, one slot at a time.
use mathlib.Core.Path.{◌≡◌, refl, sym}
use mathlib.Core.Bool.{Bool, true, false, not, cond}
use mathlib.Core.List.{List, [], ◌∷◌, ◌++◌}
use mathlib.Core.Option.{some}
use Prim.Native.Nat.{ℕ, suc, ◌+◌, ◌*◌, ◌-◌, ◌≤◌, ◌<◌}
use native.Mathlib.Omega.{arith}
use lib.Dec.{eqb}
use lib.ListN.{length, drop, get_or}
use lib.Seq.{drop-drop, get_or-drop}
use borrow.Author.Tests.{lt-ltb, eqb-true}
use Rattle.octets.specs.Classes.{bit, is_break, is_gap}
use Rattle.sip.specs.declared.Column.{Column}
use Rattle.octets.specs.Scans.{any}
use Rattle.sip.specs.Lines.{Start, start_size, Header, Field, bytes, folded, trim, canonical}
use Rattle.sip.specs.Profile.{number_of, ignored, mark, find, rows}
use Rattle.sip.specs.Refusals.{lines, read, Entry, kept}
use Rattle.sip.specs.Change.{header_bytes}
use Rattle.sip.proofs.Canonical.{canonical_core, canonical_plain}
use Rattle.sip.proofs.Spans.{value_part, next_here, ReadParts, read_parts}
use Rattle.lines.proofs.Counts.{slots_few}
use Rattle.lines.specs.declared.Slot.{Slot}
use Rattle.lines.specs.Index.{slot_of, slots_of, packed, zeros, padded, slot_at}
use Rattle.judgement.specs.Sets.{kept_set}
use Rattle.judgement.specs.Entries.{value_at, entries_from}
use Rattle.judgement.proofs.Members.{kept_has}

-- ---- the value of a field where it stands

module _ (m : List ℕ) (at : ℕ) (f : Field) (t : List ℕ) (here : drop at m ≡ bytes f ++ t) where
  slot_value : value_at m (slot_of at f) ≡ canonical f.value
  unfolding value_at slot_of
  slot_value = rw (value_part m at f t here) (go (any is_break (trim is_gap f.value)) refl)
    where
      go : (b : Bool) → any is_break (trim is_gap f.value) ≡ b
          → cond b (folded 0 (trim is_gap f.value)) (trim is_gap f.value) ≡ canonical f.value
      go true e = sym (canonical_core f.value)
      go false e = sym (canonical_plain f.value e)

-- ---- the slot among the numbers

flag_back : (b : Bool) → not (eqb (bit b) 0) ≡ b
flag_back true = refl
flag_back false = refl

slot_back : (ns z : List ℕ) (i : ℕ) (s : Slot) (ss : List Slot) → i < 96 → drop (4 * i) ns ≡ packed (s ∷ ss) ++ z → slot_at ns i ≡ s
unfolding slot_at packed
slot_back ns z i s ss h e =
    let at0 : get_or ns (4 * i) 0 ≡ s.number = let k : 4 * i + 0 ≡ 4 * i = omega arith in rw (← k, ← get_or-drop (4 * i) ns 0 0, e) in
    let at1 : get_or ns (4 * i + 1) 0 ≡ s.start = rw (← get_or-drop (4 * i) ns 1 0, e) in
    let at2 : get_or ns (4 * i + 2) 0 ≡ s.len = rw (← get_or-drop (4 * i) ns 2 0, e) in
    let at3 : get_or ns (4 * i + 3) 0 ≡ bit s.folded = rw (← get_or-drop (4 * i) ns 3 0, e) in
    rw (lt-ltb i 96 h, at0, at1, at2, at3, flag_back s.folded)

slots_next : (ns z : List ℕ) (i : ℕ) (s : Slot) (ss : List Slot) → drop (4 * i) ns ≡ packed (s ∷ ss) ++ z → drop (4 * suc i) ns ≡ packed ss ++ z
unfolding packed
slots_next ns z i s ss e = let k : 4 * i + 4 ≡ 4 * suc i = omega arith in rw (← k, ← drop-drop 4 (4 * i) ns, e)

-- ---- all of them

unlisted : (c : Column) → ignored (some c) 0 ≡ true
unfolding ignored mark find rows
unlisted c = refl

module _ (c : Column) (m ns z rest : List ℕ) where
  -- what is to be shown of the fields from one on
  abbrev Gives : List Field → ℕ → ℕ → Type 0
  Gives fs at i = drop at m ≡ header_bytes fs rest → drop (4 * i) ns ≡ packed (slots_of at fs) ++ z → i + length (slots_of at fs) ≤ 96
      → entries_from (kept_set c) m ns (length (slots_of at fs)) i ≡ kept (some c) fs

  module _ (f : Field) (fs : List Field) (at i : ℕ) where
    entry : Entry
    entry = record { number = number_of f.name; value = canonical f.value }

    pick : (b : Bool) → cond (not b) (entry ∷ kept (some c) fs) (kept (some c) fs) ≡ cond b (kept (some c) fs) (entry ∷ kept (some c) fs)
    pick true = refl
    pick false = refl

    listed_step : Gives fs (at + length (bytes f)) (suc i) → eqb (number_of f.name) 0 ≡ false → Gives (f ∷ fs) at i
    unfolding entries_from slots_of kept entry slot_of
    listed_step ih q here slots room =
        let t : List ℕ = header_bytes fs rest in
        let others : List Slot = slots_of (at + length (bytes f)) fs in
        let e : drop (4 * i) ns ≡ packed (slot_of at f ∷ others) ++ z = rw q at slots in
        let l : i + suc (length others) ≤ 96 = rw q at room in
        let s : slot_at ns i ≡ slot_of at f = slot_back ns z i (slot_of at f) others (omega arith) e in
        let v : value_at m (slot_of at f) ≡ canonical f.value = slot_value m at f t here in
        let r : entries_from (kept_set c) m ns (length others) (suc i) ≡ kept (some c) fs
        = ih (next_here m at f t here) (slots_next ns z i (slot_of at f) others e) (omega arith) in
        rw (q, s, v, r, kept_has c (number_of f.name)) (pick (ignored (some c) (number_of f.name)))

    unlisted_step : Gives fs (at + length (bytes f)) i → eqb (number_of f.name) 0 ≡ true → Gives (f ∷ fs) at i
    unfolding entries_from slots_of kept
    unlisted_step ih q here slots room =
        let k : number_of f.name ≡ 0 = eqb-true (number_of f.name) 0 q in
        rw (q, k, unlisted c) (ih (next_here m at f (header_bytes fs rest) here) (rw q at slots) (rw q at room))

    step : Gives fs (at + length (bytes f)) (suc i) → Gives fs (at + length (bytes f)) i → Gives (f ∷ fs) at i
    step a b = go (eqb (number_of f.name) 0) refl
      where
        go : (x : Bool) → eqb (number_of f.name) 0 ≡ x → Gives (f ∷ fs) at i
        go true q = unlisted_step b q
        go false q = listed_step a q

  pub kept_slots : (fs : List Field) (at i : ℕ) → Gives fs at i
  unfolding entries_from slots_of kept
  kept_slots [] at i here slots room = refl
  kept_slots (f ∷ fs) at i here slots room =
      step f fs at i (kept_slots fs (at + length (bytes f)) (suc i)) (kept_slots fs (at + length (bytes f)) i) here slots room

-- ---- of a message that is read

-- its slots and kept fields, beside where its lines stand
pub record Parts (m : List ℕ) (l : Start) (h : Header) : Type 0 where
  pub read_as : ReadParts m l h
  pub count_le : length (slots_of (start_size l) h.fields) ≤ 96
  pub entries :
      (c : Column)
      → entries_from (kept_set c) m (padded (slots_of (start_size l) h.fields)) (length (slots_of (start_size l) h.fields)) 0
      ≡ kept (some c) h.fields

pub parts : (m : List ℕ) (l : Start) (h : Header) → lines m ≡ read l h → Parts m l h
unfolding padded
parts m l h e =
    let r = read_parts m l h e in
    let fs : List Field = h.fields in
    record {
      read_as = r;
      count_le = omega (arith, slots_few (start_size l) fs, r.fields_le);
      entries = λ d.
          kept_slots d m (padded (slots_of (start_size l) fs)) (zeros (384 - 4 * length (slots_of (start_size l) fs))) h.rest fs (start_size l) 0
          r.header_part refl (omega (arith, slots_few (start_size l) fs, r.fields_le));
    }
