-- Every slot of a message lies within it: the slots are those of its fields, whose bytes follow one another.
use mathlib.Core.Path.{◌≡◌, refl}
use mathlib.Core.Bool.{Bool, true, false, cond}
use mathlib.Core.List.{List, [], ◌∷◌}
use Prim.Native.Nat.{ℕ, zero, suc, ◌+◌, ◌≤◌}
use native.Mathlib.Omega.{arith}
use lib.Dec.{eqb, ltb}
use lib.ListN.{length, get_or, length-append}
use borrow.Author.Tests.{ltb-true, ltb-false}
use Rattle.sip.specs.Lines.{start_size, Field, bytes}
use Rattle.sip.specs.Profile.{number_of}
use Rattle.sip.specs.Refusals.{Lines, unread, read, lines}
use Rattle.sip.specs.Change.{header_bytes}
use Rattle.sip.proofs.Sizes.{read_inv}
use Rattle.sip.proofs.Within.{span_within}
use Rattle.lines.specs.Index.{slot_of, slots_of, packed, padded, no_slot, slot_at, index}
use Rattle.lines.specs.declared.Slot.{Slot}
use Rattle.lines.proofs.Packs.{slot_padded, slot_none, past_slot}

-- fields and a rest, the first field being at place at of a text of n bytes
fields_within : (n at i : ℕ) (fs : List Field) (rest : List ℕ) → at + length (header_bytes fs rest) ≤ n
    → (get_or (slots_of at fs) i no_slot).start + (get_or (slots_of at fs) i no_slot).len ≤ n
unfolding slots_of slot_of
fields_within n at i [] rest h = omega arith
fields_within n at i (f ∷ fs) rest h = go (eqb (number_of f.name) 0) i (λ j. fields_within n (at + length (bytes f)) j fs rest fits)
  where
    fits : at + length (bytes f) + length (header_bytes fs rest) ≤ n
    fits = omega (arith, length-append (bytes f) (header_bytes fs rest))

    go : (t : Bool) (i : ℕ)
        → ((j : ℕ) → (get_or (slots_of (at + length (bytes f)) fs) j no_slot).start + (get_or (slots_of (at + length (bytes f)) fs) j no_slot).len ≤ n)
        → let ss = cond t (slots_of (at + length (bytes f)) fs) (slot_of at f ∷ slots_of (at + length (bytes f)) fs) in
        (get_or ss i no_slot).start + (get_or ss i no_slot).len ≤ n
    go true i others = others i
    go false zero others = omega (arith, span_within at f, fits)
    go false (suc i) others = others i

-- the numbers that hold slots within n bytes hold no others
padded_within : (n : ℕ) (ss : List Slot) (i : ℕ) → (get_or ss i no_slot).start + (get_or ss i no_slot).len ≤ n
    → (slot_at (padded ss) i).start + (slot_at (padded ss) i).len ≤ n
padded_within n ss i h = go (ltb i 96) (ltb i (length ss)) refl refl
  where
    go : (t u : Bool) → ltb i 96 ≡ t → ltb i (length ss) ≡ u → (slot_at (padded ss) i).start + (slot_at (padded ss) i).len ≤ n
    go false u p q = rw (← past_slot (padded ss) i (ltb-false i 96 p)) (omega arith)
    go true true p q = rw (slot_padded ss i no_slot (ltb-true i (length ss) q) (ltb-true i 96 p)) h
    go true false p q = rw (slot_none ss i (ltb-false i (length ss) q) (ltb-true i 96 p)) (omega arith)

pub slots_within : (m : List ℕ) (i : ℕ) → (slot_at (index m).slots i).start + (slot_at (index m).slots i).len ≤ length m
unfolding index padded packed
slots_within m i = go (lines m) refl
  where
    go : (x : Lines) → lines m ≡ x → (slot_at (index m).slots i).start + (slot_at (index m).slots i).len ≤ length m
    go (unread r) e = rw e (padded_within (length m) [] i (omega arith))
    go (read l h) e =
        rw e
        (padded_within (length m) (slots_of (start_size l) h.fields) i
        (fields_within (length m) (start_size l) i h.fields h.rest (read_inv m l h e).fits))
