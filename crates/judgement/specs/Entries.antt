-- The kept fields of a message, out of the slots that reading it left.
use Rattle.std.specs.Prelude.{Bool, true, not, cond, List, [], ◌∷◌, ℕ, zero, suc, ◌+◌, ◌≤◌, eqb, length}
use Rattle.sip.specs.Lines.{folded}
use Rattle.sip.specs.Refusals.{Entry}
use Rattle.sip.specs.Readings.{part}
use Rattle.lines.specs.declared.Slot.{Slot}
use Rattle.lines.specs.declared.StartLine.{StartLine}
use Rattle.lines.specs.declared.StartLine.TheVariants.{Request, Status}
use Rattle.lines.specs.Index.{no_slot, slot_at}
use Rattle.judgement.specs.Sets.{has}

-- every slot lies within the message
abbrev pub Within : List ℕ → List ℕ → Type 0
Within m slots = (i : ℕ) → (slot_at slots i).start + (slot_at slots i).len ≤ length m

-- a value without spaces, tabs and line breaks at its ends, in its canonical form: with a line break in it or not
abbrev pub unfolded_by : Bool → List ℕ → List ℕ
unfolded_by fold v = cond fold (folded 0 v) v

-- no method is empty, which tells a request from a response
abbrev pub has_method : StartLine → Bool
has_method (Request method uri) = not (eqb method 0)
has_method (Status phrase) = true

-- the value that a slot speaks of, in its canonical form
unfoldable pub value_at : List ℕ → Slot → List ℕ
value_at m s = unfolded_by s.folded (part (record { start = s.start; len = s.len }) m)

abbrev pub entry_at : List ℕ → Slot → Entry
entry_at m s = record { number = s.number; value = value_at m s }

-- the fields of the set among k slots from the i-th on
unfoldable pub entries_from : ℕ → List ℕ → List ℕ → ℕ → ℕ → List Entry
entries_from set m ns zero i = []
entries_from set m ns (suc k) i =
    let others = entries_from set m ns k (suc i) in
    cond (has set (slot_at ns i).number) (entry_at m (slot_at ns i) ∷ others) others

-- the first slot of number n among k slots from the i-th on; no slot where there is none
unfoldable pub first_slot : ℕ → List ℕ → ℕ → ℕ → Slot
first_slot n ns zero i = no_slot
first_slot n ns (suc k) i = let later = first_slot n ns k (suc i) in cond (eqb (slot_at ns i).number n) (slot_at ns i) later
