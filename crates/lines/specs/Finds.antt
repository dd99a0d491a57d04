-- A look for a field by its name.
use Rattle.std.specs.Prelude.{◌≡◌, Bool, false, ◌||◌, List, [], ◌∷◌, ℕ, zero, suc, ◌+◌, ◌-◌, take, drop}
use Rattle.std.proofs.Math.Option.{none, some}
use Rattle.octets.specs.Classes.{is_value}
use Rattle.octets.specs.Scans.{run, same_text}
use Rattle.sip.specs.Lines.{Start, Header, shape, size}
use Rattle.sip.specs.Refusals.{lines, read}
use Rattle.sip.specs.Readings.{has_field}

-- of the well-shaped fields at the front, up to the first that is not, one has this name, whole and in any letter case. The first k bytes
-- belong to a field that was looked at before them
unfoldable pub named_from : ℕ → List ℕ → List ℕ → Bool
named_from k name [] = false
named_from (suc k) name (b ∷ s) = named_from k name s
named_from zero name (b ∷ s) =
    elim (shape (b ∷ s)) [ none ↦ false | some f ↦ same_text name (take f.name (b ∷ s)) || named_from (size f - 1) name s ]

-- the same of the fields after the first line of a message: it is the run of value bytes at the front, and CRLF
unfoldable pub field_named : List ℕ → List ℕ → Bool
field_named m name = named_from 0 name (drop (run is_value m + 2) m)

-- these are the fields of a message that is read
abbrev pub FieldNamedRead : Type 0
FieldNamedRead = (m name : List ℕ) (l : Start) (h : Header) → lines m ≡ read l h → field_named m name ≡ has_field m name
