-- The group is that of the history: of a message that is read the field is looked for in its fields, and a reason that is not 1 to 5 is of such a message.
use mathlib.Core.Path.{◌≡◌, refl, ◌∙◌}
use mathlib.Core.Bool.{Bool, true, false}
use mathlib.Core.List.{List}
use Prim.Native.Nat.{ℕ, ◌+◌, ◌*◌}
use Rattle.octets.specs.Classes.{text, within}
use Rattle.sip.specs.Screen.{answer_of, verdict}
use Rattle.lines.specs.Finds.{field_named}
use Rattle.lines.proofs.Finds.{field_named_read}
use Rattle.records.specs.History.{group_of, reason_of, outcome_of}
use Rattle.records.specs.Kinds.{group_by}
use Rattle.records.specs.Running.{place_of}
use Rattle.records.proofs.Reasons.{reason_is, calls_are, groups_read}
use borrow.Author.Rules.{rules}
use Rattle.records.proofs.place_of.Goals as goal

module _ (m : List ℕ) (side : ℕ) (table : List ℕ) {r : ℕ} (said : r ≡ (answer_of (verdict m side table)).reason) where
  e : r ≡ reason_of m side table
  e = reason_is m side table said

  same_group : group_by r (field_named m (text "X-Relay-Mode")) ≡ group_of m (reason_of m side table)
  unfolding group_of
  same_group = rw e (go (within 1 5 (reason_of m side table)) refl)
    where
      go : (t : Bool) → within 1 5 (reason_of m side table) ≡ t → group_by (reason_of m side table) (field_named m (text "X-Relay-Mode")) ≡ group_of m (reason_of m side table)
      go true q = rw q
      go false q =
          let g = groups_read m side table q in
          rw (q, field_named_read m (text "X-Relay-Mode") g.line g.header g.reads)

  placed : {g k : ℕ} → g ≡ group_by r (field_named m (text "X-Relay-Mode")) → k ≡ 20 * g → k + r ≡ place_of (outcome_of m side table)
  unfolding outcome_of
  placed {g} h z = let q : g ≡ group_of m (reason_of m side table) = h ∙ same_group in rw (z, q, ← e)

pub returns : goal.returns
returns c = (search (placed, rules), search rules, search calls_are)
