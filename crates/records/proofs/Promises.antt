-- The statements of specs/Promises that follow from the laws of counting.
use mathlib.Core.Path.{◌≡◌, refl, ◌∙◌}
use mathlib.Core.Bool.{Bool, true, false, cond, ◌&&◌}
use mathlib.Core.List.{List, [], ◌∷◌}
use Prim.Native.Nat.{ℕ}
use native.Mathlib.Omega.{arith}
use lib.Dec.{eqb}
use borrow.Author.Tests.{eqb-true}
use Rattle.octets.specs.Classes.{text, within}
use Rattle.sip.specs.Readings.{has_field}
use Rattle.records.specs.Records.{Recorded}
use Rattle.sip.specs.Calls.{none_held}
use Rattle.records.specs.History.{relay_group, other_group, unread_group, Outcome, group_of, reason_of, outcome_of, calls_left, history_from, history}
use Rattle.records.specs.Report.{how_many, in_group_for, table, with_reason, line_of}
use Rattle.records.specs.Running.{total}
use Rattle.records.specs.Promises.{OneGroup, AllReasons, UnreadApart}
use Rattle.records.proofs.Counting.{accepted_refused, three_groups}
use Rattle.records.proofs.Tables.{row_total}
use Rattle.records.proofs.Steps.{history_length, listed}

pub one_group : OneGroup
one_group rs = three_groups (listed rs) ∙ history_length rs

pub all_reasons : AllReasons
unfolding table total line_of
all_reasons g rs = omega (arith, row_total g (listed rs), accepted_refused g (history rs))

-- where no outcome is so, none of the history is
none_so : (p : Outcome → Bool) → ((m : List ℕ) (side : ℕ) (table : List ℕ) → p (outcome_of m side table) ≡ false)
    → (table : List ℕ) (rs : List Recorded) → how_many p (history_from table rs) ≡ 0
unfolding history_from how_many
none_so p e table [] = refl
none_so p e table (r ∷ rs) = rw (e r.message r.side table) (none_so p e (calls_left r.message r.side table) rs)

-- the group of a message follows from its reason
none_for : (g r : ℕ) → ((m : List ℕ) → eqb (group_of m r) g ≡ false) → (rs : List Recorded) → with_reason g (history rs) r ≡ 0
unfolding outcome_of history
none_for g r e = none_so (in_group_for g r) (λ m side table. go m (reason_of m side table) (eqb (reason_of m side table) r) refl) none_held
  where
    none : (t : Bool) → (t && false) ≡ false
    none true = refl
    none false = refl

    go : (m : List ℕ) (n : ℕ) (t : Bool) → eqb n r ≡ t → (eqb (group_of m n) g && eqb n r) ≡ false
    go m n true q = let z : n ≡ r = eqb-true n r q in rw (q, z, e m)
    go m n false q = rw q (none (eqb (group_of m n) g))

unread_group_lem : (r : ℕ) → within 1 5 r ≡ true → (m : List ℕ) → group_of m r ≡ unread_group
unfolding group_of
unread_group_lem r e m = rw e

read_group : (r : ℕ) → within 1 5 r ≡ false → (m : List ℕ) → eqb (group_of m r) unread_group ≡ false
unfolding group_of
read_group r e m = rw e (go (has_field m (text "X-Relay-Mode")))
  where
    go : (t : Bool) → eqb (cond t 0 1) 2 ≡ false
    go true = refl
    go false = refl

pub unread_apart : UnreadApart
unread_apart rs r =
    record {
      no_other_line = λ e. (none_for relay_group r (λ m. rw (unread_group_lem r e m)) rs, none_for other_group r (λ m. rw (unread_group_lem r e m)) rs);
      no_other_message = λ e. none_for unread_group r (read_group r e) rs;
    }
