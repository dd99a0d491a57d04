-- By the end, and by the limit.
use mathlib.Core.Path.{◌≡◌, sym}
use mathlib.Core.List.{List}
use Prim.Native.Nat.{ℕ, ◌+◌, ◌≤◌, ◌<◌}
use lib.ListN.{get_or, set}
use borrow.Author.Tests.{lt-ltb, le-ltb, ne_eqb}
use Rattle.records.specs.Records.{most_records}
use Rattle.records.specs.History.{calls_left, outcome_of}
use Rattle.records.specs.Running.{state_of, place_of, one_more, taken}
use Rattle.records.specs.declared.Replay.{Replay}
use borrow.Author.Rules.{rules}
use Rattle.records.proofs.take_record.Goals as goal

module _ (st : Replay) (calls : List ℕ) (side : ℕ) (m : List ℕ) where
  has_ended : (st.end ≡ 0 → ⊥) → state_of st calls ≡ taken (state_of st calls) side m
  unfolding taken
  has_ended nz = sym (rw (ne_eqb st.end 0 nz))

  module _ (going : st.end ≡ 0) {r : Replay} where
    too_many : most_records ≤ st.read → r.counts ≡ st.counts → r.read ≡ st.read → r.end ≡ 33
        → state_of r calls ≡ taken (state_of st calls) side m
    unfolding taken
    too_many l a b c = rw (a, b, c) (sym (rw (going, le-ltb st.read most_records l)))

    one_more_record : st.read < most_records → {i : ℕ} → i ≡ place_of (outcome_of m side calls) → {left : List ℕ} → left ≡ calls_left m side calls
        → r.counts ≡ set st.counts i (one_more (get_or st.counts i 0)) → r.read ≡ st.read + 1 → r.end ≡ st.end
        → state_of r left ≡ taken (state_of st calls) side m
    unfolding taken
    one_more_record l z y a b c = rw (a, b, c, y, z) (sym (rw (going, lt-ltb st.read most_records l)))

pub returns-then-st-ne0 : goal.returns-then-st-ne0
returns-then-st-ne0 c = search (has_ended, rules)

pub returns-then-st-ge1000000 : goal.returns-then-st-ge1000000
returns-then-st-ge1000000 c = search (too_many, rules)

pub returns : goal.returns
returns c = search (one_more_record, rules)
