-- An accepted message has as many slots as were read: by whether it was read, by its kind, and by its column.
use mathlib.Core.Path.{◌≡◌, refl}
use mathlib.Core.Bool.{Bool, true, false, cond}
use mathlib.Core.List.{List}
use mathlib.Core.Option.{Option, none, some}
use Prim.Native.Nat.{ℕ}
use lib.Dec.{eqb}
use lib.ListN.{take}
use Rattle.octets.specs.Classes.{within}
use Rattle.sip.specs.declared.Column.{Column}
use Rattle.sip.specs.Profile.{response_column}
use Rattle.lines.specs.Index.{index}
use Rattle.std.specs.Prelude.{Option as RustOption, Some, None, Result, Ok, Err, IfOk}
use Rattle.judgement.specs.declared.Refusal.{Refusal}
use Rattle.judgement.specs.declared.Refused.{Refused}
use Rattle.judgement.specs.declared.Judged.{Judged}
use Rattle.judgement.specs.declared.Tally.{Tally}
use Rattle.judgement.specs.Sets.{column_at}
use Rattle.judgement.specs.Entries.{first_slot}
use Rattle.judgement.specs.Judged.{judged_from, request_by, response_by, judged_by, request_as, request_lines, status_at, method_at, response_as, response_to, response_lines}
use Rattle.judgement.specs.Judged.{judged_lines, judged_message}

module _ (m : List ℕ) where
  -- an answer that accepts has that count
  abbrev Counts : Result Judged Refused → Type 0
  Counts r = IfOk r (λ (j : Judged). j.count ≡ (index m).head.count)

  either : (b : Bool) (x y : Result Judged Refused) → Counts x → Counts y → Counts (cond b x y)
  either true x y h k = h
  either false x y h k = k

  judged_counts : (silent : Bool) (before kept : ℕ) (r : Result Unit Refusal) (t : Tally) (rest : ℕ)
      → Counts (judged_from (index m).head silent before kept r t rest)
  unfolding judged_from
  judged_counts silent before kept (Ok u) t rest = refl
  judged_counts silent before kept (Err r) t rest = tt

  column_counts : (c : Column) (method : List ℕ) → Counts (judged_by m (index m).slots (index m).head c method)
  unfolding judged_by request_by response_by
  column_counts c method = either (eqb (index m).head.method 0) _ _ (judged_counts _ _ _ _ _ _) (judged_counts _ _ _ _ _ _)

  request_counts : (c : RustOption Column) → Counts (request_as m (index m).slots (index m).head c)
  request_counts (Some c) = column_counts c _
  request_counts None = tt

  response_counts : (method : List ℕ) (c : Option Column) → Counts (response_as m (index m).slots (index m).head method c)
  response_counts method (some c) = column_counts c method
  response_counts method none = tt

  read_counts : Counts (judged_lines m (index m).slots (index m).head)
  unfolding judged_lines request_lines response_lines response_to
  read_counts =
      let method = method_at m (first_slot 6 (index m).slots (index m).head.count 0) in
      either (eqb (index m).head.method 0) (response_lines m (index m).slots (index m).head) (request_lines m (index m).slots (index m).head)
      (either (within 100 699 (status_at m)) (response_to m (index m).slots (index m).head (status_at m) method) _
      (response_counts method (response_column (within 200 299 (status_at m)) method)) tt)
      (request_counts (column_at (take (index m).head.method m)))

  message_counts : Counts (judged_message m)
  unfolding judged_message
  message_counts = either (eqb (index m).head.reason 0) _ _ read_counts tt

  pub count_is : {j : Judged} → Ok j ≡ judged_message m → j.count ≡ (index m).head.count
  count_is e = rw (← e) at message_counts
