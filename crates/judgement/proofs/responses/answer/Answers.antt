-- The reasons are those of both kinds.
use mathlib.Core.Path.{◌≡◌, ◌∙◌}
use mathlib.Core.Bool.{true}
use Prim.Native.Nat.{ℕ}
use Rattle.std.specs.Prelude.{Result}
use Rattle.sip.specs.declared.Column.{Column}
use Rattle.sip.specs.Refusals.{first_of}
use Rattle.lines.specs.Index.{read_head, Head}
use Rattle.judgement.specs.declared.Refusal.{Refusal}
use Rattle.judgement.specs.declared.Refused.{Refused}
use Rattle.judgement.specs.declared.Tally.{Tally}
use Rattle.judgement.specs.declared.Judged.{Judged}
use Rattle.judgement.specs.Sets.{kept_set}
use Rattle.judgement.specs.Judged.{shared, checked, judged_from, response_by}
use Rattle.judgement.proofs.responses.answer.Goals as goal

module _ (h : Head) (c : Column) (t : Tally) {n rest : ℕ} (en : n ≡ rest) where
  answers : {r : Result Unit Refusal} → r ≡ checked (first_of (shared c t n)) → {k : ℕ} → k ≡ kept_set c → {a : Result Judged Refused}
      → a ≡ judged_from h true 0 k r t rest → a ≡ response_by h c t rest
  unfolding response_by
  answers e ek ea = ea ∙ rw (← en, ← e, ek)

pub returns : goal.returns
returns c = answers (read_head c.args.read.now.head) c.args.c c.args.t c.rest.ensures c.shared-reasons.ensures c.kept_set.ensures c.judged.ensures
