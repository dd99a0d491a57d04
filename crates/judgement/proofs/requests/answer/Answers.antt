-- The lengths and the method are those of the message.
use mathlib.Core.Path.{◌≡◌, ◌∙◌, ap}
use mathlib.Core.Bool.{Bool}
use mathlib.Core.List.{List}
use Prim.Native.Nat.{ℕ, ◌+◌}
use lib.ListN.{take, drop}
use Rattle.std.specs.Prelude.{Result}
use Rattle.octets.specs.Classes.{text}
use Rattle.octets.specs.Scans.{same}
use Rattle.sip.specs.declared.Column.{Column}
use Rattle.sip.specs.Refusals.{first_of}
use Rattle.lines.specs.Index.{read_head, method_of, uri_of, Head}
use Rattle.values.specs.declared.RequestUri.{RequestUri}
use Rattle.values.specs.Answers.{request_uri}
use Rattle.judgement.specs.declared.Refusal.{Refusal}
use Rattle.judgement.specs.declared.Refused.{Refused}
use Rattle.judgement.specs.declared.Tally.{Tally}
use Rattle.judgement.specs.declared.Judged.{Judged}
use Rattle.judgement.specs.Sets.{kept_set}
use Rattle.judgement.specs.Judged.{decided, checked, judged_from, request_by}
use Rattle.judgement.proofs.requests.answer.Goals as goal

module _ (h : Head) (c : Column) (m method : List ℕ) (t : Tally) {size uri : ℕ} (es : h.method ≡ size) (el : h.uri ≡ uri) {n rest : ℕ} (en : n ≡ rest)
    {u : RequestUri} (eu : u ≡ request_uri (take uri (drop (size + 1) m))) {b : Bool} (eb : b ≡ same (text "ACK") method) where
  answers : {r : Result Unit Refusal} → r ≡ checked (first_of (decided c t u n)) → {k : ℕ} → k ≡ kept_set c
      → {a : Result Judged Refused} → a ≡ judged_from h b (size + 1 + uri + 1) k r t rest
      → a ≡ request_by h c method (request_uri (take uri (drop (size + 1) m))) t rest
  unfolding request_by
  answers e ek ea = ea ∙ rw (← en, ← eu, ← e, es, el, ek, eb)

pub returns : goal.returns
returns c =
    answers (read_head c.args.read.now.head) c.args.c c.args.read.now.message.now c.args.method.now c.args.t (ap method_of c.requires)
    (ap uri_of c.requires) c.rest.ensures c.request_uri.ensures c.is_ack.ensures c.decide-reasons.ensures c.kept_set.ensures c.judged.ensures
