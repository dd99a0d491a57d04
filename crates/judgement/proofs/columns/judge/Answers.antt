-- By the kind of the message.
use mathlib.Core.Path.{◌≡◌, ◌∙◌, refl, ap}
use mathlib.Core.List.{List}
use Prim.Native.Nat.{ℕ, ◌+◌, ◌-◌}
use lib.ListN.{length, take, drop}
use borrow.Author.Tests.{eq-eqb, ne_eqb}
use Rattle.sip.specs.declared.Column.{Column}
use Rattle.lines.specs.Index.{Head, read_head, method_of, uri_of}
use Rattle.values.specs.Answers.{request_uri}
use Rattle.lines.specs.declared.StartLine.{StartLine}
use Rattle.lines.specs.declared.StartLine.TheVariants.{Request}
use Rattle.judgement.specs.declared.Tally.{Tally}
use Rattle.judgement.specs.declared.Judged.{Judged}
use Rattle.judgement.specs.declared.Refused.{Refused}
use Rattle.std.specs.Prelude.{Result}
use Rattle.judgement.specs.Sets.{kept_set}
use Rattle.judgement.specs.Entries.{entries_from}
use Rattle.judgement.specs.Tallies.{no_tally, tallied}
use Rattle.judgement.specs.Judged.{request_by, response_by, judged_by}
use Rattle.judgement.proofs.Messages.{some_method}
use Rattle.judgement.proofs.columns.judge.Goals as goal

module _ (m slots : List ℕ) (h : Head) (c : Column) (method : List ℕ) {rest : ℕ} (es : rest ≡ length m - h.rest) {k : ℕ} (ek : k ≡ kept_set c)
    {t : Tally} (et : t ≡ tallied method no_tally (entries_from k m slots h.count 0)) {a : Result Judged Refused}
  where
    response : h.method ≡ 0 → a ≡ response_by h c t rest → a ≡ judged_by m slots h c method
    unfolding judged_by
    response q e = e ∙ rw (eq-eqb h.method 0 q, ← es, ← ek, ← et)

    request : (h.method ≡ 0 → ⊥) → a ≡ request_by h c method (request_uri (take h.uri (drop (h.method + 1) m))) t rest → a ≡ judged_by m slots h c method
    unfolding judged_by
    request q e = e ∙ rw (ne_eqb h.method 0 q, ← es, ← ek, ← et)

at_parts : {l : StartLine} {size uri : ℕ} {A : Type 0} (f : ℕ → ℕ → A) → l ≡ Request size uri → f size uri ≡ f (method_of l) (uri_of l)
at_parts f e = rw (ap method_of e, ap uri_of e)

pub returns-in-Status : goal.returns-in-Status
returns-in-Status c =
    response c.args.read.now.message.now c.args.read.now.slots.now (read_head c.args.read.now.head) c.args.c c.args.method.now refl c.kept_set.ensures
    c.tally-t.ensures (ap method_of c.in-Status.is) c.answer.ensures

pub returns-in-Request : goal.returns-in-Request
returns-in-Request c =
    request c.args.read.now.message.now c.args.read.now.slots.now (read_head c.args.read.now.head) c.args.c c.args.method.now refl c.kept_set.ensures
    c.tally-t.ensures (some_method c.args.read.now.named c.in-Request.is)
    (c.answer-in-Request.ensures ∙ at_parts
    (λ size uri. request_by (read_head c.args.read.now.head) c.args.c c.args.method.now
    (request_uri (take uri (drop (size + 1) c.args.read.now.message.now))) c.tally-t.result
    (length c.args.read.now.message.now - c.args.read.now.head.rest))
    c.in-Request.is)
