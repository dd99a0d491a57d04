-- By the kind of the message.
use mathlib.Core.Path.{◌≡◌, ◌∙◌, ap}
use mathlib.Core.List.{List}
use Prim.Native.Nat.{ℕ}
use borrow.Author.Tests.{eq-eqb, ne_eqb}
use Rattle.lines.specs.Index.{Head, read_head, method_of}
use Rattle.judgement.specs.declared.Judged.{Judged}
use Rattle.judgement.specs.declared.Refused.{Refused}
use Rattle.std.specs.Prelude.{Result}
use Rattle.judgement.specs.Judged.{request_lines, response_lines, judged_lines}
use Rattle.judgement.proofs.Messages.{some_method}
use Rattle.judgement.proofs.judge_read.Goals as goal

module _ (m slots : List ℕ) (h : Head) {a : Result Judged Refused} where
  responds : h.method ≡ 0 → a ≡ response_lines m slots h → a ≡ judged_lines m slots h
  unfolding judged_lines
  responds q e = e ∙ rw (eq-eqb h.method 0 q)

  requests : (h.method ≡ 0 → ⊥) → a ≡ request_lines m slots h → a ≡ judged_lines m slots h
  unfolding judged_lines
  requests q e = e ∙ rw (ne_eqb h.method 0 q)

pub returns-in-Status : goal.returns-in-Status
returns-in-Status c =
    responds c.args.read.now.message.now c.args.read.now.slots.now (read_head c.args.read.now.head) (ap method_of c.in-Status.is) c.judge_response.ensures

pub returns-in-Request : goal.returns-in-Request
returns-in-Request c =
    requests c.args.read.now.message.now c.args.read.now.slots.now (read_head c.args.read.now.head) (some_method c.args.read.now.named c.in-Request.is)
    c.judge_request.ensures
