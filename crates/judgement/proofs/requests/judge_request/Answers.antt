-- One law for each answer: a method with no column, and one with a column.
use mathlib.Core.Path.{◌≡◌, sym, ap, ◌∙◌}
use mathlib.Core.List.{List}
use Prim.Native.Nat.{ℕ}
use lib.ListN.{take}
use Rattle.std.specs.Prelude.{Option, Some, None, Result, Err}
use Rattle.sip.specs.declared.Column.{Column}
use Rattle.lines.specs.Index.{Head, read_head}
use Rattle.judgement.specs.declared.Refused.{Refused}
use Rattle.judgement.specs.declared.Judged.{Judged}
use Rattle.judgement.specs.Sets.{column_at}
use Rattle.judgement.specs.Judged.{bare_refused, judged_by, request_lines}
use Rattle.judgement.proofs.requests.judge_request.Goals as goal

module _ (m slots : List ℕ) (h : Head) {p : List ℕ} (hp : p ≡ take h.method m) {k : Option Column} (hk : k ≡ column_at p) where
  column_is : (x : Option Column) → k ≡ x → column_at (take h.method m) ≡ x
  column_is x q = ap column_at (sym hp) ∙ sym hk ∙ q

  no_column : k ≡ None → {x : Refused} → x ≡ bare_refused 6 405 → Err x ≡ request_lines m slots h
  unfolding request_lines
  no_column q hx = rw (hx, column_is None q)

  by_column : {c : Column} → k ≡ Some c → {a : Result Judged Refused} → a ≡ judged_by m slots h c p → a ≡ request_lines m slots h
  unfolding request_lines
  by_column {c} q ha = rw (ha, column_is (Some c) q, hp)

pub returns-in-None : goal.returns-in-None
returns-in-None c =
    no_column c.args.read.now.message.now c.args.read.now.slots.now (read_head c.args.read.now.head) (rw c.requires at c.first-method.ensures.0) c.column_of.ensures
    c.in-None.is c.bare.ensures

pub returns-in-Some : goal.returns-in-Some
returns-in-Some c =
    by_column c.args.read.now.message.now c.args.read.now.slots.now (read_head c.args.read.now.head) (rw c.requires at c.first-method.ensures.0) c.column_of.ensures
    c.in-Some.is c.judge.ensures
