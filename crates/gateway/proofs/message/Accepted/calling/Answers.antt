-- What the judge says of the identity, case by case, and that what is read lies within the message (Callers).
use mathlib.Core.Path.{refl, sym}
use native.Mathlib.Omega.{arith}
use Rattle.judgement.proofs.Counted.{count_is}
use Rattle.gateway.proofs.Top.{passes, judged_is}
use Rattle.gateway.proofs.Callers.{trunk_said, read_within, caller_said}
use Rattle.gateway.proofs.message.Accepted.calling.Goals as goal

pub returns-in_default : goal.returns-in_default
returns-in_default c =
    let a = c.args.self.now in
    trunk_said a.message.now c.args.trunk.now c.requires (passes a) c.in_default.is refl

pub overflow_add-start : goal.overflow_add-start
overflow_add-start c =
    let a = c.args.self.now in
    let e = count_is a.message.now (sym (judged_is a)) in
    let l = read_within a.message.now c.args.trunk.now c.requires (passes a) a.reading e c.in-Some.is c.reading_of-p.ensures in
    omega (arith, l, c.unfolded_at.ensures.1, c.part-value.ensures.1)

pub returns : goal.returns
returns c =
    let a = c.args.self.now in
    caller_said a.message.now c.args.trunk.now c.requires (passes a) a.reading (count_is a.message.now (sym (judged_is a))) c.in-Some.is c.reading_of-p.ensures
    c.part-value.ensures.0 c.unfolded_at.ensures.0 (omega arith) (omega arith)
