-- What is measured is the outgoing message (Passing).
use native.Mathlib.Omega.{arith}
use Rattle.gateway.proofs.Passing.{sent_length, body_short, line_short}
use Rattle.gateway.proofs.message.Outgoing.len.Goals as goal

pub overflow_add-result : goal.overflow_add-result
overflow_add-result c = omega (arith, line_short c.args.self.now)

pub overflow_add-result-2 : goal.overflow_add-result-2
overflow_add-result-2 c = omega (arith, line_short c.args.self.now)

pub overflow_add-result-3 : goal.overflow_add-result-3
overflow_add-result-3 c = omega (arith, line_short c.args.self.now, body_short c.args.self.now)

pub returns : goal.returns
returns c = omega (arith, sent_length c.args.self.now, c.lines_len.ensures.0)
