-- By the last byte.
use Rattle.cause_text.proofs.Input.{last_taken}
use Rattle.cause_text.proofs.number.without_lf.Goals as goal

pub returns : goal.returns
returns c = rw c.unwrap_or.ensures (last_taken c.args.s c.strip_suffix.result c.strip_suffix.ensures.cases)
