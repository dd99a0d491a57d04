-- By the run (Texts).
use Rattle.calls.proofs.Texts.{by_run}
use Rattle.octets.specs.Members.{members}
use Rattle.calls.proofs.text.is_all.Goals as goal

pub returns : goal.returns
returns c = by_run (members c.args.class) c.args.s.now c.run.ensures.0
