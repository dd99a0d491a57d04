-- By whether there is a text.
use Rattle.cause_text.proofs.Puts.{maybe_put}
use Rattle.cause_text.proofs.put_front.Goals as goal

pub returns : goal.returns
returns c = maybe_put c.args.text.now c.put.ensures
