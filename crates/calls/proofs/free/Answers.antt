-- The bytes of one place are written over (Removing).
use Rattle.calls.proofs.Removing.{blanked}
use Rattle.calls.proofs.free.Goals as goal

pub returns : goal.returns
returns c = blanked c.args.table.now c.told-table c.args.k c.requires (c.fill.ensures.after (λ y e. e))
