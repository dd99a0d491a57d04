-- What is written is what the answer holds (Arrays).
use Rattle.isup.specs.Held.{held}
use Rattle.mishkolar_isup.proofs.Arrays.{calls}
use borrow.Author.Rules.{rules}
use Rattle.mishkolar_isup.proofs.mishkolar_isup_caller.Goals as goal

pub returns-in-Ok : goal.returns-in-Ok
returns-in-Ok c =
    calls c.args.bytes.now c.args.code.now c.in-Ok.caller.id (held c.in-Ok.caller.number) c.in-Ok.ensures c.from.ensures c.as_slice.ensures.fits
    (search rules) c.as_slice.ensures.value c.put.ensures c.len.ensures.value
