-- What is written is what the answer holds (Arrays).
use Rattle.isup.specs.Held.{held}
use Rattle.mishkolar_isup.proofs.Arrays.{gives}
use borrow.Author.Rules.{rules}
use Rattle.mishkolar_isup.proofs.mishkolar_isup_parameter.Goals as goal

pub returns-in-Ok : goal.returns-in-Ok
returns-in-Ok c =
    gives c.args.message.now c.args.code.now _ (held c.in-Ok.octets) c.in-Ok.ensures c.as_slice.ensures.fits (search rules) c.as_slice.ensures.value
    c.put.ensures c.len.ensures.value
