-- The value of the slot, as it came; where there is none it is empty.
use mathlib.Core.Path.{refl}
use Rattle.gateway.proofs.CallStates.{id_is}
use Rattle.gateway.proofs.message.Accepted.call_id.Goals as goal

pub returns-in-Some : goal.returns-in-Some
returns-in-Some c =
    let a = c.args.self.now in
    id_is a.message.now a.slots.now a.judged.count c.in-Some.ensures.0 c.part.ensures.0

pub returns-in-None : goal.returns-in-None
returns-in-None c =
    let a = c.args.self.now in
    id_is a.message.now a.slots.now a.judged.count c.in-None.ensures.0 refl
