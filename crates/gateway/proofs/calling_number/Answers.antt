-- The part is the calling number (calling_part_lem of sip).
use mathlib.Core.Path.{refl, ap, ◌∙◌}
use Rattle.std.proofs.Common.{Some}
use Rattle.gateway.proofs.Callers.{no_part, trunk_part, message_part}
use Rattle.gateway.proofs.calling_number.Goals as goal

pub returns-in-None : goal.returns-in-None
returns-in-None c = no_part c.args.message.now c.args.trunk.now c.calling_at.ensures c.in-None.is refl

pub returns-in-Some-Trunk : goal.returns-in-Some-Trunk
returns-in-Some-Trunk c = trunk_part c.args.message.now c.args.trunk.now c.calling_at.ensures (c.in-Some-Trunk.is ∙ ap Some c.in-Some-Trunk.field-0-is) c.part.ensures.0

pub returns-in-Some-Message : goal.returns-in-Some-Message
returns-in-Some-Message c = message_part c.args.message.now c.args.trunk.now c.calling_at.ensures (c.in-Some-Message.is ∙ ap Some c.in-Some-Message.field-0-is) c.part-in-Some-Message.ensures.0
