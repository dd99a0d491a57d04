-- The first i digits stand behind the prefix (Decoding).
use Rattle.std.proofs.Common.{rules}
use Rattle.isup.specs.Fields.{signals}
use Rattle.isup.proofs.Decoding.{number_begin, number_room, number_next}
use Rattle.isup.proofs.backward.number_of.Goals as goal

pub loop-i-init : goal.loop-i-init
unfolding signals
loop-i-init c =
    number_begin c.args.prefix.now c.new-number.ensures c.push.ensures c.append.ensures

pub push-requires-in-loop-i : goal.push-requires-in-loop-i
push-requires-in-loop-i c = search (number_room, rules)

pub loop-i-preserved : goal.loop-i-preserved
loop-i-preserved c = search (number_next, rules)
