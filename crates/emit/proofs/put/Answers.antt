-- `emit::put` meets its contract: `has_room` answers the test that `put_at` and `next_at` make.
use Rattle.emit.proofs.Laws.{room_yes, room_no}
use Rattle.emit.proofs.put.Goals as goal

pub copy-requires : goal.copy-requires
copy-requires c = search room_yes

pub returns : goal.returns
returns c = search room_no
