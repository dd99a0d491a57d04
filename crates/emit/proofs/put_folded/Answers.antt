-- `emit::put_folded` meets its contract: `has_folded_room` answers the test that `put_at` and `next_at` make.
use Rattle.emit.proofs.Laws.{room_yes, room_no}
use Rattle.emit.proofs.put_folded.Goals as goal

pub put_pieces-requires : goal.put_pieces-requires
put_pieces-requires c = search room_yes

pub returns : goal.returns
returns c = search room_no
