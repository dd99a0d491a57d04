-- One more than the power of ten that the number reaches.
use Rattle.std.proofs.Common.{arith}
use Rattle.emit.proofs.Numerals.{logged_length}
use Rattle.emit.proofs.whole_number_len.Goals as goal

pub returns : goal.returns
returns c =
    logged_length c.args.n c.checked_ilog10.result c.checked_ilog10.ensures.none c.checked_ilog10.ensures.power_le c.checked_ilog10.ensures.next_power_gt c.checked_ilog10.ensures.bound (omega arith) (omega arith)
