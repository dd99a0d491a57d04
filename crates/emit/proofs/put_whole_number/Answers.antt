-- The numeral is as many of the lowest digits as it has.
use Rattle.emit.proofs.Numerals.{digits_written}
use Rattle.emit.proofs.put_whole_number.Goals as goal

pub returns : goal.returns
returns c = search (digits_written 20)
