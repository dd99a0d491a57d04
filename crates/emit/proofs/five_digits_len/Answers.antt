-- A law for each number of digits.
use Rattle.emit.proofs.Numerals.{len1, len2, len3, len4, len5}
use Rattle.std.proofs.Common.{arith}
use Rattle.emit.proofs.five_digits_len.Goals as goal

pub returns-in-0-to-9 : goal.returns-in-0-to-9
returns-in-0-to-9 c = len1 c.args.n (omega arith)

pub returns-in-10-to-99 : goal.returns-in-10-to-99
returns-in-10-to-99 c = len2 c.args.n (omega arith) (omega arith)

pub returns-in-100-to-999 : goal.returns-in-100-to-999
returns-in-100-to-999 c = len3 c.args.n (omega arith) (omega arith)

pub returns-in-1000-to-9999 : goal.returns-in-1000-to-9999
returns-in-1000-to-9999 c = let e = len4 c.args.n (omega arith) (omega arith) in omega arith

pub returns-in_default : goal.returns-in_default
returns-in_default c = len5 c.args.n (omega arith)
