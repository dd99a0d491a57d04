-- By the bit of odd/even and the last octet (Decoding).
use Rattle.isup.proofs.Decoding.{filled_even, filled_odd}
use Rattle.isup.proofs.backward.is_filler_zero.Goals as goal

pub returns-then-s-lt128 : goal.returns-then-s-lt128
returns-then-s-lt128 c = search filled_even

pub returns : goal.returns
returns c = search filled_odd
