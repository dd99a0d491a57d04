-- The digit stands in the low or the high half (Decoding).
use Rattle.isup.proofs.Decoding.{low_half, high_half}
use Rattle.isup.proofs.backward.digit_at.Goals as goal

pub returns-then-i-eq0 : goal.returns-then-i-eq0
returns-then-i-eq0 c = search low_half

pub returns-else-i-eq0 : goal.returns-else-i-eq0
returns-else-i-eq0 c = search high_half
