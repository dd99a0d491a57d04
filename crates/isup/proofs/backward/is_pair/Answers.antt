-- The low half and the high half (Decoding).
use Rattle.isup.proofs.Decoding.{low_code, low_other}
use Rattle.isup.proofs.backward.is_pair.Goals as goal

pub returns-then-b-le9 : goal.returns-then-b-le9
returns-then-b-le9 c = search low_code

pub returns-else-b-le9 : goal.returns-else-b-le9
returns-else-b-le9 c = search low_other
