-- A slot is taken up or not, by the tests.
use Rattle.lines.proofs.Keeps.{full_count, full_slots, kept_count, kept_slots}
use Rattle.lines.proofs.header.add.Goals as goal

pub returns-then-count-ge96 : goal.returns-then-count-ge96
returns-then-count-ge96 c = search (full_count, full_slots)

pub returns : goal.returns
returns c = search (kept_count, kept_slots)
