-- Each answer is a law of the status line.
use Rattle.lines.proofs.Statuses.{no_version, no_code, code_last, no_space, no_end, a_status}
use Rattle.lines.proofs.status.read.Goals as goal

pub returns-then-not-is_version : goal.returns-then-not-is_version
returns-then-not-is_version c = search no_version

pub returns-then-end-ne11 : goal.returns-then-end-ne11
returns-then-end-ne11 c = search no_code

pub returns-then-s-le11 : goal.returns-then-s-le11
returns-then-s-le11 c = search code_last

pub returns-then-s-ne32 : goal.returns-then-s-ne32
returns-then-s-ne32 c = search no_space

pub returns-then-not-is_empty_line : goal.returns-then-not-is_empty_line
returns-then-not-is_empty_line c = search no_end

pub returns : goal.returns
returns c = search a_status
