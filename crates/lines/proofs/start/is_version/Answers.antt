-- Told by its words, or compared in any letter case.
use Rattle.octets.specs.Classes.{text}
use Rattle.lines.proofs.Starts.{too_short, told_version, compared_version}
use Rattle.lines.proofs.start.is_version.Goals as goal

pub returns-then-s-at-lt10 : goal.returns-then-s-at-lt10
returns-then-s-at-lt10 c = search too_short

pub returns-then-stand : goal.returns-then-stand
unfolding text
returns-then-stand c = search told_version

pub returns-else-stand : goal.returns-else-stand
unfolding text
returns-else-stand c = search compared_version
