-- `octets::in_class` meets its contract: the code's test is the definition's.
use mathlib.Core.Path.{refl}
use Rattle.octets.specs.Classes.{in_table}
use Rattle.octets.proofs.in_class.Goals as goal

pub returns : goal.returns
unfolding in_table
returns c = refl
