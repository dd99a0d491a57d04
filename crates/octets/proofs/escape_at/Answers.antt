-- `octets::escape_at` meets its contract: too few bytes are no escape, and of three each is tested.
use Rattle.std.proofs.Common.{arith}
use Rattle.std.proofs.lemmas.Grind.{common_steps}
use Rattle.octets.proofs.Escapes.{hex_test, escape_front, few}
use Rattle.octets.proofs.escape_at.Goals as goal

pub returns-in_default : goal.returns-in_default
returns-in_default c = grind (arith, common_steps, few)

pub returns-in_default-2 : goal.returns-in_default-2
returns-in_default-2 c = grind (arith, common_steps, escape_front)

pub returns-else-is_ascii_hexdigit : goal.returns-else-is_ascii_hexdigit
returns-else-is_ascii_hexdigit c = grind (arith, common_steps, escape_front, hex_test)

pub returns-then-is_ascii_hexdigit : goal.returns-then-is_ascii_hexdigit
returns-then-is_ascii_hexdigit c = grind (arith, common_steps, escape_front, hex_test)
