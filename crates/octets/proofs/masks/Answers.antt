-- `octets::masks` meets its contract: the definition's table computes to the constant's 256 masks.
use mathlib.Core.Path.{refl}
use Rattle.octets.specs.Classes.{class_table, is_token, is_blank, is_digit, is_visible, is_user, is_parameter, is_host, is_value}
use Rattle.octets.proofs.masks.Goals as goal

pub returns : goal.returns
unfolding class_table is_token is_blank is_digit is_visible is_user is_parameter is_host is_value
returns c = refl
