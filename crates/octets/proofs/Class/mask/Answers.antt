-- The mask of each class tests it in the table.
use Rattle.octets.proofs.Classes.{token_class, blank_class, digit_class, visible_class, user_class, parameter_class, host_class, value_class, token_or_blank_class}
use Rattle.octets.proofs.Class.mask.Goals as goal

pub returns-in-Token : goal.returns-in-Token
returns-in-Token c = rw c.in-Token.is token_class

pub returns-in-Blank : goal.returns-in-Blank
returns-in-Blank c = rw c.in-Blank.is blank_class

pub returns-in-Digit : goal.returns-in-Digit
returns-in-Digit c = rw c.in-Digit.is digit_class

pub returns-in-Visible : goal.returns-in-Visible
returns-in-Visible c = rw c.in-Visible.is visible_class

pub returns-in-User : goal.returns-in-User
returns-in-User c = rw c.in-User.is user_class

pub returns-in-Parameter : goal.returns-in-Parameter
returns-in-Parameter c = rw c.in-Parameter.is parameter_class

pub returns-in-Host : goal.returns-in-Host
returns-in-Host c = rw c.in-Host.is host_class

pub returns-in-Value : goal.returns-in-Value
returns-in-Value c = rw c.in-Value.is value_class

pub returns-in-Name : goal.returns-in-Name
returns-in-Name c = rw c.in-Name.is token_or_blank_class
