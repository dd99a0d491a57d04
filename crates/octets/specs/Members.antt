-- The classes of the table, and tokens with blanks between them, by their names in the code.
use Rattle.std.specs.Prelude.{Bool, ◌||◌, ℕ}
use Rattle.octets.specs.Classes.{is_token, is_blank, is_digit, is_visible, is_user, is_parameter, is_host, is_value}
use Rattle.octets.specs.declared.Class.{Class}
use Rattle.octets.specs.declared.Class.TheVariants.{Token, Blank, Digit, Visible, User, Parameter, Host, Value, Name}

-- the bytes of a class
abbrev pub members : Class → ℕ → Bool
members Token = is_token
members Blank = is_blank
members Digit = is_digit
members Visible = is_visible
members User = is_user
members Parameter = is_parameter
members Host = is_host
members Value = is_value
members Name = λ b. is_token b || is_blank b
