-- The byte classes of RFC 3261, as tests of one byte, and their table of 256 masks.
use Rattle.std.specs.Prelude.{Bool, true, false, not, ◌&&◌, ◌||◌, List, [], ◌∷◌, ℕ, zero, suc, ◌+◌, ◌*◌, leb, eqb, get_or}
use Prim.Native.Char.{code}
use Prim.Native.String.{String, len, char_at}
use Rattle.std.specs.Int.Bits.{bit_and}

text_from : String → ℕ → ℕ → List ℕ
text_from t zero i = []
text_from t (suc n) i = code (char_at t i) ∷ text_from t n (suc i)

-- the bytes of an ASCII text
unfoldable pub text : String → List ℕ
unfolding text_from
text t = text_from t (len t) 0

-- lo to hi
abbrev pub within : ℕ → ℕ → ℕ → Bool
within lo hi n = leb lo n && leb n hi

-- n is one of the numbers
abbrev pub among : List ℕ → ℕ → Bool
among [] n = false
among (x ∷ xs) n = eqb n x || among xs n

-- DIGIT: 0 to 9
unfoldable pub is_digit : ℕ → Bool
is_digit b = within 48 57 b

-- ALPHA: a letter of either case
unfoldable pub is_alpha : ℕ → Bool
is_alpha b = within 65 90 b || within 97 122 b

-- alphanum: ALPHA / DIGIT
unfoldable pub is_alphanum : ℕ → Bool
unfolding is_alpha is_digit
is_alphanum b = is_alpha b || is_digit b

-- HEXDIG, letters in either case
unfoldable pub is_hex : ℕ → Bool
unfolding is_digit
is_hex b = is_digit b || (within 65 70 b || within 97 102 b)

-- token: alphanum / "-" / "." / "!" / "%" / "*" / "_" / "+" / "`" / "'" / "~"
unfoldable pub is_token : ℕ → Bool
unfolding is_alphanum text
is_token b = is_alphanum b || among (text "-.!%*_+`'~") b

-- unreserved: alphanum / mark
unfoldable pub is_unreserved : ℕ → Bool
unfolding is_alphanum text
is_unreserved b = is_alphanum b || among (text "-_.!~*'()") b

-- user: unreserved / user-unreserved (an escape stands for itself, see `run_escaped`)
unfoldable pub is_user : ℕ → Bool
unfolding is_unreserved text
is_user b = is_unreserved b || among (text "&=+$,;?/") b

-- paramchar: unreserved / param-unreserved (an escape stands for itself)
unfoldable pub is_paramchar : ℕ → Bool
unfolding is_unreserved text
is_paramchar b = is_unreserved b || among (text "[]/:&+$") b

-- document 01's "parameter bytes" of a tail: "RFC 3261's paramchar set, `;`, `=`" (an escape stands for itself)
unfoldable pub is_parameter : ℕ → Bool
unfolding is_paramchar text
is_parameter b = is_paramchar b || among (text ";=") b

-- host: "letters, digits, `-`, `.`"
unfoldable pub is_host : ℕ → Bool
unfolding is_alphanum text
is_host b = is_alphanum b || among (text "-.") b

-- "spaces or tabs"
unfoldable pub is_blank : ℕ → Bool
is_blank b = eqb b 32 || eqb b 9

-- a byte of a line break: CR or LF
unfoldable pub is_break : ℕ → Bool
is_break b = eqb b 13 || eqb b 10

-- "space, tab or line break"
unfoldable pub is_gap : ℕ → Bool
unfolding is_blank is_break
is_gap b = is_blank b || is_break b

-- "Value bytes are tab, 32 to 126 and 128 to 255."
unfoldable pub is_value : ℕ → Bool
is_value b = eqb b 9 || (within 32 126 b || within 128 255 b)

-- "each 33 to 126": a byte of a Request-URI or a Call-ID
unfoldable pub is_visible : ℕ → Bool
is_visible b = within 33 126 b

-- ---- "The byte classes of RFC 3261 (token, digit, user, parameter) stand in one table of 256 entries."

-- the classes of the table, in the order of their bits: 1, 2, 4, 8, ...
unfoldable pub classes : List (ℕ → Bool)
classes = is_token ∷ is_blank ∷ is_digit ∷ is_visible ∷ is_user ∷ is_parameter ∷ is_host ∷ is_value ∷ []

abbrev pub bit : Bool → ℕ
bit true = 1
bit false = 0

-- the mask of the classes that hold b: bit k is set where class k holds it
unfoldable pub mask_of : List (ℕ → Bool) → ℕ → ℕ
mask_of [] b = 0
mask_of (p ∷ ps) b = bit (p b) + 2 * mask_of ps b

-- the entry of the table for b
unfoldable pub class_of : ℕ → ℕ
unfolding mask_of classes
class_of b = mask_of classes b

table_from : ℕ → ℕ → List ℕ
table_from zero b = []
table_from (suc n) b = class_of b ∷ table_from n (suc b)

-- the table: the entries of the bytes 0 to 255
unfoldable pub class_table : List ℕ
unfolding table_from class_of
class_table = table_from 256 0

-- by a table of masks, b is in a class of the mask m
unfoldable pub in_table : List ℕ → ℕ → ℕ → Bool
in_table table m b = not (eqb (bit_and (get_or table b 0) m) 0)
