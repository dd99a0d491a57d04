-- What holds of the text that people read, as statements; their proofs are in proofs/.
use Rattle.std.specs.Prelude.{◌≡◌, true, List, [], ◌∷◌, ◌++◌, ℕ, ◌≤◌, length, take}
use Prim.Native.String.{String}
use Rattle.octets.specs.Classes.{text, is_digit}
use Rattle.octets.specs.Scans.{all, decimal}
use Rattle.cause_text.specs.Text.{answer_text, printed}

-- something is always printed, and never more than 1,792 bytes, 14 for each cause: with such a buffer there is room, and 0 says that there is none
abbrev pub PrintRoom : Type 0
PrintRoom = (s : List ℕ) → (1 ≤ length (printed s)) × (length (printed s) ≤ 1792)

-- the first 32 bytes of the input decide: more need not be read
abbrev pub FirstBytes : Type 0
FirstBytes = (s : List ℕ) → printed (take 32 s) ≡ printed s

-- 1 to 19 digits, ended by LF or by nothing, ask for the cause that they write
abbrev pub EveryCause : Type 0
EveryCause =
    (s : List ℕ)
    → 1 ≤ length s
    → length s ≤ 19
    → all is_digit s ≡ true
    → (printed s ≡ answer_text (decimal 0 s)) × (printed (s ++ 10 ∷ []) ≡ answer_text (decimal 0 s))

-- ---- the table

-- lines, each ended by LF
unfoldable pub lines_of : List String → List ℕ
lines_of [] = []
lines_of (l ∷ ls) = text l ++ 10 ∷ lines_of ls

-- cause, status, row, and a star where the cause has a row of its own
unfoldable pub whole_table : List String
whole_table =
    "  0 480  31" ∷ "  1 404   1 *" ∷ "  2 503   2 *" ∷ "  3 503   3 *" ∷ "  4 503   4 *" ∷ "  5 404   5 *" ∷ "  6 480  31" ∷ "  7 480  31"
    ∷ "  8 480  31" ∷ "  9 480  31" ∷ " 10 480  31" ∷ " 11 480  31" ∷ " 12 480  31" ∷ " 13 480  31" ∷ " 14 480  31" ∷ " 15 480  31"
    ∷ " 16 480  31" ∷ " 17 486  17 *" ∷ " 18 480  18 *" ∷ " 19 480  19 *" ∷ " 20 480  20 *" ∷ " 21 480  21 *" ∷ " 22 410  22 *" ∷ " 23 480  31"
    ∷ " 24 480  31" ∷ " 25 480  25 *" ∷ " 26 480  31" ∷ " 27 502  27 *" ∷ " 28 484  28 *" ∷ " 29 503  29 *" ∷ " 30 480  31" ∷ " 31 480  31 *"
    ∷ " 32 503  47" ∷ " 33 503  47" ∷ " 34 480  34 *" ∷ " 35 503  47" ∷ " 36 503  47" ∷ " 37 503  47" ∷ " 38 503  38 *" ∷ " 39 503  47"
    ∷ " 40 503  47" ∷ " 41 503  41 *" ∷ " 42 503  42 *" ∷ " 43 503  43 *" ∷ " 44 503  44 *" ∷ " 45 503  47" ∷ " 46 503  47" ∷ " 47 503  47 *"
    ∷ " 48 503  63" ∷ " 49 503  63" ∷ " 50 503  50 *" ∷ " 51 503  63" ∷ " 52 503  63" ∷ " 53 503  63" ∷ " 54 503  63" ∷ " 55 503  63"
    ∷ " 56 503  63" ∷ " 57 503  57 *" ∷ " 58 503  58 *" ∷ " 59 503  63" ∷ " 60 503  63" ∷ " 61 503  63" ∷ " 62 503  63" ∷ " 63 503  63 *"
    ∷ " 64 503  79" ∷ " 65 503  65 *" ∷ " 66 503  79" ∷ " 67 503  79" ∷ " 68 503  79" ∷ " 69 503  79" ∷ " 70 503  70 *" ∷ " 71 503  79"
    ∷ " 72 503  79" ∷ " 73 503  79" ∷ " 74 503  79" ∷ " 75 503  79" ∷ " 76 503  79" ∷ " 77 503  79" ∷ " 78 503  79" ∷ " 79 503  79 *"
    ∷ " 80 503  95" ∷ " 81 503  95" ∷ " 82 503  95" ∷ " 83 503  95" ∷ " 84 503  95" ∷ " 85 503  95" ∷ " 86 503  95" ∷ " 87 503  95"
    ∷ " 88 503  88 *" ∷ " 89 503  95" ∷ " 90 503  95" ∷ " 91 404  91 *" ∷ " 92 503  95" ∷ " 93 503  95" ∷ " 94 503  95" ∷ " 95 503  95 *"
    ∷ " 96 500 111" ∷ " 97 503  97 *" ∷ " 98 500 111" ∷ " 99 503  99 *" ∷ "100 500 111" ∷ "101 500 111" ∷ "102 480 102 *" ∷ "103 500 111"
    ∷ "104 500 111" ∷ "105 500 111" ∷ "106 500 111" ∷ "107 500 111" ∷ "108 500 111" ∷ "109 500 111" ∷ "110 500 111" ∷ "111 500 111 *"
    ∷ "112 500 127" ∷ "113 500 127" ∷ "114 500 127" ∷ "115 500 127" ∷ "116 500 127" ∷ "117 500 127" ∷ "118 500 127" ∷ "119 500 127"
    ∷ "120 500 127" ∷ "121 500 127" ∷ "122 500 127" ∷ "123 500 127" ∷ "124 500 127" ∷ "125 500 127" ∷ "126 500 127" ∷ "127 500 127 *"
    ∷ []

abbrev pub WholeTable : Type 0
WholeTable = printed [] ≡ lines_of whole_table

-- ---- worked cases

-- what stands on standard input, and what is printed
pub record Printed : Type 0 where
  pub given : String
  pub prints : String

abbrev for : String → String → Printed
for s p = record { given = s; prints = p }

unfoldable pub printings : List Printed
printings =
    for "26\n" "480 31 0\n"
    ∷ for "26" "480 31 0\n"
    ∷ for "026\n" "480 31 0\n"
    ∷ for "0\n" "480 31 0\n"
    ∷ for "5\n" "404 5 0\n"
    ∷ for "91\n" "404 91 0\n"
    ∷ for "110\n" "500 111 0\n"
    ∷ for "127\n" "500 127 0\n"
    ∷ for "0000000000000000127\n" "500 127 0\n"
    ∷ for "128\n" "0 0 21\n"
    ∷ for "256\n" "0 0 21\n"
    ∷ for "9999999999999999999\n" "0 0 21\n"
    ∷ for "10000000000000000000\n" "not a number of 1 to 19 digits\n"
    ∷ for "\n" "not a number of 1 to 19 digits\n"
    ∷ for "26\r\n" "not a number of 1 to 19 digits\n"
    ∷ for "26\n\n" "not a number of 1 to 19 digits\n"
    ∷ for "26\n27\n" "not a number of 1 to 19 digits\n"
    ∷ for " 26\n" "not a number of 1 to 19 digits\n"
    ∷ for "-1\n" "not a number of 1 to 19 digits\n"
    ∷ []

pub data AllPrint : List Printed → Type 0 where
  no_printing : AllPrint []
  printing : {x : Printed} {xs : List Printed} → printed (text x.given) ≡ text x.prints → AllPrint xs → AllPrint (x ∷ xs)
