-- CR 4, "A cause table people can read": what is printed for what stands on standard input.
use Rattle.std.specs.Prelude.{Option, Some, None, Bool, cond, List, [], ◌∷◌, ◌++◌, ℕ, zero, suc, ◌-◌, length}
use Rattle.octets.specs.Classes.{text}
use Rattle.causes.specs.Causes.{listed, status_entries, status}
use Rattle.sip.specs.Output.{whole_numeral, spaced}
use Rattle.cause_text.specs.Number.{without_lf, number_of}

-- ---- one cause

-- two numbers, each after a space
abbrev pub two : ℕ → ℕ → List ℕ
two a b = spaced a ++ spaced b

-- a line of three numbers
abbrev pub three : ℕ → ℕ → ℕ → List ℕ
three a b c = whole_numeral a ++ (two b c ++ 10 ∷ [])

-- status, row and refusal
unfoldable pub answer_text : ℕ → List ℕ
answer_text c = let a = status c in three a.status a.row a.refusal

-- ---- the table

unfoldable pub blanks : ℕ → List ℕ
blanks zero = []
blanks (suc n) = 32 ∷ blanks n

-- a number, right-aligned in three places
unfoldable pub column : ℕ → List ℕ
column n = let d = whole_numeral n in blanks (3 - length d) ++ d

abbrev pub columns : ℕ → ℕ → ℕ → List ℕ
columns a b c = column a ++ ((32 ∷ column b) ++ (32 ∷ column c))

-- how a line ends, with a star or without
abbrev pub line_end : Bool → List ℕ
line_end starred = cond starred (text " *\n") (text "\n")

-- cause, status and row, and a star where the cause has a row of its own
unfoldable pub table_line : ℕ → List ℕ
table_line c = let a = status c in columns c a.status a.row ++ line_end (listed status_entries c)

-- the lines of n causes from c on
unfoldable pub table_from : ℕ → ℕ → List ℕ
table_from zero c = []
table_from (suc n) c = table_line c ++ table_from n (suc c)

-- the causes of 0 to 127
abbrev pub table : List ℕ
table = table_from 128 0

-- ---- what stands on standard input

unfoldable pub line_text : Option ℕ → List ℕ
line_text (Some c) = answer_text c
line_text None = text "not a number of 1 to 19 digits\n"

-- for an empty input the table, for any other one line
unfoldable pub printed : List ℕ → List ℕ
printed [] = table
printed (b ∷ s) = line_text (number_of (without_lf (b ∷ s)))
