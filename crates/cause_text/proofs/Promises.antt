-- A line that is too long is no number, whatever follows; the table's length and the worked cases are computed.
use mathlib.Core.Path.{◌≡◌, refl, sym, ◌∙◌}
use mathlib.Core.Bool.{Bool, true, false, and-false}
use mathlib.Core.List.{List, [], ◌∷◌, ◌++◌}
use Prim.Native.Nat.{ℕ, zero, suc, ◌+◌, ◌-◌, ◌≤◌, ◌<◌}
use native.Mathlib.Omega.{arith}
use lib.Dec.{eqb, leb}
use lib.ListN.{length, take, get_or, length-append}
use lib.Seq.{length-take-le, take_all, take-append_seam}
use borrow.Author.Tests.{lt-leb, le-leb, leb-true}
use Rattle.octets.specs.Classes.{text, within, is_digit}
use Rattle.octets.specs.Scans.{all, decimal}
use Rattle.causes.specs.Causes.{among, listed, given, status_entries, class_ends, next_above, row_of, status_of, status}
use Rattle.sip.specs.Output.{digits}
use Rattle.sip.proofs.Tests.{and_left, and_right}
use Rattle.emit.proofs.Numerals.{below_or_not, digits_le}
use Rattle.std.specs.Prelude.{Option, Some, None}
use Rattle.cause_text.specs.Number.{without_lf, number_of}
use Rattle.cause_text.specs.Text.{answer_text, blanks, column, table_line, table_from, table, line_text, printed}
use Rattle.cause_text.specs.Promises.{PrintRoom, FirstBytes, EveryCause, lines_of, whole_table, WholeTable, printings, AllPrint, no_printing, printing}
use Rattle.cause_text.proofs.Input.{some_bytes, not_ended}

table_length : length table ≡ 1612
unfolding table_from table_line column blanks digits status status_of row_of status_entries class_ends next_above listed given among text
table_length = refl

pub printings_hold : AllPrint printings
unfolding printings printed line_text answer_text digits without_lf number_of all is_digit decimal status status_of row_of status_entries class_ends next_above listed given among text
printings_hold = printing refl (printing refl (printing refl (printing refl (printing refl (printing refl (printing refl (printing refl (printing refl (printing refl (printing refl (printing refl (printing refl (printing refl (printing refl (printing refl (printing refl (printing refl (printing refl (no_printing)))))))))))))))))))

pub whole_table_lem : WholeTable
unfolding lines_of whole_table printed table_from table_line column blanks digits status status_of row_of status_entries class_ends next_above listed given among text
whole_table_lem = refl

-- ---- how long what is printed is

answer_length : (c : ℕ) → length (answer_text c) ≤ 63
unfolding answer_text
answer_length c =
    let a = status c in
    rw (length-append, length-append, length-append)
    (omega (arith, digits_le 20 a.status, digits_le 20 a.row, digits_le 20 a.refusal))

line_length : (n : Option ℕ) → (1 ≤ length (line_text n)) × (length (line_text n) ≤ 63)
unfolding line_text answer_text text
line_length (Some c) = let a = status c in (rw (length-append, length-append) (omega arith), answer_length c)
line_length None = (omega arith, omega arith)

pub print_room : PrintRoom
unfolding printed
print_room [] = rw table_length (omega arith, omega arith)
print_room (b ∷ s) = let l = line_length (number_of (without_lf (b ∷ s))) in (l.0, omega (arith, l.1))

-- ---- what is read

-- the LF that ends a line is one byte
line_bytes : (s : List ℕ) → length s ≤ length (without_lf s) + 1
unfolding without_lf
line_bytes s = go (eqb (get_or s (length s - 1) 0) 10) refl
  where
    go : (t : Bool) → eqb (get_or s (length s - 1) 0) 10 ≡ t → length s ≤ length (without_lf s) + 1
    go true e = rw (e, length-take-le (length s - 1) s (omega arith)) (omega arith)
    go false e = rw e (omega arith)

long_line : (s : List ℕ) → 32 ≤ length s → printed s ≡ line_text None
unfolding number_of
long_line s h =
    let l : 19 < length (without_lf s) = omega (arith, line_bytes s) in
    some_bytes s (omega arith) ∙ rw (lt-leb (length (without_lf s)) 19 l, and-false)

pub first_bytes : FirstBytes
first_bytes s = below_or_not (length s) 32
    (λ h. rw (take_all 32 s (omega arith)))
    (λ h. long_line (take 32 s) (rw (length-take-le 32 s h) (omega arith)) ∙ sym (long_line s h))

-- ---- digits are read as the number that they write

not_lf : (s : List ℕ) → all is_digit s ≡ true → (i : ℕ) → get_or s i 0 ≡ 10 → ⊥
unfolding all is_digit
not_lf [] e i x = omega (arith, x)
not_lf (b ∷ s) e zero x = omega (arith, x, leb-true 48 b (and_left (leb 48 b) (leb b 57) (and_left (within 48 57 b) (all is_digit s) e)))
not_lf (b ∷ s) e (suc i) x = not_lf s (and_right (within 48 57 b) (all is_digit s) e) i x

last_of : (s : List ℕ) (x : ℕ) → get_or (s ++ x ∷ []) (length s) 0 ≡ x
last_of [] x = refl
last_of (b ∷ s) x = last_of s x

without_lf_lem : (s : List ℕ) → without_lf (s ++ 10 ∷ []) ≡ s
unfolding without_lf
without_lf_lem s =
    let z : length (s ++ 10 ∷ []) - 1 ≡ length s = rw length-append (omega arith) in
    rw (z, last_of s 10) (take-append_seam s (10 ∷ []))

module _ (s : List ℕ) (l : 1 ≤ length s) (h : length s ≤ 19) (e : all is_digit s ≡ true) where
  its_number : line_text (number_of s) ≡ answer_text (decimal 0 s)
  unfolding line_text number_of
  its_number = rw (le-leb 1 (length s) l, le-leb (length s) 19 h, e)

pub every_cause : EveryCause
every_cause s l h e =
    let y : 1 ≤ length (s ++ 10 ∷ []) = rw length-append (omega arith) in (
      some_bytes s l ∙ rw (← not_ended s (not_lf s e (length s - 1))) (its_number s l h e),
      some_bytes (s ++ 10 ∷ []) y ∙ rw (without_lf_lem s) (its_number s l h e),
    )
