-- A line of the table: a column by its places, the star by the row; the table line by line.
use mathlib.Core.Path.{◌≡◌}
use mathlib.Core.List.{[], ◌∷◌, ◌++◌}
use Prim.Native.Nat.{ℕ, suc, ◌+◌, ◌-◌, ◌/◌, ◌≤◌, ◌<◌}
use native.Mathlib.Numerals.{add-one}
use native.Mathlib.Omega.{arith}
use lib.Dec.{eqb}
use borrow.Author.Tests.{ne_eqb}
use Rattle.causes.specs.Causes.{status}
use Rattle.causes.specs.declared.StatusAnswer.{StatusAnswer}
use Rattle.causes.proofs.Promises.{own_row, none_refused}
use Rattle.emit.specs.Digits.{last}
use Rattle.emit.proofs.Numerals.{below_or_not, one, more}
use Rattle.cause_text.specs.Text.{blanks, column, columns, line_end, table_line, table_from}
use Rattle.cause_text.specs.Columns.{leading}

-- ---- a column

module _ (n : ℕ) where
  low : n < 10 → column n ≡ leading (n / 10 / 10) ∷ leading (n / 10) ∷ last n ∷ []
  unfolding column blanks
  low h =
      let z : n / 10 ≡ 0 = omega arith in
      let y : n / 10 / 10 ≡ 0 = omega arith in
      rw (one 19 n h, y, z)

  middle : 10 ≤ n → n < 100 → column n ≡ leading (n / 10 / 10) ∷ leading (n / 10) ∷ last n ∷ []
  unfolding column blanks
  middle l h =
      let y : n / 10 / 10 ≡ 0 = omega arith in
      rw (more 19 n l, one 18 (n / 10) (omega arith), y, ne_eqb (n / 10) 0 (λ z. omega (arith, z)))

  high : 100 ≤ n → n < 1000 → column n ≡ leading (n / 10 / 10) ∷ leading (n / 10) ∷ last n ∷ []
  unfolding column blanks
  high l h =
      rw (
        more 19 n (omega arith),
        more 18 (n / 10) (omega arith),
        one 17 (n / 10 / 10) (omega arith),
        ne_eqb (n / 10 / 10) 0 (λ z. omega (arith, z)),
        ne_eqb (n / 10) 0 (λ z. omega (arith, z)),
      )

  pub column_places : n < 1000 → column n ≡ leading (n / 10 / 10) ∷ leading (n / 10) ∷ last n ∷ []
  column_places h = below_or_not n 10 low (λ l. below_or_not n 100 (middle l) (λ m. high m h))

pub leading_none : (n : ℕ) → n < 1 → 32 ≡ leading n
leading_none n h = let z : n ≡ 0 = omega arith in rw z

pub leading_some : (n : ℕ) {r : ℕ} → 1 ≤ n → r ≡ last n → r ≡ leading n
leading_some n h e = rw (ne_eqb n 0 (λ z. omega (arith, z))) e

-- the answer of a cause of 0 to 127 fits the columns
module _ (c : ℕ) {a : StatusAnswer} (h : c ≤ 127) (e : a ≡ status c) where
  pub status_small : a.status < 1000
  status_small = rw e (omega (arith, (none_refused c h).some_status.1))

  pub row_small : a.row < 1000
  row_small = rw e (omega (arith, (none_refused c h).some_row.1))

-- the star stands where the row is the cause, and that is where the cause is listed
pub line_is : (c : ℕ) {a : StatusAnswer} → a ≡ status c → columns c a.status a.row ++ line_end (eqb a.row c) ≡ table_line c
unfolding table_line
line_is c e = rw (← own_row c, e)

-- ---- the table

pub table_step : (c : ℕ) → c < 128 → table_from (128 - c) c ≡ table_line c ++ table_from (128 - (c + 1)) (c + 1)
unfolding table_from
table_step c h = let a : 128 - c ≡ suc (128 - (c + 1)) = omega arith in rw (a, add-one)

pub table_done : (c : ℕ) → 128 ≤ c → table_from (128 - c) c ≡ []
unfolding table_from
table_done c h = let a : 128 - c ≡ 0 = omega arith in rw a
