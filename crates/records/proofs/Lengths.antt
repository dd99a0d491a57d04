-- No report is longer than 4,096 bytes: each number has at most 20 digits.
use mathlib.Core.Path.{◌≡◌, refl, ap, ◌∙◌}
use mathlib.Core.Bool.{Bool, true, false, cond}
use mathlib.Core.List.{List, [], ◌∷◌, ◌++◌}
use Prim.Native.Nat.{ℕ, zero, suc, ◌*◌, ◌≤◌}
use native.Mathlib.Omega.{arith}
use lib.Dec.{eqb}
use lib.ListN.{length, length-append}
use Rattle.octets.specs.Classes.{text}
use Rattle.sip.specs.Output.{whole_numeral, spaced}
use Rattle.emit.specs.Put.{Wrote}
use Rattle.emit.proofs.Numerals.{digits_le}
use Rattle.records.specs.Report.{pair, pairs, table, Line, line_text, end_text, printed}
use Rattle.records.specs.declared.Replay.{Replay}
use Rattle.records.specs.Running.{state_of, count_in, row_of, row_line, counts_report}
use Rattle.records.specs.Pieces.{Replayed, Prints}
use Rattle.records.specs.Promises.{ReportRoom}
use Rattle.records.proofs.Reports.{prints_replayed}
use Rattle.emit.proofs.Placing.{placed, stands}

pair_le : (r n : ℕ) → length (pair r n) ≤ 42
unfolding pair
pair_le r n = go (eqb n 0)
  where
    go : (t : Bool) → length (cond t [] (spaced r ++ 61 ∷ whole_numeral n)) ≤ 42
    go true = omega arith
    go false = omega (arith, length-append (spaced r) (61 ∷ whole_numeral n), digits_le 20 r, digits_le 20 n)

pairs_le : (r : ℕ) (ns : List ℕ) → length (pairs r ns) ≤ 42 * length ns
unfolding pairs
pairs_le r [] = omega arith
pairs_le r (n ∷ ns) = omega (arith, length-append (pair r n) (pairs (suc r) ns), pair_le r n, pairs_le (suc r) ns)

table_long : (n i : ℕ) (f : ℕ → ℕ) → length (table n i f) ≡ n
unfolding table
table_long zero i f = refl
table_long (suc n) i f = ap suc (table_long n (suc i) f)

line_le : (l : Line) → length l.refused ≡ 19 → length (line_text l) ≤ 862
unfolding line_text
line_le l e =
    let c : List ℕ = spaced l.came in
    let a : List ℕ = spaced l.accepted in
    let r : List ℕ = spaced l.rate in
    let ps : List ℕ = pairs 1 l.refused in
    omega (
      arith,
      length-append ((c ++ a) ++ r) (ps ++ 10 ∷ []),
      length-append (c ++ a) r,
      length-append c a,
      length-append ps (10 ∷ []),
      digits_le 20 l.came,
      digits_le 20 l.accepted,
      digits_le 20 l.rate,
      pairs_le 1 l.refused,
    )

row_le : (first : ℕ) (cs : List ℕ) → length (line_text (row_line (row_of first cs))) ≤ 862
unfolding row_line table
row_le first cs = line_le (row_line (row_of first cs)) (table_long 19 (suc first) (count_in cs))

end_le : (n e : ℕ) → length (end_text n e) ≤ 46
unfolding end_text text
end_le n e =
    omega
    (arith, length-append (spaced n ++ spaced e) (10 ∷ []), length-append (spaced n) (spaced e), digits_le 20 n, digits_le 20 e)

pub report_room : ReportRoom
unfolding printed counts_report text
report_room st =
    let a : List ℕ = line_text (row_line (row_of 0 st.counts)) in
    let b : List ℕ = line_text (row_line (row_of 20 st.counts)) in
    let c : List ℕ = line_text (row_line (row_of 40 st.counts)) in
    let e : List ℕ = end_text st.read st.end in
    omega (
      arith,
      length-append (text "relay" ++ a) ((text "other" ++ b) ++ ((text "unread" ++ c) ++ e)),
      length-append (text "other" ++ b) ((text "unread" ++ c) ++ e),
      length-append (text "unread" ++ c) e,
      row_le 0 st.counts,
      row_le 20 st.counts,
      row_le 40 st.counts,
      end_le st.read st.end,
    )

-- the report of the replay of some text, at the front of a buffer that has room for every report
pub prints : {st : Replay} {d : List ℕ} {n : ℕ} {d' : List ℕ} → Replayed st → 4096 ≤ length d
    → Wrote d 0 (printed (counts_report st.counts st.read st.end)) n d' → Prints n d'
prints {st} r l w = record { some_text = r.whole_text; prints = stands (placed w (omega (arith, report_room (state_of st [])))) ∙ prints_replayed r }
