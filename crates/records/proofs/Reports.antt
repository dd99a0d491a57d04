-- The report of what is carried is the report of the history: a row of the counts is its group's, reason by reason (Tables).
use mathlib.Core.Path.{◌≡◌, refl, ap, ◌∙◌}
use mathlib.Core.List.{List}
use Prim.Native.Nat.{ℕ, ◌+◌, ◌*◌, ◌-◌, ◌<◌}
use native.Mathlib.Omega.{arith}
use Rattle.records.specs.Records.{recording}
use Rattle.records.specs.History.{Outcome, history}
use Rattle.records.specs.Report.{how_many, came, with_reason, refusals, table, line_of, report, printed, replayed}
use Rattle.records.specs.declared.Replay.{Replay}
use Rattle.records.specs.Running.{is_at, counts_of, count_in, finished, total, row_of, row_line, counts_report}
use Rattle.records.specs.Pieces.{Replayed}
use Rattle.records.specs.Promises.{SameReport}
use Rattle.records.proofs.Counting.{accepted_refused, Listed}
use Rattle.records.proofs.Tables.{table_same, table_at, table_move, at_reason, row_total}
use Rattle.records.proofs.Steps.{listed}

row_counts : (g : ℕ) → g < 3 → {h : List Outcome} → Listed h → {k : ℕ} → k ≡ 20 * g → row_of k (counts_of h) ≡ table 20 0 (with_reason g h)
unfolding counts_of
row_counts g few {h} l {k} z =
    let f : ℕ → ℕ = λ i. how_many (is_at i) h in
    let y : k ≡ 20 * g + 0 = omega arith in
    table_same 20 k (count_in (counts_of h)) f (λ i a b. let w : 0 + i ≡ i = omega arith in table_at 60 0 f i (omega arith) ∙ rw w)
    ∙ ap (λ (n : ℕ). table 20 n f) y ∙ table_move 20 (20 * g) 0 f
    ∙ table_same 20 0 (λ (r : ℕ). how_many (is_at (20 * g + r)) h) (with_reason g h) (λ r a b. at_reason g r (omega arith) l)

row_line_lem : (g : ℕ) {h : List Outcome} → Listed h → row_line (table 20 0 (with_reason g h)) ≡ line_of g h
unfolding row_line line_of table
row_line_lem g {h} l =
    let t : total (table 20 0 (with_reason g h)) ≡ came g h = row_total g l in
    let n : came g h - with_reason g h 0 ≡ refusals g h = omega (arith, accepted_refused g h) in
    rw (t, n)

line_counts : (g : ℕ) → g < 3 → {h : List Outcome} → Listed h → {k : ℕ} → k ≡ 20 * g → row_line (row_of k (counts_of h)) ≡ line_of g h
line_counts g few l z = ap row_line (row_counts g few l z) ∙ row_line_lem g l

pub same_report : SameReport
unfolding counts_report finished report
same_report t =
    let l : Listed (history t.records) = listed t.records in
    rw (line_counts 0 (omega arith) l {k = 0} refl, line_counts 1 (omega arith) l {k = 20} refl, line_counts 2 (omega arith) l {k = 40} refl)

-- what is printed at the end is what a replay of the text prints
pub prints_replayed : {st : Replay} → (r : Replayed st) → printed (counts_report st.counts st.read st.end) ≡ replayed r.whole_text
unfolding replayed
prints_replayed r = rw r.is_its (ap printed (same_report (recording r.whole_text)))
