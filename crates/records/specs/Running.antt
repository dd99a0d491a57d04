-- What is carried from record to record, what one record makes of it, and its report.
use Rattle.std.specs.Prelude.{Bool, cond, List, [], ◌∷◌, ◌++◌, ℕ, ◌+◌, ◌-◌, ◌*◌, ltb, eqb, length, drop, get_or, set}
use Rattle.sip.specs.Output.{spaced}
use Rattle.records.specs.Records.{Recorded, Recording, record_at, refusal_at, most_records}
use Rattle.sip.specs.Calls.{none_held}
use Rattle.records.specs.History.{Outcome, outcome_of, calls_left, calls_through, history}
use Rattle.records.specs.Report.{how_many, table, rate, Line, Report}
use Rattle.records.specs.declared.Replay.{Replay}

-- the counts, how many records were read, how the text ended, 0 while it goes on, and the table of calls
pub record State : Type 0 where
  pub counts : List ℕ
  pub read : ℕ
  pub end : ℕ
  pub calls : List ℕ

-- the code has the numbers by value, and is lent the table
abbrev pub state_of : Replay → List ℕ → State
state_of st calls = record { counts = st.counts; read = st.read; end = st.end; calls = calls }

abbrev pub numbers_in : State → Replay
numbers_in st = record { counts = st.counts; read = st.read; end = st.end }

-- the place of a count: 20 for each group, by the reason
abbrev pub place_of : Outcome → ℕ
place_of x = 20 * x.group + x.reason

abbrev pub is_at : ℕ → Outcome → Bool
is_at i x = eqb (place_of x) i

-- the counts of a history
unfoldable pub counts_of : List Outcome → List ℕ
counts_of h = table 60 0 (λ (i : ℕ). how_many (is_at i) h)

-- what is carried after these records
abbrev pub after : List Recorded → State
after rs = record { counts = counts_of (history rs); read = length rs; end = 0; calls = calls_through none_held rs }

-- the same, of a text that ends so
abbrev pub ended : State → ℕ → State
ended st e = record { counts = st.counts; read = st.read; end = e; calls = st.calls }

unfoldable pub finished : Recording → State
finished t = ended (after t.records) t.end

-- ---- one record

-- a count that is full stays; a replay has a million records at most, so that none gets there
abbrev pub most_count : ℕ
most_count = 4294967295

unfoldable pub one_more : ℕ → ℕ
one_more n = cond (ltb n most_count) (n + 1) n

abbrev pub counted_at : State → ℕ → List ℕ → State
counted_at st i calls =
    record { counts = set st.counts i (one_more (get_or st.counts i 0)); read = st.read + 1; end = st.end; calls = calls }

-- a whole record comes: "a record after 1,000,000 33"; after the end nothing is counted any more, and nothing remembered or forgotten
unfoldable pub taken : State → ℕ → List ℕ → State
taken st side m =
    let counted =
    cond (ltb st.read most_records) (counted_at st (place_of (outcome_of m side st.calls)) (calls_left m side st.calls)) (ended st 33) in
    cond (eqb st.end 0) counted st

-- these bytes come: a whole record at their front, or all that is there of one
abbrev pub goes_on : State → List ℕ → State
goes_on st [] = st
goes_on st (b ∷ s) =
    let e = refusal_at (b ∷ s) in
    let r = record_at (b ∷ s) in
    cond (eqb e 0) (taken st r.side r.message) (ended st e)

unfoldable pub stepped : State → List ℕ → State
stepped st s = cond (eqb st.end 0) (goes_on st s) st

-- ---- the report of what is carried

unfoldable pub total : List ℕ → ℕ
total [] = 0
total (n ∷ ns) = n + total ns

-- the count at a place
abbrev pub count_in : List ℕ → ℕ → ℕ
count_in cs i = get_or cs i 0

-- the 20 counts of a group, from its first on
abbrev pub row_of : ℕ → List ℕ → List ℕ
row_of first cs = table 20 first (count_in cs)

-- the line of such counts: all of them came, the first were accepted
unfoldable pub row_line : List ℕ → Line
row_line row =
    let all = total row in
    let passed = get_or row 0 0 in
    record { came = all; accepted = passed; rate = rate (all - passed) all; refused = drop 1 row }

-- how its text begins: how many came, how many were accepted, the refusals per 10,000
abbrev pub shares_text : ℕ → ℕ → List ℕ
shares_text came accepted = (spaced came ++ spaced accepted) ++ spaced (rate (came - accepted) came)

unfoldable pub counts_report : List ℕ → ℕ → ℕ → Report
counts_report cs n e =
    record { relay = row_line (row_of 0 cs); other = row_line (row_of 20 cs); unread = row_line (row_of 40 cs); records = n; refusal = e }

abbrev pub report_of : State → Report
report_of st = counts_report st.counts st.read st.end
