-- A record at the front of a text is read by itself, and one record more is one more in the history.
use mathlib.Core.Path.{◌≡◌, refl, sym, ap, ◌∙◌}
use mathlib.Core.Bool.{Bool, true, false, cond}
use mathlib.Core.List.{List, [], ◌∷◌, ◌++◌, append-nil}
use Prim.Native.Nat.{ℕ, zero, suc, ◌+◌, ◌*◌, ◌≤◌, ◌<◌}
use native.Mathlib.Omega.{arith}
use lib.Dec.{leb, eqb}
use lib.ListN.{length, drop, length-append}
use lib.Seq.{drop-append_seam, take_at, take-append-le}
use borrow.Author.Tests.{leb-true, le-leb, lt-ltb, le-ltb, ne_eqb}
use Rattle.octets.specs.Classes.{text, within}
use Rattle.sip.specs.Readings.{has_field}
use Rattle.records.specs.Records.{Recorded, mark, marked, message_size, record_size, record_at, refusal_at, Recording, ends_with, with_record}
use Rattle.records.specs.Records.{whole_records, most_records, limited}
use Rattle.sip.specs.Calls.{none_held}
use Rattle.records.specs.History.{group_of, reason_of, calls_left, outcome_of, history_from, calls_through, history}
use Rattle.records.specs.Running.{State, after, ended, most_count, taken, goes_on, stepped}
use Rattle.records.specs.Pieces.{joined_to}
use Rattle.records.specs.Promises.{Carried}
use Rattle.records.proofs.Reasons.{reason_few}
use Rattle.records.proofs.Counting.{Listed, none_seen, one_seen}
use Rattle.records.proofs.Tables.{counts_last}

-- ---- the records of a text

-- what stands before a record does not change how it is read
records_pass : (k : ℕ) (s : List ℕ) → whole_records k s ≡ whole_records 0 (drop k s)
unfolding whole_records
records_pass zero s = refl
records_pass (suc k) [] = refl
records_pass (suc k) (b ∷ s) = records_pass k s

-- nothing
pub records_none : whole_records 0 [] ≡ ends_with 0
unfolding whole_records
records_none = refl

-- a whole record, and what stands after it
pub records_next : (s : List ℕ) → 0 < length s → refusal_at s ≡ 0
    → whole_records 0 s ≡ with_record (record_at s) (whole_records 0 (drop (record_size s) s))
unfolding whole_records
records_next [] l e = absurd (omega arith)
records_next (b ∷ s) l e =
    let z : record_size (b ∷ s) ≡ suc (4 + message_size (b ∷ s)) = omega arith in
    rw (e, records_pass (4 + message_size (b ∷ s)) s, z)

-- no whole record
pub records_end : (s : List ℕ) → 0 < length s → (refusal_at s ≡ 0 → ⊥) → whole_records 0 s ≡ ends_with (refusal_at s)
unfolding whole_records
records_end [] l e = absurd (omega arith)
records_end (b ∷ s) l e = rw (ne_eqb (refusal_at (b ∷ s)) 0 e)

pub whole_fits : (s : List ℕ) → refusal_at s ≡ 0 → record_size s ≤ length s
unfolding refusal_at
whole_fits s e = go (marked s) (leb (record_size s) (length s)) refl refl
  where
    go : (t u : Bool) → marked s ≡ t → leb (record_size s) (length s) ≡ u → record_size s ≤ length s
    go t true p q = leb-true (record_size s) (length s) q
    go true false p q = let z : ◌≡◌ {A = ℕ} 32 0 = rw (p, q) at e in absurd (omega arith)
    go false false p q = let z : ◌≡◌ {A = ℕ} 31 0 = rw p at e in absurd (omega arith)

pub whole_marked : (s : List ℕ) → refusal_at s ≡ 0 → marked s ≡ true
unfolding refusal_at
whole_marked s e = go (marked s) refl
  where
    go : (t : Bool) → marked s ≡ t → marked s ≡ true
    go true p = p
    go false p = let z : ◌≡◌ {A = ℕ} 31 0 = rw p at e in absurd (omega arith)

-- the bytes before the message, and the others
pub data Five : List ℕ → Type 0 where
  five : (a b c d f : ℕ) (m : List ℕ) → Five (a ∷ b ∷ c ∷ d ∷ f ∷ m)

pub five_bytes : (p : List ℕ) → 5 ≤ length p → Five p
five_bytes [] l = absurd (omega arith)
five_bytes (a ∷ []) l = absurd (omega arith)
five_bytes (a ∷ b ∷ []) l = absurd (omega arith)
five_bytes (a ∷ b ∷ c ∷ []) l = absurd (omega arith)
five_bytes (a ∷ b ∷ c ∷ d ∷ []) l = absurd (omega arith)
five_bytes (a ∷ b ∷ c ∷ d ∷ f ∷ m) l = five a b c d f m

-- a record and nothing more, in front of a text
record Front (p s : List ℕ) : Type 0 where
  whole : refusal_at (p ++ s) ≡ 0
  same_record : record_at (p ++ s) ≡ record_at p
  left : drop (record_size (p ++ s)) (p ++ s) ≡ s

front : {p : List ℕ} → Five p → (s : List ℕ) → refusal_at p ≡ 0 → length p ≡ record_size p → Front p s
unfolding refusal_at marked mark text
front (five a b c d f m) s e x =
    let p : List ℕ = a ∷ b ∷ c ∷ d ∷ f ∷ m in
    let k : length m ≡ 256 * d + f = omega arith in
    let n : 5 + (256 * d + f) ≡ suc (suc (suc (suc (suc (length m))))) = omega arith in
    let y : marked (p ++ s) ≡ true = whole_marked p e in
    record {
      whole = rw (y, le-leb (5 + (256 * d + f)) (length (p ++ s)) (omega (arith, length-append p s)));
      same_record = ap (λ (t : List ℕ). record { side = c; message = t }) (take-append-le (256 * d + f) m s (omega arith));
      left = rw n (drop-append_seam m s);
    }

pub records_front : (p s : List ℕ) → refusal_at p ≡ 0 → length p ≡ record_size p → whole_records 0 (p ++ s) ≡ with_record (record_at p) (whole_records 0 s)
records_front p s e x =
    let h = front (five_bytes p (omega arith)) s e x in
    records_next (p ++ s) (omega (arith, length-append p s)) h.whole ∙ rw (h.same_record, h.left)

-- ---- the history, record by record

history_last : (table : List ℕ) (rs : List Recorded) (r : Recorded)
    → history_from table (rs ++ r ∷ []) ≡ history_from table rs ++ outcome_of r.message r.side (calls_through table rs) ∷ []
unfolding history_from calls_through
history_last table [] r = refl
history_last table (x ∷ rs) r = rw (history_last (calls_left x.message x.side table) rs r)

calls_last : (table : List ℕ) (rs : List Recorded) (r : Recorded)
    → calls_through table (rs ++ r ∷ []) ≡ calls_left r.message r.side (calls_through table rs)
unfolding calls_through
calls_last table [] r = refl
calls_last table (x ∷ rs) r = calls_last (calls_left x.message x.side table) rs r

length_from : (table : List ℕ) (rs : List Recorded) → length (history_from table rs) ≡ length rs
unfolding history_from
length_from table [] = refl
length_from table (r ∷ rs) = ap suc (length_from (calls_left r.message r.side table) rs)

pub history_length : (rs : List Recorded) → length (history rs) ≡ length rs
unfolding history
history_length rs = length_from none_held rs

group_few : (m : List ℕ) (n : ℕ) → group_of m n < 3
unfolding group_of
group_few m n = go (within 1 5 n) (has_field m (text "X-Relay-Mode"))
  where
    go : (t u : Bool) → cond t 2 (cond u 0 1) < 3
    go true u = omega arith
    go false true = omega arith
    go false false = omega arith

seen_few : (m : List ℕ) (side : ℕ) (table : List ℕ) → ((outcome_of m side table).group < 3) × ((outcome_of m side table).reason < 20)
unfolding outcome_of
seen_few m side table = (group_few m (reason_of m side table), reason_few m side table)

listed_from : (table : List ℕ) (rs : List Recorded) → Listed (history_from table rs)
unfolding history_from
listed_from table [] = none_seen
listed_from table (r ∷ rs) =
    let (a, b) = seen_few r.message r.side table in
    one_seen a b (listed_from (calls_left r.message r.side table) rs)

pub listed : (rs : List Recorded) → Listed (history rs)
unfolding history
listed rs = listed_from none_held rs

-- ---- one record more

pub carried : Carried
unfolding taken history
carried rs r l =
    let t : List ℕ = calls_through none_held rs in
    let (a, b) = seen_few r.message r.side t in
    let few : length (history rs) < most_count = omega (arith, history_length rs) in
    let n : length (rs ++ r ∷ []) ≡ length rs + 1 = length-append rs (r ∷ []) in
    rw (
      lt-ltb (length rs) most_records l,
      history_last none_held rs r,
      calls_last none_held rs r,
      n,
      ← counts_last (history_from none_held rs) (outcome_of r.message r.side t) (few, a, b),
    )

pub taken_full : (rs : List Recorded) (side : ℕ) (m : List ℕ) → most_records ≤ length rs → taken (after rs) side m ≡ ended (after rs) 33
unfolding taken
taken_full rs side m l = rw (le-ltb (length rs) most_records l)

-- ---- the limit

pub limit_kept : (n : ℕ) (t : Recording) → length t.records ≤ n → limited n t ≡ t
unfolding limited
limit_kept n t l = rw (le-ltb n (length t.records) l)

-- no record more
pub limit_none : (n : ℕ) (rs : List Recorded) → length rs ≤ n → (e : ℕ) → limited n (joined_to rs (ends_with e)) ≡ record { records = rs; end = e }
limit_none n rs l e = rw (append-nil rs) (limit_kept n (record { records = rs; end = e }) l)

-- more records than the limit
pub limit_over : (n : ℕ) (rs : List Recorded) (t : Recording) → n ≡ length rs → 0 < length t.records
    → limited n (joined_to rs t) ≡ record { records = rs; end = 33 }
unfolding limited
limit_over n rs t q l =
    rw (lt-ltb n (length (rs ++ t.records)) (omega (arith, length-append rs t.records)), take_at rs t.records n (sym q))

-- ---- one step, of a text that has not ended and goes on

goes_by : (st : State) (p : List ℕ) → 0 < length p
    → goes_on st p ≡ cond (eqb (refusal_at p) 0) (taken st (record_at p).side (record_at p).message) (ended st (refusal_at p))
goes_by st [] l = absurd (omega arith)
goes_by st (b ∷ s) l = refl

module _ (st : State) (p : List ℕ) (going : st.end ≡ 0) (some : 0 < length p) where
  stepped_by : stepped st p ≡ cond (eqb (refusal_at p) 0) (taken st (record_at p).side (record_at p).message) (ended st (refusal_at p))
  unfolding stepped
  stepped_by = ap (λ (n : ℕ). cond (eqb n 0) (goes_on st p) st) going ∙ goes_by st p some

  pub step_whole : refusal_at p ≡ 0 → stepped st p ≡ taken st (record_at p).side (record_at p).message
  step_whole e = stepped_by ∙ rw e

  pub step_bad : (refusal_at p ≡ 0 → ⊥) → stepped st p ≡ ended st (refusal_at p)
  step_bad nz = stepped_by ∙ rw (ne_eqb (refusal_at p) 0 nz)
