-- How a text ends after a million records: a whole record more is one too many, and anything else is told as it is (Steps).
use mathlib.Core.Path.{◌≡◌, refl, sym}
use mathlib.Core.Bool.{Bool, true, false}
use mathlib.Core.List.{List, [], ◌∷◌}
use Prim.Native.Nat.{ℕ}
use native.Mathlib.Omega.{arith}
use lib.Dec.{eqb}
use lib.ListN.{length, drop}
use borrow.Author.Tests.{eqb-true, eqb-false}
use Rattle.records.specs.Records.{Recorded, record_size, record_at, refusal_at, Recording, ends_with, with_record, whole_records, most_records}
use Rattle.records.specs.Records.{limited, recording}
use Rattle.records.specs.Pieces.{joined_to}
use Rattle.records.specs.Promises.{end_after, AfterAMillion}
use Rattle.records.proofs.Steps.{records_none, records_next, records_end, limit_none, limit_over}
use Rattle.records.proofs.Written.{written_read}

-- no whole record more
kept_with : (rs : List Recorded) → length rs ≡ most_records → (s : List ℕ) (e : ℕ) → whole_records 0 s ≡ ends_with e
    → limited most_records (joined_to rs (whole_records 0 s)) ≡ record { records = rs; end = e }
kept_with rs l s e q = rw q (limit_none most_records rs (omega arith) e)

million_and : (rs : List Recorded) → length rs ≡ most_records → (s : List ℕ)
    → limited most_records (joined_to rs (whole_records 0 s)) ≡ record { records = rs; end = end_after s }
unfolding end_after
million_and rs l [] = kept_with rs l [] 0 records_none
million_and rs l (b ∷ s) = go (eqb (refusal_at (b ∷ s)) 0) refl
  where
    go : (t : Bool) → eqb (refusal_at (b ∷ s)) 0 ≡ t → limited most_records (joined_to rs (whole_records 0 (b ∷ s))) ≡ record { records = rs; end = end_after (b ∷ s) }
    go true q =
        let e : refusal_at (b ∷ s) ≡ 0 = eqb-true (refusal_at (b ∷ s)) 0 q in
        let t : Recording = whole_records 0 (drop (record_size (b ∷ s)) (b ∷ s)) in
        rw (q, records_next (b ∷ s) (omega arith) e) (limit_over most_records rs (with_record (record_at (b ∷ s)) t) (sym l) (omega arith))
    go false q = rw q (kept_with rs l (b ∷ s) (refusal_at (b ∷ s)) (records_end (b ∷ s) (omega arith) (eqb-false (refusal_at (b ∷ s)) 0 q)))

pub after_a_million : AfterAMillion
unfolding recording
after_a_million rs s l = rw (written_read rs s) (million_and rs l s)
