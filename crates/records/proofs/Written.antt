-- Records that are written one after the other are read as they were; pieces and records that are taken one by one give the whole.
use mathlib.Core.Path.{◌≡◌, refl, sym, ap, ◌∙◌}
use mathlib.Core.Bool.{Bool, true, false}
use mathlib.Core.List.{List, [], ◌∷◌, ◌++◌, append_assoc, append-nil}
use Prim.Native.Nat.{ℕ, suc, ◌+◌, ◌*◌, ◌/◌, ◌%◌, ◌≤◌, ◌<◌}
use native.Mathlib.Omega.{arith}
use lib.Dec.{ltb, eqb}
use lib.ListN.{length, length-append}
use lib.Seq.{append_snoc, take_all}
use borrow.Author.Tests.{le-leb, ltb-true, ltb-false, eqb-true, eqb-false, ne_eqb}
use Rattle.octets.specs.Classes.{text}
use Rattle.octets.specs.Scans.{same}
use Rattle.records.specs.Records.{Recorded, mark, record_bytes, marked, record_size, record_at, refusal_at, Recording, ends_with, with_record}
use Rattle.records.specs.Records.{whole_records, most_records, limited, recording}
use Rattle.records.specs.Running.{State, after, ended, finished, taken, stepped}
use Rattle.records.specs.Pieces.{IsPiece, Pieces, last_piece, next_piece, stepped_all, joined_pieces, joined_to}
use Rattle.records.specs.Promises.{taken_all, OneByOne, PieceByPiece, written, WrittenRead, AsText}
use Rattle.records.proofs.Steps.{records_none, records_end, records_front, carried, taken_full, limit_none, limit_over, step_whole, step_bad}

-- ---- written and read

record IsRecord (r : Recorded) : Type 0 where
  whole : refusal_at (record_bytes r) ≡ 0
  sized : length (record_bytes r) ≡ record_size (record_bytes r)
  same_record : record_at (record_bytes r) ≡ r

is_record : (r : Recorded) → IsRecord r
unfolding record_bytes refusal_at marked mark text same
is_record r =
    let m : List ℕ = r.message in
    let n : ℕ = length m in
    let z : 256 * (n / 256) + n % 256 ≡ n = omega arith in
    record {
      whole = rw z (rw (le-leb (5 + n) (suc (suc (suc (suc (suc n))))) (omega arith)));
      sized = omega arith;
      same_record = rw z (ap (λ (t : List ℕ). record { side = r.side; message = t }) (take_all n m (omega arith)));
    }

pub written_read : WrittenRead
unfolding written
written_read [] s = refl
written_read (r ∷ rs) s =
    let h = is_record r in
    rw append_assoc (records_front (record_bytes r) (written rs ++ s) h.whole h.sized ∙ rw (h.same_record, written_read rs s))

-- ---- one by one

-- nothing is taken after the end
taken_ended : (st : State) (e : ℕ) (side : ℕ) (m : List ℕ) → (e ≡ 0 → ⊥) → taken (ended st e) side m ≡ ended st e
unfolding taken
taken_ended st e side m nz = rw (ne_eqb e 0 nz)

all_ended : (st : State) (e : ℕ) → (e ≡ 0 → ⊥) → (rs : List Recorded) → taken_all (ended st e) rs ≡ ended st e
unfolding taken_all
all_ended st e nz [] = refl
all_ended st e nz (r ∷ rs) = rw (taken_ended st e r.side r.message nz) (all_ended st e nz rs)

abbrev only : List Recorded → Recording
only rs = record { records = rs; end = 0 }

taken_from : (done rs : List Recorded) → length done ≤ most_records → taken_all (after done) rs ≡ finished (limited most_records (only (done ++ rs)))
unfolding taken_all finished
taken_from done [] l = rw (limit_none most_records done l 0)
taken_from done (r ∷ rs) l = go (ltb (length done) most_records) refl (λ a b. taken_from (done ++ r ∷ []) rs b)
  where
    go : (t : Bool) → ltb (length done) most_records ≡ t
        → (length done < most_records → length (done ++ r ∷ []) ≤ most_records
        → taken_all (after (done ++ r ∷ [])) rs ≡ finished (limited most_records (only ((done ++ r ∷ []) ++ rs))))
        → taken_all (after done) (r ∷ rs) ≡ finished (limited most_records (only (done ++ r ∷ rs)))
    go true q later =
        let k : length done < most_records = ltb-true (length done) most_records q in
        let n : length (done ++ r ∷ []) ≤ most_records = omega (arith, length-append done (r ∷ [])) in
        ap (λ (s : State). taken_all s rs) (carried done r k) ∙ later k n
        ∙ ap (λ (xs : List Recorded). finished (limited most_records (only xs))) (append_snoc done r rs)
    go false q later =
        let k : most_records ≤ length done = ltb-false (length done) most_records q in
        let n : most_records ≡ length done = omega arith in
        ap (λ (s : State). taken_all s rs) (taken_full done r.side r.message k)
        ∙ all_ended (after done) 33 (λ z. omega (arith, z)) rs
        ∙ rw (limit_over most_records done (with_record r (only rs)) n (omega arith))

pub one_by_one : OneByOne
one_by_one rs = taken_from [] rs (omega arith)

pub as_text : AsText
unfolding recording
as_text rs =
    let e : whole_records 0 (written rs) ≡ only rs = ap (whole_records 0) (sym (append-nil (written rs))) ∙ written_read rs [] ∙ rw (records_none, append-nil rs) in
    one_by_one rs ∙ rw e

-- ---- piece by piece

step_ended : (st : State) (e : ℕ) (p : List ℕ) → (e ≡ 0 → ⊥) → stepped (ended st e) p ≡ ended st e
unfolding stepped
step_ended st e p nz = rw (ne_eqb e 0 nz)

steps_ended : (st : State) (e : ℕ) → (e ≡ 0 → ⊥) → (ps : List (List ℕ)) → stepped_all (ended st e) ps ≡ ended st e
unfolding stepped_all
steps_ended st e nz [] = refl
steps_ended st e nz (p ∷ ps) = rw (step_ended st e p nz) (steps_ended st e nz ps)

-- what one piece gives
module _ (done : List Recorded) (l : length done ≤ most_records) where
  abbrev gives : List ℕ → State
  gives s = finished (limited most_records (joined_to done (whole_records 0 s)))

  ended_gives : (p : List ℕ) (e : ℕ) → whole_records 0 p ≡ ends_with e → ended (after done) e ≡ gives p
  unfolding finished
  ended_gives p e q = rw (q, limit_none most_records done l e)

  -- a record too many, whatever follows it
  too_many : (p s : List ℕ) → refusal_at p ≡ 0 → length p ≡ record_size p → most_records ≤ length done → ended (after done) 33 ≡ gives (p ++ s)
  unfolding finished
  too_many p s e x k =
      let n : most_records ≡ length done = omega arith in
      rw (records_front p s e x, limit_over most_records done (with_record (record_at p) (whole_records 0 s)) n (omega arith))

-- a whole record, and then the pieces ps
piece_then : (done : List Recorded) (l : length done ≤ most_records) (p : List ℕ) (ps : List (List ℕ)) → refusal_at p ≡ 0 → length p ≡ record_size p
    → ((more : List Recorded) (k : length more ≤ most_records) → stepped_all (after more) ps ≡ gives more k (joined_pieces ps))
    → stepped_all (after done) (p ∷ ps) ≡ gives done l (joined_pieces (p ∷ ps))
unfolding stepped_all joined_pieces
piece_then done l p ps e x later = go (ltb (length done) most_records) refl
  where
    r : Recorded
    r = record_at p

    first : stepped (after done) p ≡ taken (after done) r.side r.message
    first = step_whole (after done) p refl (omega (arith, x)) e

    go : (t : Bool) → ltb (length done) most_records ≡ t → stepped_all (stepped (after done) p) ps ≡ gives done l (p ++ joined_pieces ps)
    go true q =
        let k : length done < most_records = ltb-true (length done) most_records q in
        let n : length (done ++ r ∷ []) ≤ most_records = omega (arith, length-append done (r ∷ [])) in
        ap (λ (s : State). stepped_all s ps) (first ∙ carried done r k) ∙ later (done ++ r ∷ []) n
        ∙ rw (records_front p (joined_pieces ps) e x, append_snoc done r (whole_records 0 (joined_pieces ps)).records)
    go false q =
        let k : most_records ≤ length done = ltb-false (length done) most_records q in
        ap (λ (s : State). stepped_all s ps) (first ∙ taken_full done r.side r.message k)
        ∙ steps_ended (after done) 33 (λ z. omega (arith, z)) ps ∙ too_many done l p (joined_pieces ps) e x k

none_after : (done : List Recorded) (l : length done ≤ most_records) → stepped_all (after done) [] ≡ gives done l (joined_pieces [])
unfolding stepped_all joined_pieces
none_after done l = ended_gives done l [] 0 records_none

-- the last piece: nothing, a whole record, or none
bad_last : (done : List Recorded) (l : length done ≤ most_records) (p : List ℕ) → 0 < length p → (refusal_at p ≡ 0 → ⊥)
    → stepped_all (after done) (p ∷ []) ≡ gives done l (joined_pieces (p ∷ []))
unfolding stepped_all joined_pieces
bad_last done l p some nz = step_bad (after done) p refl some nz ∙ rw (append-nil p) (ended_gives done l p (refusal_at p) (records_end p some nz))

last_from : (done : List Recorded) (l : length done ≤ most_records) (p : List ℕ) → IsPiece p → stepped_all (after done) (p ∷ []) ≡ gives done l (joined_pieces (p ∷ []))
unfolding stepped_all joined_pieces stepped
last_from done l [] x = ended_gives done l [] 0 records_none
last_from done l (b ∷ s) x = go (eqb (refusal_at (b ∷ s)) 0) refl
  where
    go : (t : Bool) → eqb (refusal_at (b ∷ s)) 0 ≡ t → stepped_all (after done) ((b ∷ s) ∷ []) ≡ gives done l (joined_pieces ((b ∷ s) ∷ []))
    go true q = let e : refusal_at (b ∷ s) ≡ 0 = eqb-true (refusal_at (b ∷ s)) 0 q in piece_then done l (b ∷ s) [] e (x e) none_after
    go false q = bad_last done l (b ∷ s) (omega arith) (eqb-false (refusal_at (b ∷ s)) 0 q)

pieces_from : (ps : List (List ℕ)) → Pieces ps → (done : List Recorded) (l : length done ≤ most_records) → stepped_all (after done) ps ≡ gives done l (joined_pieces ps)
pieces_from [] x' done l = elim x' [ ]
pieces_from (p ∷ ps) (next_piece e x h) done l = piece_then done l p ps e (x e) (λ more k. pieces_from ps h more k)
pieces_from (p ∷ []) (last_piece x) done l = last_from done l p x

pub piece_by_piece : PieceByPiece
unfolding recording
piece_by_piece ps h = pieces_from ps h [] (omega arith)
