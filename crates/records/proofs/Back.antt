-- A text of bytes is its whole records, as they are written, and a rest: record by record (Cuts), each is its bytes.
use mathlib.Core.Path.{◌≡◌, refl, ap, ◌∙◌}
use mathlib.Core.Bool.{true}
use mathlib.Core.List.{List, [], ◌∷◌, ◌++◌, append_assoc}
use Prim.Native.Nat.{ℕ, ◌+◌, ◌*◌, ◌/◌, ◌%◌, ◌≤◌}
use native.Mathlib.Omega.{arith}
use lib.ListN.{length, take}
use lib.Seq.{take_all}
use Rattle.octets.specs.Classes.{text, within}
use Rattle.octets.specs.Scans.{all}
use Rattle.sip.proofs.Tests.{range_high, all_first, all_others}
use Rattle.sip.proofs.Texts.{same_eq}
use Rattle.records.specs.Records.{mark, marked, record_bytes, record_size, record_at, refusal_at, whole_records}
use Rattle.records.specs.Promises.{written, no_rest, refused_rest, ReadBack, ReadWritten}
use Rattle.records.proofs.Steps.{whole_marked, Five, five, five_bytes, records_none, records_end, records_front}
use Rattle.records.proofs.Cuts.{by_records}

-- ---- the bytes of a text and of its parts

abbrev AreBytes : List ℕ → Type 0
AreBytes s = all (within 0 255) s ≡ true

both_bytes : (x y : List ℕ) → AreBytes (x ++ y) → AreBytes x × AreBytes y
unfolding all
both_bytes [] y e = (refl, e)
both_bytes (b ∷ x) y e =
    let (p, q) = both_bytes x y (all_others (within 0 255) b (x ++ y) e) in
    (rw (all_first (within 0 255) b (x ++ y) e, p), q)

-- ---- one record

record_back : {p : List ℕ} → Five p → refusal_at p ≡ 0 → length p ≡ record_size p → AreBytes p → record_bytes (record_at p) ≡ p
unfolding record_bytes marked mark text
record_back (five a b c d f m) e x h =
    let y : 83 ∷ 78 ∷ [] ≡ a ∷ b ∷ [] = same_eq (83 ∷ 78 ∷ []) (a ∷ b ∷ []) (whole_marked (a ∷ b ∷ c ∷ d ∷ f ∷ m) e) in
    let n : 256 * d + f ≡ length m = omega arith in
    let t : take (256 * d + f) m ≡ m = take_all (256 * d + f) m (omega arith) in
    let (_, k) = both_bytes (a ∷ b ∷ c ∷ d ∷ []) (f ∷ m) h in
    let l : f ≤ 255 = range_high 0 255 f (all_first (within 0 255) f m k) in
    let hi : length m / 256 ≡ d = omega arith in
    let lo : length m % 256 ≡ f = omega arith in
    rw (t, hi, lo) (ap (λ (s : List ℕ). s ++ c ∷ d ∷ f ∷ m) y)

-- ---- all records

back_none : ReadBack []
unfolding written
back_none = record { rest = []; is_written = rw records_none; ends_so = rw records_none no_rest }

back_next : (p s : List ℕ) → refusal_at p ≡ 0 → length p ≡ record_size p → AreBytes p → ReadBack s → ReadBack (p ++ s)
unfolding written
back_next p s e x h g =
    let f = records_front p s e x in
    record {
      rest = g.rest;
      is_written = rw (f, record_back (five_bytes p (omega arith)) e x h) (append_assoc p (written (whole_records 0 s).records) g.rest ∙ rw g.is_written);
      ends_so = rw f g.ends_so;
    }

back_bad : (b : ℕ) (s : List ℕ) → (refusal_at (b ∷ s) ≡ 0 → ⊥) → ReadBack (b ∷ s)
unfolding written
back_bad b s nz =
    let f = records_end (b ∷ s) (omega arith) nz in
    record { rest = b ∷ s; is_written = rw f; ends_so = rw f (refused_rest nz) }

pub read_written : ReadWritten
read_written =
    by_records (λ (s : List ℕ). AreBytes s → ReadBack s) (λ _. back_none) (λ b s nz _. back_bad b s nz)
    (λ p s e x g h. let (l, r) = both_bytes p s h in back_next p s e x l (g r))
