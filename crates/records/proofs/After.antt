-- What follows a bad mark or a record too many changes nothing: record by record (Cuts), the records of a text are the first of a longer one.
use mathlib.Core.Path.{◌≡◌, refl, ap, ◌∙◌}
use mathlib.Core.Bool.{Bool, true, false, cond, ◌||◌}
use mathlib.Core.List.{List, [], ◌∷◌, ◌++◌, append_assoc, append-nil}
use Prim.Native.Nat.{ℕ, ◌≤◌, ◌<◌}
use native.Mathlib.Omega.{arith}
use lib.Dec.{leb, ltb, eqb}
use lib.ListN.{length, take, length-append}
use lib.Seq.{take-append-le}
use borrow.Author.Tests.{ltb-true, ltb-false, lt-ltb, eqb-true}
use Rattle.octets.specs.Classes.{text, among}
use Rattle.octets.specs.Scans.{same}
use Rattle.sip.proofs.Tests.{never}
use Rattle.records.specs.Records.{mark, marked, record_size, refusal_at, Recording, ends_with, whole_records, most_records, limited}
use Rattle.records.specs.Records.{recording}
use Rattle.records.specs.Pieces.{joined_to}
use Rattle.records.specs.Promises.{NothingAfter}
use Rattle.records.proofs.Steps.{records_none, records_end, records_front, limit_kept}
use Rattle.records.proofs.Cuts.{by_records}

-- ---- a bad mark stays one

bad_mark : (p t : List ℕ) → marked p ≡ false → marked (p ++ t) ≡ false
unfolding marked mark text same
bad_mark [] t e = never (cc)
bad_mark (a ∷ []) [] e = e
bad_mark (a ∷ []) (b ∷ t) e = go (eqb 83 a) e
  where
    go : (u : Bool) → cond u true false ≡ false → cond u (same (78 ∷ take (length t) []) (b ∷ [])) false ≡ false
    go true q = never (cc)
    go false q = refl
bad_mark (a ∷ b ∷ []) [] e = e
bad_mark (a ∷ b ∷ []) (c ∷ t) e = e
bad_mark (a ∷ b ∷ c ∷ p) t e = e

-- what a refusal is
record IsRefusal (p : List ℕ) : Type 0 where
  few : refusal_at p ≤ 32
  unmarked : refusal_at p ≡ 31 → marked p ≡ false

is_refusal : (p : List ℕ) → IsRefusal p
unfolding refusal_at
is_refusal p = go (marked p) (leb (record_size p) (length p)) refl refl
  where
    go : (t u : Bool) → marked p ≡ t → leb (record_size p) (length p) ≡ u → IsRefusal p
    go false u x y = record { few = rw x (omega arith); unmarked = λ _. x }
    go true true x y = record { few = rw (x, y) (omega arith); unmarked = λ z. absurd (omega (arith, rw (x, y) at z)) }
    go true false x y = record { few = rw (x, y) (omega arith); unmarked = λ z. absurd (omega (arith, rw (x, y) at z)) }

bad_longer : (p t : List ℕ) → refusal_at p ≡ 31 → refusal_at (p ++ t) ≡ 31
unfolding refusal_at
bad_longer p t e = rw (bad_mark p t ((is_refusal p).unmarked e))

-- ---- a text and a longer one

record Grown (s t : List ℕ) : Type 0 where
  more : Recording
  goes_on : whole_records 0 (s ++ t) ≡ joined_to (whole_records 0 s).records more
  few : (whole_records 0 s).end ≤ 32
  stays : (whole_records 0 s).end ≡ 31 → more ≡ ends_with 31

grown_none : (t : List ℕ) → Grown [] t
grown_none t =
    record {
      more = whole_records 0 t;
      goes_on = rw records_none;
      few = rw records_none (omega arith);
      stays = λ z. absurd (omega (arith, rw records_none at z));
    }

grown_next : (p s t : List ℕ) → refusal_at p ≡ 0 → length p ≡ record_size p → Grown s t → Grown (p ++ s) t
grown_next p s t e x g =
    let f = records_front p s e x in
    record {
      more = g.more;
      goes_on = ap (whole_records 0) (append_assoc p s t) ∙ records_front p (s ++ t) e x ∙ rw (f, g.goes_on);
      few = rw f g.few;
      stays = λ z. g.stays (rw f at z);
    }

grown_bad : (p t : List ℕ) → 0 < length p → (refusal_at p ≡ 0 → ⊥) → Grown p t
grown_bad p t l nz =
    let f = records_end p l nz in
    record {
      more = whole_records 0 (p ++ t);
      goes_on = rw f;
      few = rw f (is_refusal p).few;
      stays =
          λ z.
          let b : refusal_at (p ++ t) ≡ 31 = bad_longer p t (rw f at z) in
          records_end (p ++ t) (omega (arith, length-append p t)) (λ y. omega (arith, b, y)) ∙ rw b;
    }

grown : (s t : List ℕ) → Grown s t
grown s t =
    by_records (λ (r : List ℕ). Grown r t) (grown_none t) (λ b p nz. grown_bad (b ∷ p) t (omega arith) nz) (λ p r e x g. grown_next p r t e x g) s

-- ---- the recording

-- the records up to the limit are among those of the shorter text
over : (n : ℕ) (w more : Recording) → n < length w.records → limited n (joined_to w.records more) ≡ limited n w
unfolding limited
over n w more l =
    rw (
      lt-ltb n (length (w.records ++ more.records)) (omega (arith, length-append w.records more.records)),
      lt-ltb n (length w.records) l,
      take-append-le n w.records more.records (omega arith),
    )

one_of : (e : ℕ) → e ≤ 32 → among (31 ∷ 33 ∷ []) e ≡ true → e ≡ 31
one_of e l h = go (eqb e 31) (eqb e 33) refl refl h
  where
    go : (t u : Bool) → eqb e 31 ≡ t → eqb e 33 ≡ u → (t || (u || false)) ≡ true → e ≡ 31
    go true u p q h = eqb-true e 31 p
    go false true p q h = absurd (omega (arith, eqb-true e 33 q))
    go false false p q h = never (cc)

pub nothing_after : NothingAfter
unfolding recording
nothing_after s t h = go (ltb most_records (length w.records)) refl
  where
    w : Recording
    w = whole_records 0 s

    g : Grown s t
    g = grown s t

    go : (b : Bool) → ltb most_records (length w.records) ≡ b → recording (s ++ t) ≡ recording s
    go true q = ap (limited most_records) g.goes_on ∙ over most_records w g.more (ltb-true most_records (length w.records) q)
    go false q =
        let k : limited most_records w ≡ w = limit_kept most_records w (ltb-false most_records (length w.records) q) in
        let e : w.end ≡ 31 = one_of w.end g.few (rw k at h) in
        ap (limited most_records) (g.goes_on ∙ rw (g.stays e, append-nil w.records, ← e))
