-- A text that is there as a whole, record by record: the records that are taken, and what the text that is left gives.
use mathlib.Core.Path.{◌≡◌, refl, sym, ap, ◌∙◌}
use mathlib.Core.Bool.{Bool, true, false}
use mathlib.Core.List.{List, [], ◌∷◌, ◌++◌}
use Prim.Native.Nat.{ℕ, ◌≤◌, ◌<◌}
use native.Mathlib.Omega.{arith}
use lib.Dec.{ltb, eqb}
use lib.ListN.{length, drop, length-append, length-drop}
use lib.Seq.{append_snoc}
use borrow.Author.Tests.{ltb-true, ltb-false, eqb-true, eqb-false}
use Rattle.records.specs.Records.{Recorded, record_size, record_at, refusal_at, ends_with, with_record, whole_records, most_records, recording}
use Rattle.sip.specs.Calls.{none_held}
use Rattle.records.specs.declared.Replay.{Replay}
use Rattle.records.specs.Running.{State, state_of, numbers_in, after, ended, finished, taken, stepped}
use Rattle.records.specs.Pieces.{joined_to}
use Rattle.records.proofs.Steps.{records_none, records_next, records_end, carried, taken_full, limit_none, limit_over, step_whole, step_bad}

-- records are taken, and this much of the text is left
pub record Before (text : List ℕ) (st : State) (rest : List ℕ) : Type 0 where
  pub done : List Recorded
  pub few : length done ≤ most_records
  pub state : st ≡ after done
  pub goes_on : whole_records 0 text ≡ joined_to done (whole_records 0 rest)

pub before_all : (text : List ℕ) {st : Replay} → state_of st none_held ≡ after [] → Before text (state_of st none_held) text
before_all text e = record { done = []; few = omega arith; state = e; goes_on = refl }

module _ (text : List ℕ) (st : State) (p : List ℕ) (h : Before text st p) where
  -- what is left has no whole record at its front
  ended_so : (e : ℕ) → whole_records 0 p ≡ ends_with e → ended st e ≡ finished (recording text)
  unfolding recording finished
  ended_so e q =
      rw (h.goes_on, q, limit_none most_records h.done h.few e, h.state)

  module _ (some : 0 < length p) {r : State} (hr : r ≡ stepped st p) where
    -- what a step over all that is left does
    record Over : Type 0 where
      ends : (r.end ≡ 0 → ⊥) → r ≡ finished (recording text)
      goes : r.end ≡ 0 → Before text r (drop (record_size p) p)

    module _ (e : refusal_at p ≡ 0) (q : r ≡ taken st (record_at p).side (record_at p).message) where
      abbrev x : Recorded
      x = record_at p

      abbrev later : List ℕ
      later = drop (record_size p) p

      reads : whole_records 0 text ≡ joined_to h.done (with_record x (whole_records 0 later))
      reads = h.goes_on ∙ rw (records_next p some e)

      counted : length h.done < most_records → Over
      counted l =
          let a : r ≡ after (h.done ++ x ∷ []) = q ∙ rw h.state (carried h.done x l) in
          record {
            ends = λ z. absurd (z (rw a));
            goes =
                λ _.
                record {
                  done = h.done ++ x ∷ [];
                  few = omega (arith, length-append h.done (x ∷ []));
                  state = a;
                  goes_on = reads ∙ rw (append_snoc h.done x (whole_records 0 later).records);
                };
          }

      too_many : most_records ≤ length h.done → Over
      unfolding recording finished
      too_many l =
          let a : r ≡ ended st 33 = q ∙ rw h.state (taken_full h.done x.side x.message l) in
          let n : most_records ≡ length h.done = omega (arith, h.few) in
          record {
            ends = λ _. a ∙ rw (reads, limit_over most_records h.done (with_record x (whole_records 0 later)) n (omega arith), h.state);
            goes = λ z. absurd (omega (arith, ap (λ (k : State). k.end) a, z));
          }

    over : Over
    over = go (eqb (refusal_at p) 0) refl
      where
        going : st.end ≡ 0
        going = rw h.state

        more : refusal_at p ≡ 0 → (t : Bool) → ltb (length h.done) most_records ≡ t → Over
        more e true k = counted e (hr ∙ step_whole st p going some e) (ltb-true (length h.done) most_records k)
        more e false k = too_many e (hr ∙ step_whole st p going some e) (ltb-false (length h.done) most_records k)

        go : (t : Bool) → eqb (refusal_at p) 0 ≡ t → Over
        go true j = more (eqb-true (refusal_at p) 0 j) (ltb (length h.done) most_records) refl
        go false j =
            let nz : refusal_at p ≡ 0 → ⊥ = eqb-false (refusal_at p) 0 j in
            let a : r ≡ ended st (refusal_at p) = hr ∙ step_bad st p going some nz in
            let b : r.end ≡ refusal_at p = ap (λ (k : State). k.end) a in
            record {
              ends = λ _. a ∙ ended_so (refusal_at p) (records_end p some nz);
              goes = λ z. absurd (nz (sym b ∙ z));
            }

-- the same of the numbers and the table that the code has
module _ (text : List ℕ) (st : Replay) (calls p : List ℕ) (h : Before text (state_of st calls) p) where
  module _ {t : Bool} (e : t ≡ eqb (length p) 0) where
    pub none_left : t ≡ true → st ≡ numbers_in (finished (recording text))
    none_left y = go p refl
      where
        go : (s : List ℕ) → p ≡ s → st ≡ numbers_in (finished (recording text))
        go [] q =
            let z : state_of st calls ≡ ended (state_of st calls) 0 = ap (λ (k : ℕ). ended (state_of st calls) k) (ap (λ (k : State). k.end) h.state) in
            ap numbers_in (z ∙ ended_so text (state_of st calls) p h 0 (rw q records_none))
        go (b ∷ s) q = absurd (omega (arith, eqb-true (length p) 0 (sym e ∙ y), ap length q))

    module _ (n : t ≡ false) where
      some_left : 0 < length p
      some_left = omega (arith, eqb-false (length p) 0 (sym e ∙ n))

      module _ {r : Replay} {left : List ℕ} (hr : state_of r left ≡ stepped (state_of st calls) p) where
        pub whole_over : (r.end ≡ 0 → ⊥) → r ≡ numbers_in (finished (recording text))
        whole_over z = ap numbers_in ((over text (state_of st calls) p h some_left hr).ends z)

        pub next_before : r.end ≡ 0 → {size : ℕ} → size ≡ record_size p → {q : List ℕ} → q ≡ drop size p → Before text (state_of r left) q
        next_before z hs hq = rw (hq, hs) ((over text (state_of st calls) p h some_left hr).goes z)

      pub next_less : {size : ℕ} → size ≡ record_size p → {q : List ℕ} → q ≡ drop size p → length q < length p
      next_less {size} hs hq = omega (arith, some_left, ap length hq, length-drop size p)
