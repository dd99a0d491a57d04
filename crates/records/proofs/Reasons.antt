-- The reasons of a replay, and the tables it leaves: those of the verdict, since the room is enough; no reason is above 18, and those of a message
-- that is not read are 1 to 5.
use mathlib.Core.Path.{◌≡◌, refl, sym, ap, ◌∙◌}
use mathlib.Core.Bool.{Bool, true, false}
use mathlib.Core.List.{List, [], ◌∷◌}
use Prim.Native.Nat.{ℕ, zero, suc, ◌≤◌, ◌<◌}
use native.Mathlib.Omega.{arith}
use lib.Dec.{leb}
use lib.ListN.{length}
use borrow.Author.Tests.{leb-true, le-leb}
use Rattle.octets.specs.Classes.{within}
use Rattle.sip.specs.Output.{output}
use Rattle.sip.specs.Calls.{none_held}
use Rattle.sip.specs.Refusals.{Answer, refusal, Lines, unread, read, lines, Passed, Judgement, refused, accepted, judgement}
use Rattle.sip.specs.Screen.{masks, overfills, calls_after, Verdict, refuses, sends, answer_of, calls_of, decided, verdict, Screened, written, screened}
use Rattle.sip.specs.History.{table_through}
use Rattle.sip.specs.Starred.{blank_buffer}
use Rattle.sip.proofs.Cases.{replied_reason}
use Rattle.sip.proofs.Change.{demand3}
use Rattle.sip.proofs.Growth.{growth}
use Rattle.sip.proofs.Reasons.{lines_reason, refused_reason}
use Rattle.sip.proofs.Tests.{never, in_range}
use Rattle.records.specs.Records.{Recorded}
use Rattle.records.specs.History.{reason_of, calls_left, outcome_of, history_from, calls_through, history}
use Rattle.records.specs.Promises.{Reads, GroupsRead, FewReasons, RoomEnough, AnyRoom, SameReason, no_record, same_record, changed_record}
use Rattle.records.specs.Promises.{reasons_of, SameReasons, screenings, ReplayCalls, answers_through, ReplayReasons}

-- a message that is judged good is read, and has no more than 8,192 bytes
accepted_reads : (m : List ℕ) (r : Passed) → judgement m ≡ accepted r → Reads m
unfolding judgement
accepted_reads m r e = go (lines m) refl
  where
    go : (x : Lines) → lines m ≡ x → Reads m
    go (unread n) q = let z : refused (refusal n 0 0 0) ≡ accepted r = rw q at e in never (cc)
    go (read l h) q = record { line = l; header = h; reads = q }

accepted_fits : (m : List ℕ) (r : Passed) → judgement m ≡ accepted r → length m ≤ 8192
unfolding judgement lines
accepted_fits m r e = go (leb (length m) 8192) refl
  where
    go : (t : Bool) → leb (length m) 8192 ≡ t → length m ≤ 8192
    go true p = leb-true (length m) 8192 p
    go false p = let z : refused (refusal 2 0 0 0) ≡ accepted r = rw p at e in never (cc)

-- ---- with any buffer that has room the screening is its verdict

written_told : (b table : List ℕ) (v : Verdict) → ((written b table v).answer.reason ≡ 16 → ⊥)
    → ((written b table v).answer.reason ≡ (answer_of v).reason) × ((written b table v).table ≡ calls_of table v)
written_told b table (refuses a) h = (refl, refl)
written_told b table (sends l o after) h = go (leb (length o) (length b)) refl
  where
    go : (t : Bool) → leb (length o) (length b) ≡ t
        → ((written b table (sends l o after)).answer.reason ≡ 0) × ((written b table (sends l o after)).table ≡ after)
    go true p = (rw p refl, rw p refl)
    go false p = absurd (h (rw p (replied_reason l (refusal 16 500 (length o) 0))))

blank_length : (n : ℕ) → length (blank_buffer n) ≡ n
unfolding blank_buffer
blank_length zero = refl
blank_length (suc n) = ap suc (blank_length n)

-- ---- the verdict

-- none of its reasons is above 18 or is 16, one that is not 1 to 5 is of a message that is read, and 9,216 bytes are room enough
record Told (m table : List ℕ) (v : Verdict) : Type 0 where
  few : (answer_of v).reason ≤ 18
  roomy : (answer_of v).reason ≡ 16 → ⊥
  reads : within 1 5 (answer_of v).reason ≡ false → Reads m
  fits : (b : List ℕ) → length b ≡ 9216 → (written b table v).answer.reason ≡ 16 → ⊥

early : (m table : List ℕ) (a : Answer) → 1 ≤ a.reason → a.reason ≤ 5 → Told m table (refuses a)
early m table a l h =
    record {
      few = omega arith;
      roomy = λ e. omega (arith, e);
      reads = λ e. never (cc (in_range 1 5 a.reason l h, e));
      fits = λ b q e. omega (arith, e);
    }

refused_told : (m table : List ℕ) (a : Answer) → judgement m ≡ refused a → Told m table (refuses a)
unfolding judgement
refused_told m table a e = go (lines m) refl
  where
    go : (x : Lines) → lines m ≡ x → Told m table (refuses a)
    go (unread n) q =
        let z : refused (refusal n 0 0 0) ≡ refused a = rw q at e in
        let w : refusal n 0 0 0 ≡ a = cc in
        let (lo, hi) = lines_reason m n q in
        rw (← w) (early m table (refusal n 0 0 0) (omega arith) hi)
    go (read l h) q =
        let late = refused_reason m a e in
        record {
          few = omega (arith, late.few);
          roomy = late.roomy;
          reads = λ _. record { line = l; header = h; reads = q };
          fits = λ b k f. late.roomy f;
        }

module _ (m : List ℕ) (side : ℕ) (table : List ℕ) where
  sent_told : (r : Passed) → judgement m ≡ accepted r → Told m table (sends r.line (output (masks side table r) r) (calls_after side table r))
  sent_told r e =
      record {
        few = omega arith;
        roomy = λ z. omega (arith, z);
        reads = λ _. accepted_reads m r e;
        fits = λ b k.
            let o : List ℕ = output (masks side table r) r in
            let l : length o ≤ length b = omega (arith, growth m r (masks side table r) e, accepted_fits m r e) in
            rw (le-leb (length o) (length b) l) (λ z. omega (arith, z));
      }

  decided_told : (r : Passed) → judgement m ≡ accepted r → Told m table (decided side table r)
  unfolding decided
  decided_told r e = go (overfills side table r) refl
    where
      go : (t : Bool) → overfills side table r ≡ t → Told m table (decided side table r)
      go true f =
          rw f
          (record {
            few = omega arith;
            roomy = λ z. omega (arith, z);
            reads = λ _. accepted_reads m r e;
            fits = λ b k z. omega (arith, z);
          })
      go false f = rw f (sent_told r e)

  verdict_told : Told m table (verdict m side table)
  unfolding verdict
  verdict_told = go (leb side 1) (judgement m) refl refl
    where
      go : (t : Bool) (j : Judgement) → leb side 1 ≡ t → judgement m ≡ j → Told m table (verdict m side table)
      go false j p q = rw p (early m table (refusal 1 0 0 0) (omega arith) (omega arith))
      go true (refused a) p q = rw (p, q) (refused_told m table a q)
      go true (accepted r) p q = rw (p, q) (decided_told r q)

  replay_told : (reason_of m side table ≡ (answer_of (verdict m side table)).reason) × (calls_left m side table ≡ calls_of table (verdict m side table))
  unfolding reason_of calls_left screened
  replay_told = written_told (blank_buffer 9216) table (verdict m side table) (verdict_told.fits (blank_buffer 9216) (blank_length 9216))

  pub reason_is : {n : ℕ} → n ≡ (answer_of (verdict m side table)).reason → n ≡ reason_of m side table
  reason_is e = e ∙ sym replay_told.0

  pub calls_are : {t : List ℕ} → t ≡ calls_of table (verdict m side table) → t ≡ calls_left m side table
  calls_are e = e ∙ sym replay_told.1

  pub reason_few : reason_of m side table < 20
  reason_few = omega (arith, replay_told.0, verdict_told.few)

-- ---- the promises

pub groups_read : GroupsRead
groups_read m side table e = (verdict_told m side table).reads (rw (replay_told m side table).0 at e)

pub few_reasons : FewReasons
few_reasons m side table = omega (arith, (replay_told m side table).0, (verdict_told m side table).few)

pub room_enough : RoomEnough
room_enough m side table e = (verdict_told m side table).roomy (sym (replay_told m side table).0 ∙ e)

pub any_room : AnyRoom
unfolding screened
any_room m side table b h =
    let (r, c) = written_told b table (verdict m side table) h in
    (reason_is m side table r, calls_are m side table c)

pub same_reason : SameReason
unfolding reason_of calls_left
same_reason m m' side table c =
    let e = demand3 m m' side table (blank_buffer 9216) c in
    (ap (λ (s : Screened). s.answer.reason) e, ap (λ (s : Screened). s.table) e)

pub same_reasons : SameReasons
unfolding history_from calls_through outcome_of
same_reasons rs rs' table no_record = (refl, refl)
same_reasons rs rs' table (same_record {r = r} {rs = qs} {rs' = qs'} c) =
    let (e, f) = same_reasons qs qs' (calls_left r.message r.side table) c in
    (rw e, f)
same_reasons rs rs' table (changed_record {m = m} {m' = m'} {side = side} {rs = qs} {rs' = qs'} x c) =
    let (a, b) = same_reason m m' side table x in
    let (e, f) = same_reasons qs qs' (calls_left m side table) c in
    (rw (a, b, e), rw (b, f))

-- ---- a replay as operations

through_calls : (table : List ℕ) (rs : List Recorded) → calls_through table rs ≡ table_through table (screenings rs)
unfolding calls_through table_through screenings calls_left
through_calls table [] = refl
through_calls table (r ∷ rs) = through_calls (calls_left r.message r.side table) rs

pub replay_calls : ReplayCalls
replay_calls = through_calls none_held

through_reasons : (table : List ℕ) (rs : List Recorded) → reasons_of (history_from table rs) ≡ answers_through table (screenings rs)
unfolding history_from outcome_of answers_through screenings reason_of calls_left
through_reasons table [] = refl
through_reasons table (r ∷ rs) =
    ap (λ (ns : List ℕ). reason_of r.message r.side table ∷ ns) (through_reasons (calls_left r.message r.side table) rs)

pub replay_reasons : ReplayReasons
unfolding history
replay_reasons = through_reasons none_held
