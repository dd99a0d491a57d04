-- From what judging found to the whole answer: the text that is written is the outgoing message.
use mathlib.Core.Path.{◌≡◌, refl, sym, ap, ◌∙◌}
use mathlib.Core.Bool.{Bool, true, false, cond}
use mathlib.Core.List.{List}
use Prim.Native.Nat.{ℕ, ◌+◌, ◌≤◌, ◌<◌}
use native.Mathlib.Omega.{arith}
use lib.Dec.{leb}
use lib.ListN.{length, take, drop, length-drop}
use lib.Seq.{length-take-le}
use borrow.Author.Tests.{le-leb, lt-leb, leb-true, leb-false}
use Rattle.sip.specs.Refusals.{Answer, refusal, replied, silent}
use Rattle.sip.specs.Output.{output}
use Rattle.sip.specs.Screen.{Verdict, refuses, sends, answer_of, calls_of, verdict, Screened, refusing, sending, screened}
use Rattle.sip.proofs.Growth.{growth}
use Rattle.sip.proofs.Reasons.{refused_reason as judged-most}
use Rattle.emit.specs.Put.{Wrote}
use Rattle.emit.proofs.Laws.{put_front, wrote_room}
use Rattle.judgement.specs.declared.Judged.{Judged}
use Rattle.judgement.specs.declared.Refusal.{Refusal}
use Rattle.judgement.specs.Judges.{Refuses, Passes}
use Rattle.std.proofs.Common.{Option, Some, None, Result, Ok, Err}
use Rattle.std.specs.Result.{result_ok}
use Rattle.sip.proofs.Tests.{never}
use Rattle.judgement.specs.Judged.{judged_message}
use Rattle.judgement.proofs.Messages.{judges}
use Rattle.gateway.specs.declared.message.Accepted.{Accepted}
use Rattle.gateway.specs.declared.remembered.CallState.{CallState}
use Rattle.gateway.specs.declared.message.Outgoing.{Outgoing}
use Rattle.gateway.specs.declared.Side.{Side}
use Rattle.gateway.specs.declared.Side.TheVariants.{Trusted, Untrusted}
use Rattle.gateway.specs.Accepted.{changed, delivered_by, sent_by}
use Rattle.gateway.specs.CallStates.{pair_in, side_number, state_for, masked_by, table_by, delivered}
use Rattle.gateway.specs.Sent.{sent_message}
use Rattle.gateway.specs.Verdicts.{numbers_by}
use Rattle.gateway.proofs.Starts.{version_within, start_sent}
use Rattle.gateway.proofs.CallStates.{Is, verdict_is}

-- ---- what the judge says of an accepted message

from_ok : {T E : Type 0} (r : Result T E) {x : T} → Some x ≡ result_ok r → r ≡ Ok x
from_ok (Ok y) e = cc
from_ok (Err d) e = never (cc)

module _ (a : Accepted) where
  pub judged_is : judged_message a.message.now ≡ Ok a.judged
  judged_is = from_ok (judged_message a.message.now) a.judging

  pub passes : Passes a.message.now a.slots.now a.judged
  passes = judges a.message.now (sym judged_is) a.reading

-- ---- the outgoing message

module _ (m slots : List ℕ) {j : Judged} (p : Passes m slots j) where
  pub version_in : j.before + 7 ≤ j.line
  version_in = rw (p.before_is, p.line_is) (version_within p.message.line)

  pub body_size : length (take j.body (drop j.rest m)) ≡ j.body
  body_size = length-take-le j.body (drop j.rest m) (rw (length-drop j.rest m) p.body_there)

  body_long : length p.message.body ≡ j.body
  body_long = rw p.body_is body_size

  sent_output : (masked : Bool) → sent_message m slots j masked ≡ output masked p.message
  unfolding sent_message output
  sent_output masked =
      let start = start_sent m p.message.line p.header p.is_read in
      rw (p.before_is, p.line_is, start, ← p.fields_held, ← p.body_is, body_long)

  pub grows : (masked : Bool) → length (sent_message m slots j masked) < length m + 1024
  grows masked = rw (sent_output masked) (growth m p.message masked p.is_accepted)

-- ---- whether there is room

module _ (size room : ℕ) where
  pub surely_fits : {k : ℕ} → size < k → k ≤ room → None ≡ cond (leb size room) None (Some size)
  surely_fits l h = rw (le-leb size room (omega arith))

  pub just_fits : {len : ℕ} → len ≡ size → len ≤ room → None ≡ cond (leb size room) None (Some size)
  just_fits e h = rw (le-leb size room (omega arith))

  pub too_large : {len : ℕ} → len ≡ size → room < len → Some len ≡ cond (leb size room) None (Some size)
  too_large e h = rw (e, lt-leb size room (omega arith))

  module _ {r : Option ℕ} (e : r ≡ cond (leb size room) None (Some size)) where
    pub fits : r ≡ None → size ≤ room
    fits z = go (leb size room) refl
      where
        go : (b : Bool) → leb size room ≡ b → size ≤ room
        go true q = leb-true size room q
        go false q = let x : None ≡ Some size = rw q at (sym z ∙ e) in never (cc)

    pub full : {n : ℕ} → r ≡ Some n → (n ≡ size) × (room < size)
    full {n} z = go (leb size room) refl
      where
        go : (b : Bool) → leb size room ≡ b → (n ≡ size) × (room < size)
        go true q = let x : Some n ≡ None = rw q at (sym z ∙ e) in never (cc)
        go false q = let x : Some n ≡ Some size = rw q at (sym z ∙ e) in (cc, leb-false size room q)

-- ---- reason 16, or the outgoing message

module _ (a : Accepted) (state : CallState) (t d : List ℕ) where
  abbrev o : List ℕ
  o = sent_message a.message.now a.slots.now a.judged (masked_by state)

  abbrev all : Screened
  all = delivered_by state a d t

  module _ (l : length d < length o) {r : Refusal} (e1 : r.reason ≡ 16) (e2 : r.reply ≡ cond a.judged.silent 0 500) (e3 : r.detail ≡ length o)
      (e4 : r.missing ≡ 0) where
    full_is : all ≡ refusing (refusal r.reason r.reply r.detail r.missing) d t
    unfolding delivered
    full_is = rw (e1, e2, e3, e4, lt-leb (length o) (length d) l)

    pub full_answer : numbers_by (Err r) ≡ all.answer
    full_answer = sym (ap (λ (s : Screened). s.answer) full_is)

    pub full_buffer : d ≡ all.buffer
    full_buffer = sym (ap (λ (s : Screened). s.buffer) full_is)

    pub full_table : t ≡ all.table
    full_table = sym (ap (λ (s : Screened). s.table) full_is)

  module _ (l : length o ≤ length d) where
    sent_all : all ≡ sending o d (changed state a t)
    unfolding delivered
    sent_all = rw (le-leb (length o) (length d) l)

    pub sent_table : {t' : List ℕ} → t' ≡ changed state a t → t' ≡ all.table
    sent_table q = q ∙ sym (ap (λ (s : Screened). s.table) sent_all)

    module _ {n : ℕ} {d' : List ℕ} (w : Wrote d 0 o n d') where
      pub sent_answer : numbers_by (Ok n) ≡ all.answer
      sent_answer =
          let k : n ≡ length o = omega (arith, (wrote_room w (omega arith)).0) in
          rw k (sym (ap (λ (s : Screened). s.answer) sent_all))

      pub sent_buffer : d' ≡ all.buffer
      sent_buffer = w.holds ∙ put_front d o l ∙ sym (ap (λ (s : Screened). s.buffer) sent_all)

-- what the outgoing message of an accepted one is
pub sent_as : (x : Outgoing) {a : Accepted} (state : CallState) → x.of.now ≡ a → x.masked ≡ masked_by state
    → sent_by x ≡ sent_message a.message.now a.slots.now a.judged (masked_by state)
sent_as x state e f = rw (e, f)

-- ---- what a refusal answers and leaves

module _ (m : List ℕ) (side : ℕ) (t : List ℕ) where
  module _ {r : Refusal} (v : verdict m side t ≡ refuses (refusal r.reason r.reply r.detail r.missing)) where
    pub refused_reason : r.reason ≡ (answer_of (verdict m side t)).reason
    refused_reason = sym (ap (λ (x : Verdict). (answer_of x).reason) v)

    pub refused_calls : t ≡ calls_of t (verdict m side t)
    refused_calls = sym (ap (calls_of t) v)

    module _ (d : List ℕ) where
      refusal_is : screened m side t d ≡ refusing (refusal r.reason r.reply r.detail r.missing) d t
      unfolding screened
      refusal_is = rw v

      pub refused_answer : numbers_by (Err r) ≡ (screened m side t d).answer
      refused_answer = sym (ap (λ (s : Screened). s.answer) refusal_is)

      pub refused_buffer : d ≡ (screened m side t d).buffer
      refused_buffer = sym (ap (λ (s : Screened). s.buffer) refusal_is)

      pub refused_table : t ≡ (screened m side t d).table
      refused_table = sym (ap (λ (s : Screened). s.table) refusal_is)

  -- reason 1
  pub other_side : {r : Refusal} → (1 < side) × (r ≡ record { reason = 1; reply = 0; detail = 0; missing = 0 })
      → verdict m side t ≡ refuses (refusal r.reason r.reply r.detail r.missing)
  unfolding verdict
  other_side (h, e) = rw (e, lt-leb side 1 h)

  -- the reasons of judging
  pub judged_refused : side ≤ 1 → {r : Refusal} → Refuses m r → verdict m side t ≡ refuses (refusal r.reason r.reply r.detail r.missing)
  unfolding verdict
  judged_refused h e = rw (le-leb side 1 h, e.is_refused)

pub side_low : (to : Side) {side : ℕ} → side_number to ≡ side → side ≤ 1
side_low Trusted e = omega (arith, e)
side_low Untrusted e = omega (arith, e)

pub judged_most : (m : List ℕ) {r : Refusal} → Refuses m r → r.reason ≤ 18
judged_most m e = omega (arith, (judged-most m _ e.is_refused).few)

-- ---- by what the table says

module _ (m slots : List ℕ) {j : Judged} (p : Passes m slots j) (side : ℕ) (low : side ≤ 1) (t : List ℕ) {x : Result CallState Refusal}
    (said : x ≡ state_for m side slots j t) where
  verdict_said : Is m slots p side low t x
  verdict_said = rw (← said) at (verdict_is m slots p side low t)

  pub away : {r : Refusal} → x ≡ Err r → verdict m side t ≡ refuses (refusal r.reason r.reply r.detail r.missing)
  away e = rw e at verdict_said

  module _ {state : CallState} (e : x ≡ Ok state) where
    abbrev after : List ℕ
    after = table_by state (pair_in m slots j.count j.tag) t

    goes : verdict m side t ≡ sends p.message.line (output (masked_by state) p.message) after
    goes = rw e at verdict_said

    pub goes_reason : 0 ≡ (answer_of (verdict m side t)).reason
    goes_reason = sym (ap (λ (v : Verdict). (answer_of v).reason) goes)

    pub goes_calls : {t' : List ℕ} → t' ≡ after → t' ≡ calls_of t (verdict m side t)
    goes_calls q = q ∙ sym (ap (calls_of t) goes)

    module _ (d : List ℕ) where
      abbrev out : Screened
      out = delivered j.silent (sent_message m slots j (masked_by state)) after d t

      output_goes : delivered j.silent (output (masked_by state) p.message) after d t ≡ screened m side t d
      unfolding screened delivered replied
      output_goes = rw (goes, p.silent_is) (ap either (quiet (silent p.message.line)))
        where
          long : ℕ
          long = length (output (masked_by state) p.message)

          either : Answer → Screened
          either a = cond (leb long (length d)) (sending (output (masked_by state) p.message) d after) (refusing a d t)

          quiet : (y : Bool) → refusal 16 (cond y 0 500) long 0 ≡ cond y (refusal 16 0 long 0) (refusal 16 500 long 0)
          quiet true = refl
          quiet false = refl

      goes_is : out ≡ screened m side t d
      goes_is = ap (λ (o : List ℕ). delivered j.silent o after d t) (sent_output m slots p (masked_by state)) ∙ output_goes

      pub goes_answer : (r : Result ℕ Refusal) → numbers_by r ≡ out.answer → numbers_by r ≡ (screened m side t d).answer
      goes_answer r e = e ∙ ap (λ (s : Screened). s.answer) goes_is

      pub goes_buffer : {d' : List ℕ} → d' ≡ out.buffer → d' ≡ (screened m side t d).buffer
      goes_buffer e = e ∙ ap (λ (s : Screened). s.buffer) goes_is

      pub goes_table : {t' : List ℕ} → t' ≡ out.table → t' ≡ (screened m side t d).table
      goes_table e = e ∙ ap (λ (s : Screened). s.table) goes_is
