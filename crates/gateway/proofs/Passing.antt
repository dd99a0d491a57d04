-- What the judge says of an accepted message, and of each field that goes out.
use mathlib.Core.Path.{◌≡◌, refl, sym, ap, ◌∙◌}
use mathlib.Core.Bool.{Bool, true, false, ◌&&◌}
use mathlib.Core.List.{List, [], ◌++◌}
use Prim.Native.Nat.{ℕ, zero, suc, ◌+◌, ◌-◌, ◌≤◌, ◌<◌}
use native.Mathlib.Omega.{arith}
use lib.Dec.{ltb}
use lib.ListN.{length, length-append}
use borrow.Author.Tests.{ltb-true, ltb-false}
use Rattle.calls.specs.Places.{fits}
use Rattle.lines.specs.Index.{slot_at}
use Rattle.lines.specs.declared.Slot.{Slot}
use Rattle.judgement.specs.Entries.{entries_from}
use Rattle.judgement.specs.Judges.{nothing}
use Rattle.judgement.specs.Sets.{has}
use Rattle.gateway.specs.declared.message.Accepted.{Accepted}
use Rattle.gateway.specs.declared.message.Outgoing.{Outgoing}
use Rattle.sip.specs.Lines.{crlf}
use Rattle.gateway.specs.Accepted.{pair_of, sent_by, start_by, lines_by, body_by, line_by, GoesOut}
use Rattle.gateway.specs.Sending.{sending_by}
use Rattle.gateway.proofs.Lines.{ToldFrom, lines_from, lines_none, lines_sent, lines_not, none_hidden, told_here, told_sent, told_not, told_kept, lines_kept}
use Rattle.judgement.proofs.Kept.{fits as slot_fits}
use Rattle.gateway.proofs.CallStates.{call_fits}
use Rattle.gateway.proofs.Starts.{start_length}
use Rattle.gateway.proofs.Top.{passes, version_in as top_version_in, body_size, grows}
use Rattle.gateway.specs.Sent.{sent_start, sent_message}

module _ (a : Accepted) where
  pub short : length a.message.now ≤ 8192
  short = (passes a).short

  -- the start line
  pub version_in : a.judged.before + 7 ≤ a.judged.line
  version_in = top_version_in a.message.now a.slots.now (passes a)

  pub line_in : a.judged.line ≤ length a.message.now
  line_in = (passes a).line_within

  pub start_long : length (sent_start a.message.now a.judged.before a.judged.line) ≡ a.judged.line
  start_long = start_length a.message.now a.judged.before a.judged.line version_in line_in

  pub pair_fits : fits (pair_of a) ≡ true
  pair_fits = call_fits a.message.now a.slots.now (passes a)

-- ---- the lines of the fields that go out from the i-th slot on

module _ (o : Outgoing) where
  abbrev m : List ℕ
  m = o.of.now.message.now

  abbrev ns : List ℕ
  ns = o.of.now.slots.now

  abbrev count : ℕ
  count = o.of.now.judged.count

  abbrev pub lines_after : ℕ → List ℕ
  lines_after i = lines_from (sending_by o) o.sent m ns count i

  pub few : count ≤ 96
  few = (passes o.of.now).few

  hidden : (o.masked && has o.sent 15) ≡ false
  hidden = none_hidden o.masked o.goes

  -- the judge told of each field from the i-th slot on
  told_step : (i : ℕ) → ToldFrom (sending_by o) o.sent m ns count i → ToldFrom (sending_by o) o.sent m ns count (i + 1)
  unfolding entries_from
  told_step i t = go (ltb i count) refl
    where
      go : (b : Bool) → ltb i count ≡ b → ToldFrom (sending_by o) o.sent m ns count (i + 1)
      go false e = let z : count - (i + 1) ≡ 0 = omega (arith, ltb-false i count e) in rw z nothing
      go true e = by_set (has o.sent (slot_at ns i).number) refl
        where
          by_set : (b : Bool) → has o.sent (slot_at ns i).number ≡ b → ToldFrom (sending_by o) o.sent m ns count (i + 1)
          by_set true q = told_sent (sending_by o) o.sent m ns count i (ltb-true i count e) refl refl refl q t
          by_set false q = told_not (sending_by o) o.sent m ns count i (ltb-true i count e) refl refl refl q t

  told : (i : ℕ) → ToldFrom (sending_by o) o.sent m ns count i
  told zero =
      let p = passes o.of.now in
      let z : count - 0 ≡ count = omega arith in
      rw z (told_kept o.masked o.goes m ns o.of.now.judged.hops o.of.now.judged.tag count 0 (rw p.fields_held at p.told))
  told (suc i) = let z : i + 1 ≡ suc i = omega arith in rw z at (told_step i (told i))

  pub after_all : lines_after 0 ≡ lines_by o
  after_all = let z : count - 0 ≡ count = omega arith in rw z

  pub none_after : (i : ℕ) → count ≤ i → lines_after i ≡ []
  none_after i h = lines_none (sending_by o) o.sent m ns count i h

  module _ (i : ℕ) (h : i < count) {s : Slot} (es : s ≡ slot_at ns i) {b : Bool} (eb : b ≡ has o.sent s.number) where
    pub goes_out : b ≡ true → GoesOut o s
    goes_out q =
        record {
          tells = told_here (sending_by o) o.sent m ns count i h es eb q (told i);
          within = slot_fits m ns i es (passes o.of.now).within;
        }

    pub sent_after : b ≡ true → lines_after i ≡ line_by o s ++ lines_after (i + 1)
    sent_after q = lines_sent (sending_by o) o.sent m ns count i h es eb refl hidden q

    pub not_after : b ≡ false → lines_after i ≡ lines_after (i + 1)
    not_after q = lines_not (sending_by o) o.sent m ns count i h es eb refl q

  -- ---- the outgoing message by its parts

  pub parts : sent_by o ≡ start_by o ++ (lines_by o ++ body_by o)
  unfolding sent_message
  parts =
      ap (λ (l : List ℕ). start_by o ++ (l ++ body_by o)) (sym (lines_kept o.masked o.goes m ns o.of.now.judged.body count 0))

  body_long : length (body_by o) ≡ 2 + o.of.now.judged.body
  body_long = length-append crlf _ ∙ rw (body_size m ns (passes o.of.now))

  pub sent_length : length (sent_by o) ≡ o.of.now.judged.line + (length (lines_by o) + (2 + o.of.now.judged.body))
  sent_length =
      ap length parts ∙ length-append (start_by o) (lines_by o ++ body_by o)
      ∙ rw (start_long o.of.now, length-append (lines_by o) (body_by o), body_long)

  pub body_short : o.of.now.judged.body ≤ 8192
  body_short = let p = passes o.of.now in omega (arith, p.body_there, p.short)

  pub line_short : o.of.now.judged.line ≤ 8192
  line_short = omega (arith, line_in o.of.now, short o.of.now)

  pub sent_grows : length (sent_by o) < length m + 1024
  sent_grows = grows m ns (passes o.of.now) o.masked
