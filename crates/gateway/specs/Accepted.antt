-- An accepted message and what goes out of it, as the code has them.
use Rattle.std.specs.Prelude.{List, ◌++◌, ◌+◌, ◌≤◌, ℕ, length, take, drop, Result}
use Rattle.sip.specs.Calls.{Pair}
use Rattle.sip.specs.Lines.{crlf}
use Rattle.sip.specs.Output.{sent_value, line, field_lines}
use Rattle.sip.specs.Refusals.{Entry}
use Rattle.sip.specs.Screen.{Screened}
use Rattle.lines.specs.declared.Slot.{Slot}
use Rattle.judgement.specs.declared.Refusal.{Refusal}
use Rattle.judgement.specs.Entries.{entry_at, entries_from}
use Rattle.judgement.specs.Judges.{Tells}
use Rattle.gateway.specs.declared.Side.{Side}
use Rattle.gateway.specs.declared.message.Accepted.{Accepted}
use Rattle.gateway.specs.declared.message.Outgoing.{Outgoing}
use Rattle.gateway.specs.declared.remembered.CallState.{CallState}
use Rattle.gateway.specs.CallStates.{side_number, pair_in, known_state, state_in, state_for, masked_by, table_by, delivered}
use Rattle.gateway.specs.Sent.{sent_start, sent_message}

-- ---- what the table of calls says of an accepted message, and what the message leaves in it

abbrev pub pair_of : Accepted → Pair
pair_of a = pair_in a.message.now a.slots.now a.judged.count a.judged.tag

abbrev pub known_of : Accepted → CallState
known_of a = known_state a.message.now

abbrev pub state_of : Accepted → List ℕ → Result CallState Refusal
state_of a t = state_in a.message.now a.slots.now a.judged.count a.judged.tag a.judged.withheld t

abbrev pub state_to : Side → Accepted → List ℕ → Result CallState Refusal
state_to side a t = state_for a.message.now (side_number side) a.slots.now a.judged t

abbrev pub changed : CallState → Accepted → List ℕ → List ℕ
changed s a t = table_by s (pair_of a) t

-- reason 16, or the outgoing message and the table after it
abbrev pub delivered_by : CallState → Accepted → List ℕ → List ℕ → Screened
delivered_by s a buffer t =
    delivered a.judged.silent (sent_message a.message.now a.slots.now a.judged (masked_by s)) (changed s a t) buffer t

-- ---- what goes out

abbrev pub sent_by : Outgoing → List ℕ
sent_by o = sent_message o.of.now.message.now o.of.now.slots.now o.of.now.judged o.masked

abbrev pub start_by : Outgoing → List ℕ
start_by o = sent_start o.of.now.message.now o.of.now.judged.before o.of.now.judged.line

abbrev pub fields_by : Outgoing → List Entry
fields_by o = entries_from o.sent o.of.now.message.now o.of.now.slots.now o.of.now.judged.count 0

abbrev pub lines_by : Outgoing → List ℕ
lines_by o = field_lines o.masked o.of.now.judged.body (fields_by o)

-- the empty line and the body
abbrev pub body_by : Outgoing → List ℕ
body_by o = crlf ++ take o.of.now.judged.body (drop o.of.now.judged.rest o.of.now.message.now)

-- the value of a slot, and its line
abbrev pub value_by : Outgoing → Slot → List ℕ
value_by o s = sent_value o.masked o.of.now.judged.body (entry_at o.of.now.message.now s)

abbrev pub line_by : Outgoing → Slot → List ℕ
line_by o s = line s.number (value_by o s)

-- a slot of a field that goes out lies within the message, and the judge told of it
pub record GoesOut (o : Outgoing) (s : Slot) : Type 0 where
  pub tells : Tells o.of.now.judged.hops o.of.now.judged.tag (entry_at o.of.now.message.now s)
  pub within : s.start + s.len ≤ length o.of.now.message.now
