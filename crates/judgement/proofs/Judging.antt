-- A message that was read is judged as the pages say, by the column that its fields are kept by, and by whether a reason applies.
use mathlib.Core.Path.{◌≡◌, refl, sym, ap, ◌∙◌}
use mathlib.Core.Bool.{Bool, true, false, cond}
use mathlib.Core.List.{List, [], ◌∷◌}
use mathlib.Core.Option.{Option, none, some}
use Rattle.std.specs.Prelude.{Result}
use Prim.Native.Nat.{ℕ, ◌-◌, ◌≤◌}
use lib.ListN.{length, drop, length-drop}
use Rattle.sip.specs.declared.Column.{Column}
use Rattle.sip.specs.declared.Span.{Span}
use Rattle.sip.specs.Lines.{Start, start_size, Field, Header}
use Rattle.sip.specs.Output.{before_version}
use Rattle.sip.specs.Change.{StartShaped}
use Rattle.sip.specs.Refusals.{Answer, read, lines, kept, refusal, silent, replied, Entry, message_column, kept_of, passed, refused, accepted}
use Rattle.sip.specs.Refusals.{judged, judgement}
use Rattle.sip.proofs.Spans.{StartParts}
use Rattle.lines.specs.Index.{Head, method_length, uri_length}
use Rattle.judgement.specs.declared.Refusal.{Refusal}
use Rattle.judgement.specs.declared.Refused.{Refused}
use Rattle.judgement.specs.declared.Judged.{Judged}
use Rattle.judgement.specs.Sets.{kept_set}
use Rattle.judgement.specs.Entries.{Within, entries_from}
use Rattle.judgement.specs.Tallies.{no_tally, tallied}
use Rattle.judgement.specs.Judged.{refusal_of, checked, silenced, judged_from}
use Rattle.judgement.specs.Judges.{Told, nothing, also, Judges}
use Rattle.judgement.proofs.Members.{kept_has}
use Rattle.judgement.proofs.Each.{Each, Listed, entries_listed, kept_listed}
use Rattle.judgement.proofs.Firsts.{HopsAre, TagIn, TagWithin, total_withheld, hops_there, tags_there, tags_within}
use Rattle.judgement.proofs.Callers.{total_caller, total_named}
use Rattle.judgement.proofs.Decisions.{Numbered}
use Rattle.judgement.proofs.Reasons.{body_there, body_is, Fine}

-- ---- what the writer is told

told_each : (hops : ℕ) (tag : Span) (es : List Entry) → Each (HopsAre hops) es → Each (TagIn tag) es → Each (TagWithin tag) es → Told hops tag es
told_each hops tag [] h t i = nothing
told_each hops tag (e ∷ es) h t i =
    also (record { hops_are = h.0; tag_is = t.0; tag_within = i.0 }) (told_each hops tag es h.1 t.1 i.1)

-- ---- the reply

abbrev lengthened : Answer → ℕ → Answer
lengthened a n = record { reason = a.reason; reply = a.reply; detail = a.detail; missing = a.missing; length = n }

-- the numbers of the code's refusal are the pages' answer
answer_is : (ack : Bool) (a : Answer) → a.length ≡ 0
    → refusal (silenced ack (refusal_of a)).reason (silenced ack (refusal_of a)).reply (silenced ack (refusal_of a)).detail
    (silenced ack (refusal_of a)).missing
    ≡ cond ack (refusal a.reason 0 a.detail a.missing) a
answer_is true a z = refl
answer_is false a z = ap (lengthened a) (sym z)

silenced_reason : (ack : Bool) (r : Refusal) → (silenced ack r).reason ≡ r.reason
silenced_reason true r = refl
silenced_reason false r = refl

-- ---- a message that was read

-- where its parts stand, and its slots
pub record Reads (m slots : List ℕ) (x : Head) (l : Start) : Type 0 where
  pub header : Header
  pub version : List ℕ
  pub is_read : lines m ≡ read l header
  pub shaped : StartShaped l version
  pub line_parts : StartParts m l
  pub method_long : x.method ≡ method_length l
  pub uri_long : x.uri ≡ uri_length l
  pub line_long : x.line ≡ start_size l
  pub few : x.count ≤ 96
  pub short : length m ≤ 8192
  pub line_within : x.line ≤ length m
  pub rest_within : x.rest ≤ length m
  pub rest_is : drop x.rest m ≡ header.rest
  pub slots_within : Within m slots
  pub slots_hold : (c : Column) → entries_from (kept_set c) m slots x.count 0 ≡ kept (some c) header.fields

module _ {m slots : List ℕ} {x : Head} {l : Start} (r : Reads m slots x l) where
  abbrev pub fs : List Field
  fs = r.header.fields

  abbrev pub left : List ℕ
  left = r.header.rest

  pub left_long : length m - x.rest ≡ length left
  left_long = sym (length-drop x.rest m) ∙ ap length r.rest_is

  pub read_is : judgement m ≡ judged l (kept_of l fs) left
  unfolding judgement
  read_is = rw r.is_read

  -- by the column that its fields are kept by, with any reasons whose first is o
  module _ (c : Column) (e : message_column l fs ≡ some c) where
    abbrev pub es : List Entry
    es = entries_from (kept_set c) m slots x.count 0

    pub kept_is : kept_of l fs ≡ es
    kept_is = rw e (sym (r.slots_hold c))

    pub listed : Listed es
    listed = entries_listed (kept_set c) (kept_listed c) m slots x.count 0

    judged_is : judgement m ≡ judged l es left
    judged_is = read_is ∙ rw kept_is

    module _ (method : List ℕ) (o : Option Answer) where
      abbrev answer : Option Answer → Result Judged Refused
      answer p = judged_from x (silent l) (before_version l) (kept_set c) (checked p) (tallied method no_tally es) (length left)

      refuses_is : (a : Answer) → judged l es left ≡ refused (replied l a) → Numbered (some a) → Judges m slots (answer (some a))
      unfolding judged_from replied
      refuses_is a applies n =
          record {
            has_reason = λ z. n.0 (sym (silenced_reason (silent l) (refusal_of a)) ∙ z);
            is_refused = judged_is ∙ applies ∙ rw (answer_is (silent l) a n.1);
          }

      accepts_is : judged l es left ≡ accepted (passed l es left) → Fine method es left → Judges m slots (answer none)
      unfolding judged_from
      accepts_is accepted_is fine =
          record {
            message = passed l es left;
            header = r.header;
            is_accepted = judged_is ∙ accepted_is;
            is_read = r.is_read;
            short = r.short;
            few = r.few;
            within = r.slots_within;
            silent_is = refl;
            before_is = refl;
            line_is = r.line_long;
            line_within = r.line_within;
            fields_kept = sym kept_is;
            kept_is = λ n. rw e (kept_has c n);
            fields_held = refl;
            body_is = body_is method es left fine.formed fine.there ∙ rw r.rest_is;
            body_there = rw left_long (body_there method es left fine.formed fine.there);
            withheld_is = sym (total_withheld method es);
            told =
                told_each _ _ es (hops_there method es fine.formed fine.unrepeated) (tags_there method es fine.unrepeated)
                (tags_within method es fine.unrepeated);
            caller_is = total_caller method es fine.unmalformed;
            caller_named = total_named method es;
          }

      pub judges_is : Numbered o → ((a : Answer) → o ≡ some a → judged l es left ≡ refused (replied l a))
          → (o ≡ none → judged l es left ≡ accepted (passed l es left)) → (o ≡ none → Fine method es left) → Judges m slots (answer o)
      judges_is k applies accepted_is fine = go o refl k
        where
          go : (p : Option Answer) → o ≡ p → Numbered p → Judges m slots (answer p)
          go none q n = accepts_is (accepted_is q) (fine q)
          go (some a) q n = refuses_is a (applies a q) n
