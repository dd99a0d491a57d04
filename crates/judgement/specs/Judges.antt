-- What the judgement of a message comes to, in the pages' words.
use Rattle.std.specs.Prelude.{◌≡◌, not, List, [], ◌∷◌, ℕ, ◌+◌, ◌-◌, ◌≤◌, length, take, drop}
use Rattle.std.specs.Prelude.{Option as RustOption, Some, None, Result, MatchResult, IfSome}
use Rattle.std.proofs.Math.Option.{Option, none, some}
use Rattle.octets.specs.Scans.{decimal}
use Rattle.sip.specs.declared.Span.{Span}
use Rattle.sip.specs.declared.CallerAt.{CallerAt}
use Rattle.sip.specs.Lines.{start_size, Header}
use Rattle.sip.specs.Profile.{ignored}
use Rattle.sip.specs.Readings.{part, Asserted, caller_in, caller_at}
use Rattle.sip.specs.Output.{before_version}
use Rattle.sip.specs.Values.{tag_of}
use Rattle.sip.specs.Refusals.{refusal, read, lines, Entry, message_column, kept_of, silent, withheld, Passed, refused, accepted, judgement}
use Rattle.judgement.specs.declared.Refusal.{Refusal}
use Rattle.judgement.specs.declared.Refused.{Refused}
use Rattle.judgement.specs.declared.Judged.{Judged}
use Rattle.judgement.specs.Sets.{has}
use Rattle.judgement.specs.Entries.{Within, entries_from}

-- this is so of one field: what Max-Forwards says, and where the tag stands in From
pub record Tells (hops : ℕ) (tag : Span) (e : Entry) : Type 0 where
  pub hops_are : e.number ≡ 2 → decimal 0 e.value ≡ hops
  pub tag_is : e.number ≡ 3 → tag_of e.value ≡ part tag e.value
  pub tag_within : e.number ≡ 3 → tag.start + tag.len ≤ length e.value

-- and of each
pub data Told (hops : ℕ) (tag : Span) : List Entry → Type 0 where
  nothing : Told hops tag []
  also : {e : Entry} {es : List Entry} → Tells hops tag e → Told hops tag es → Told hops tag (e ∷ es)

-- where an asserted identity's number stands
abbrev pub caller_found : Option Asserted → RustOption CallerAt
caller_found none = None
caller_found (some a) = Some (caller_at (some a))

-- no reason but 1, 16 and 18 refuses it: the judgement of the pages accepts this message, and this is what the answer and the slots say of it
pub record Passes (m slots : List ℕ) (r : Judged) : Type 0 where
  pub message : Passed
  pub header : Header
  pub is_accepted : judgement m ≡ accepted message
  pub is_read : lines m ≡ read message.line header
  -- where its parts stand in the message
  pub short : length m ≤ 8192
  pub few : r.count ≤ 96
  pub within : Within m slots
  pub silent_is : r.silent ≡ silent message.line
  pub before_is : r.before ≡ before_version message.line
  pub line_is : r.line ≡ start_size message.line
  pub line_within : r.line ≤ length m
  -- its fields are those that the column keeps, and the slots hold them
  pub fields_kept : message.fields ≡ kept_of message.line header.fields
  pub kept_is : (n : ℕ) → has r.kept n ≡ not (ignored (message_column message.line header.fields) n)
  pub fields_held : message.fields ≡ entries_from r.kept m slots r.count 0
  -- its body, and what its fields say
  pub body_is : message.body ≡ take r.body (drop r.rest m)
  pub body_there : r.body ≤ length m - r.rest
  pub withheld_is : withheld message.fields ≡ r.withheld
  pub told : Told r.hops r.tag message.fields
  -- where the caller's number stands in its P-Asserted-Identity fields, which count from 1; nowhere where it asserts no identity
  pub caller_is : r.caller ≡ caller_found (caller_in message.fields)
  pub caller_named : IfSome r.caller (λ (k : CallerAt). 1 ≤ k.field)

-- a reason of the pages refuses it, and these are its numbers
pub record Refuses (m : List ℕ) (r : Refusal) : Type 0 where
  pub has_reason : r.reason ≡ 0 → ⊥
  pub is_refused : judgement m ≡ refused (refusal r.reason r.reply r.detail r.missing)

abbrev pub Judges : List ℕ → List ℕ → Result Judged Refused → Type 0
Judges m slots r = MatchResult r (λ (j : Judged). Passes m slots j) (λ (e : Refused). Refuses m e.refusal)
