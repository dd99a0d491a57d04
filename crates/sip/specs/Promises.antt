-- The large promises over the definitions, as statements; their proofs are in proofs/.
use Rattle.std.specs.Prelude.{◌≡◌, Bool, true, false, cond, List, [], ◌∷◌, ◌++◌, ℕ, ◌+◌, ◌<◌, eqb, length, take}
use Rattle.std.proofs.Math.Option.{Option, none, some}
use Rattle.octets.specs.Classes.{text}
use Rattle.sip.specs.declared.Column.{Column}
use Rattle.sip.specs.declared.Column.TheVariants.{Invite, Reinvite}
use Rattle.sip.specs.Lines.{RequestLine, StatusLine, request_line, status_line, Start, request, response, start, start_size, Field, Header}
use Rattle.sip.specs.Lines.{canonical}
use Rattle.sip.specs.Profile.{number_of, ignored}
use Rattle.sip.specs.Refusals.{Answer, refusal, lines, read, header_lines, Entry, kept, withheld, first_malformed, Passed, message_column, kept_of}
use Rattle.sip.specs.Refusals.{judgement, accepted}
use Rattle.sip.specs.Values.{is_from, tag_of, is_global}
use Rattle.sip.specs.Output.{output}
use Rattle.sip.specs.Calls.{is_held}
use Rattle.sip.specs.Screen.{call_of, masks, overfills, calls_after, refuses, sends, verdict, screened}
use Rattle.sip.specs.Readings.{calling_number, calling_part}
use Rattle.sip.specs.Change.{Changed}
use Rattle.sip.specs.Grammar.{UriParts, person_of}
use Rattle.sip.specs.Asserted.{Asserting, IdentitiesAllowed, Calling}
use Rattle.sip.specs.Callers.{with_value, OtherCaller, TwoCallers}

-- CR 1: a start line is a request line or a status line (RFC 3261, start-line), and no text is both
abbrev pub OneKind : Type 0
OneKind = (s : List ℕ) (l : RequestLine) (a : StatusLine) → request_line s ≡ some l → status_line s ≡ some a → ⊥

-- Demand 3: "Inserting any number of well-shaped ignored fields anywhere, and writing listed names in long or compact form and any case,
-- changes nothing: not the answer, not one byte of the buffer." CR 8: "Demands 2 and 3 .. read with the same table before; the table after is
-- part of the answer."
abbrev pub Demand3 : Type 0
Demand3 =
    (m m' : List ℕ) (side : ℕ) (table buffer : List ℕ) → Changed m m' → screened m' side table buffer ≡ screened m side table buffer

-- CR 1: a change cannot move the column by which fields are ignored: the changed message has the original's
abbrev pub SameColumn : Type 0
SameColumn = (m m' : List ℕ) (c : Changed m m') → message_column c.line c.fields' ≡ message_column c.line c.fields

-- Nothing is left out of demand 3: a message that reads is the original of a change, with the lines that are read
pub record ReadAs (m : List ℕ) (l : Start) (h : Header) : Type 0 where
  pub change : Changed m m
  pub same_line : change.line ≡ l
  pub same_fields : change.fields ≡ h.fields
  pub same_rest : change.rest ≡ h.rest

abbrev pub Everything : Type 0
Everything = (m : List ℕ) (l : Start) (h : Header) → lines m ≡ read l h → ReadAs m l h

-- and nothing else is in it: original and changed message both read, as the lines that the change speaks of
pub record BothRead (m m' : List ℕ) (c : Changed m m') : Type 0 where
  pub original_reads : lines m ≡ read c.line (record { fields = c.fields; rest = c.rest })
  pub changed_reads : lines m' ≡ read c.line (record { fields = c.fields'; rest = c.rest })

abbrev pub NothingElse : Type 0
NothingElse = (m m' : List ℕ) (c : Changed m m') → BothRead m m' c

-- CR 1, of responses: "reply always 0"
abbrev pub NoReply : Type 0
NoReply =
    (m : List ℕ) (l : StatusLine) → start m ≡ some (response l) → (side : ℕ) (table buffer : List ℕ)
    → (screened m side table buffer).answer.reply ≡ 0

-- CR 1, of responses: "nothing is made anonymous": what goes to side 1 is what goes to side 0, whatever calls are remembered; and a response
-- changes no table
abbrev pub NothingAnonymous : Type 0
NothingAnonymous =
    (m : List ℕ) (l : StatusLine) → start m ≡ some (response l) → (table buffer : List ℕ)
    → (screened m 1 table buffer ≡ screened m 0 table buffer) × ((screened m 1 table buffer).table ≡ table)

-- CR 2: "Privacy is not ignored": of the requests that no reason but 1, 16 and 18 refuses, an INVITE alone is withheld
abbrev pub OnlyInvites : Type 0
OnlyInvites =
    (m : List ℕ) (l : RequestLine) (h : Header) (r : Passed) → lines m ≡ read (request l) h → judgement m ≡ accepted r
    → withheld r.fields ≡ true → l.method ≡ text "INVITE"

-- CR 2 and CR 8: where the caller is not withheld and the pair not remembered nothing is masked: what goes to side 1 is what goes to side 0
abbrev pub OnlyWithheldMasked : Type 0
OnlyWithheldMasked =
    (m : List ℕ) (r : Passed) → judgement m ≡ accepted r → withheld r.fields ≡ false → (table buffer : List ℕ)
    → is_held (call_of r.fields) table ≡ false → screened m 1 table buffer ≡ screened m 0 table buffer

-- "both INVITE columns ignore the same"
abbrev pub SameIgnored : Type 0
SameIgnored = (n : ℕ) → ignored (some Reinvite) n ≡ ignored (some Invite) n

-- the fields of that number, and the others
unfoldable pub only : ℕ → List Entry → List Entry
only n [] = []
only n (e ∷ es) = let others = only n es in cond (eqb e.number n) (e ∷ others) others

unfoldable pub without : ℕ → List Entry → List Entry
without n [] = []
without n (e ∷ es) = let others = without n es in cond (eqb e.number n) others (e ∷ others)

-- CR 6: a message that no reason but 1, 16 and 18 refuses, and that does not ignore P-Asserted-Identity, has allowed identities: none, one, or one
-- sip and one tel. (That an initial INVITE has one at all is reason 12's.)
abbrev pub OnlyAllowed : Type 0
OnlyAllowed =
    (m : List ℕ) (l : Start) (h : Header) (r : Passed) → lines m ≡ read l h → judgement m ≡ accepted r
    → ignored (message_column l h.fields) 15 ≡ false → IdentitiesAllowed h.fields

-- and a message that has allowed identities, or ignores P-Asserted-Identity, is never refused with 10 and detail 15
pub record NotForThem (m : List ℕ) : Type 0 where
  pub never_10_15 :
      (side : ℕ) (table buffer : List ℕ) → (screened m side table buffer).answer.reason ≡ 10
      → (screened m side table buffer).answer.detail ≡ 15 → ⊥

abbrev pub AllowedPass : Type 0
AllowedPass = (m : List ℕ) (l : Start) (h : Header) → lines m ≡ read l h → IdentitiesAllowed h.fields → NotForThem m

abbrev pub IgnoredPass : Type 0
IgnoredPass = (m : List ℕ) (l : Start) (h : Header) → lines m ≡ read l h → ignored (message_column l h.fields) 15 ≡ true → NotForThem m

-- CR 6: "a third identity, or two of one scheme, is 10 with detail 15 at the field that brings it": where no field before it is malformed, a
-- P-Asserted-Identity up to which the identities are not allowed is the first malformed field, whatever follows
abbrev pub FieldThatBringsIt : Type 0
FieldThatBringsIt =
    (method : List ℕ) (c : Option Column) (before after : List Field) (f : Field) → ignored c 15 ≡ false → number_of f.name ≡ 15
    → first_malformed method [] (kept c before) ≡ 0 → (IdentitiesAllowed (before ++ f ∷ []) → ⊥)
    → first_malformed method [] (kept c (before ++ f ∷ after)) ≡ 15

-- CR 6: "reason 9 never names 15"
abbrev pub NeverRepeated : Type 0
NeverRepeated =
    (m : List ℕ) (side : ℕ) (table buffer : List ℕ) → (screened m side table buffer).answer.reason ≡ 9
    → (screened m side table buffer).answer.detail ≡ 15 → ⊥

-- CR 6: "When withheld on side 1, all of them go", and so with a remembered pair (CR 8): where no reason 18 refuses it, what goes out is what goes
-- out of a message with the same other fields and no P-Asserted-Identity
abbrev pub AllGo : Type 0
AllGo =
    (m : List ℕ) (r : Passed) (table : List ℕ) → judgement m ≡ accepted r → masks 1 table r ≡ true
    → verdict m 1 table
    ≡ cond (overfills 1 table r) (refuses (refusal 18 503 0 0))
    (sends r.line (output true (record { line = r.line; fields = without 15 r.fields; body = r.body })) (calls_after 1 table r))

-- CR 8: "Any accepted request to side 1 with a remembered pair .. has From masked and P-Asserted-Identity dropped": of every method
abbrev pub RememberedMasked : Type 0
RememberedMasked =
    (m : List ℕ) (l : RequestLine) (r : Passed) (table : List ℕ) → judgement m ≡ accepted r → r.line ≡ request l
    → is_held (call_of r.fields) table ≡ true → verdict m 1 table ≡ sends (request l) (output true r) (calls_after 1 table r)

-- CR 6: of a message that no reason but 1, 16 and 18 refuses and that does not ignore P-Asserted-Identity, with a good trunk number, the calling
-- number is that of the sip identity, or of the only one; where it asserts none it is the trunk number
pub record CallingRead (m trunk : List ℕ) (us : List UriParts) : Type 0 where
  pub from_identity : (u : UriParts) → Calling us u → calling_number m trunk ≡ person_of u
  pub from_trunk : us ≡ [] → calling_number m trunk ≡ trunk

abbrev pub SipCalls : Type 0
SipCalls =
    (m trunk : List ℕ) (l : Start) (h : Header) (r : Passed) (us : List UriParts) → lines m ≡ read l h → judgement m ≡ accepted r
    → ignored (message_column l h.fields) 15 ≡ false → is_global trunk ≡ true → Asserting h.fields us → CallingRead m trunk us

-- where P-Asserted-Identity is ignored it is the trunk number
abbrev pub IgnoredCalls : Type 0
IgnoredCalls =
    (m trunk : List ℕ) (l : Start) (h : Header) (r : Passed) → lines m ≡ read l h → judgement m ≡ accepted r
    → ignored (message_column l h.fields) 15 ≡ true → is_global trunk ≡ true → calling_number m trunk ≡ trunk

-- "hands back a part of one of them": the part of the message, or of the trunk number, that is handed back is the calling number
abbrev pub CallingPart : Type 0
CallingPart = (m trunk : List ℕ) → calling_part m trunk ≡ calling_number m trunk

-- CR 5, "The digits cannot show": of two callers, on side 1 and with the same buffer, "The whole answer and the buffer afterwards are then the
-- same." The answer is its five numbers; refusals are answers too. CR 8: "CR 5 read with the same table before; the table after is part of the
-- answer"
abbrev pub DigitsHidden : Type 0
DigitsHidden = (m m' table buffer : List ℕ) → TwoCallers m m' → screened m' 1 table buffer ≡ screened m 1 table buffer

-- "both withheld": either of the two may be called the first
abbrev pub EitherWay : Type 0
EitherWay = (m m' : List ℕ) → TwoCallers m m' → TwoCallers m' m

-- No value is left out of CR 5: any two values of From that `screened` takes for well formed, with one tag, may stand in two callers; and the
-- identities of a message are allowed where `screened` takes none of its P-Asserted-Identity fields for malformed
pub record AnyValue : Type 1 where
  pub of_from :
      (BothAllowed : Type 0) (f : Field) (w : List ℕ) (fs gs : List Field) → number_of f.name ≡ 3 → is_from (canonical f.value) ≡ true
      → is_from (canonical w) ≡ true → tag_of (canonical w) ≡ tag_of (canonical f.value) → OtherCaller BothAllowed fs gs
      → OtherCaller BothAllowed (f ∷ fs) (with_value f w ∷ gs)
  pub of_identities : (method : List ℕ) (fs : List Field) → first_malformed method [] (only 15 (kept none fs)) ≡ 0 → IdentitiesAllowed fs

-- no pair that reads: two messages with the same bytes before their fields and after them are two callers where the fields are so related,
-- the method is INVITE, and the first is withheld as `screened` takes it
abbrev pub EveryPair : Type 0
EveryPair =
    (m m' : List ℕ) (l : RequestLine) (h h' : Header) → lines m ≡ read (request l) h → lines m' ≡ read (request l) h'
    → take (start_size (request l)) m ≡ take (start_size (request l)) m' → h.rest ≡ h'.rest
    → OtherCaller (IdentitiesAllowed h.fields × IdentitiesAllowed h'.fields) h.fields h'.fields
    → l.method ≡ text "INVITE" → withheld (kept_of (request l) h.fields) ≡ true → TwoCallers m m'

-- and nothing else is in it: both messages read as the lines that it speaks of, or both have more than 96 fields (reason 5)
pub record CallersRead (m m' : List ℕ) (c : TwoCallers m m') : Type 0 where
  pub first_reads : lines m ≡ header_lines (request c.line) (some (record { fields = c.fields; rest = c.rest }))
  pub second_reads : lines m' ≡ header_lines (request c.line) (some (record { fields = c.fields'; rest = c.rest }))
  pub as_many : length c.fields' ≡ length c.fields

abbrev pub NoOtherPair : Type 0
NoOtherPair = (m m' : List ℕ) (c : TwoCallers m m') → CallersRead m m' c

-- CR 1: the calling number of an accepted response is the trunk number, since its P-Asserted-Identity is ignored
abbrev pub ResponseCalling : Type 0
ResponseCalling =
    (m trunk : List ℕ) (l : StatusLine) (r : Passed) → start m ≡ some (response l) → judgement m ≡ accepted r → is_global trunk ≡ true
    → calling_number m trunk ≡ trunk

-- "The output is always fewer than 1,024 bytes longer than the message."
abbrev pub Growth : Type 0
Growth = (m : List ℕ) (r : Passed) (masked : Bool) → judgement m ≡ accepted r → length (output masked r) < length m + 1024

-- ---- "Useless versions: one that refuses everything, one fixed answer, and one that leaves the buffer untouched"

abbrev pub NotConstant : Type 0
NotConstant = (a : Answer) → ((m : List ℕ) (side : ℕ) (table buffer : List ℕ) → (screened m side table buffer).answer ≡ a) → ⊥

abbrev pub NotRefusing : Type 0
NotRefusing = ((m : List ℕ) (side : ℕ) (table buffer : List ℕ) → 0 < (screened m side table buffer).answer.reason) → ⊥

abbrev pub NotUntouched : Type 0
NotUntouched = ((m : List ℕ) (side : ℕ) (table buffer : List ℕ) → (screened m side table buffer).buffer ≡ buffer) → ⊥

-- and one that remembers nothing
abbrev pub NotForgetful : Type 0
NotForgetful = ((m : List ℕ) (side : ℕ) (table buffer : List ℕ) → (screened m side table buffer).table ≡ table) → ⊥

-- one that does not look at the table when it writes
abbrev pub NotBlind : Type 0
NotBlind =
    ((m : List ℕ) (side : ℕ) (table other buffer : List ℕ) → (screened m side table buffer).buffer ≡ (screened m side other buffer).buffer) → ⊥
