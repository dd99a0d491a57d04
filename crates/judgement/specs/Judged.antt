-- What the code decides, said of the tally: a kept field that is taken up, the reasons 6 to 15 and 17, and the answer.
use Rattle.std.specs.Prelude.{Bool, true, false, not, cond, ◌&&◌, List, [], ◌∷◌, ◌++◌, ℕ, ◌+◌, ◌-◌, eqb, ltb, length, take, drop}
use Rattle.std.specs.Prelude.{Option as RustOption, Some, None, Result, Ok, Err}
use Rattle.std.proofs.Math.Option.{Option, none, some}
use Rattle.octets.specs.Classes.{text, within}
use Rattle.octets.specs.Scans.{number, same}
use Rattle.sip.specs.declared.Column.{Column}
use Rattle.sip.specs.declared.Column.TheVariants.{Invite, Reinvite, Ack, Bye, Cancel, Options, InviteSuccess, CancelResponse, OtherResponse}
use Rattle.sip.specs.Profile.{response_column}
use Rattle.sip.specs.Readings.{no_span}
use Rattle.sip.specs.Values.{cseq_method}
use Rattle.sip.specs.Refusals.{Answer, refusal, when, is_initial, first_of}
use Rattle.lines.specs.declared.Slot.{Slot}
use Rattle.lines.specs.Index.{index, Head}
use Rattle.values.specs.Answers.{request_uri}
use Rattle.values.specs.declared.RequestUri.{RequestUri}
use Rattle.judgement.specs.declared.Refusal.{Refusal}
use Rattle.judgement.specs.declared.Refused.{Refused}
use Rattle.judgement.specs.declared.Tally.{Tally}
use Rattle.judgement.specs.declared.Judged.{Judged}
use Rattle.judgement.specs.Sets.{has, kept_set, column_at, lack_at}
use Rattle.judgement.specs.Entries.{value_at, first_slot, entries_from}
use Rattle.judgement.specs.Tallies.{finding, noted, no_tally, tallied}

-- the tally with the field of a slot, where it is kept
unfoldable pub taken_up : List ℕ → ℕ → List ℕ → Tally → Slot → Tally
taken_up method kept m t s = cond (has kept s.number) (noted t s.number (finding method s.number (value_at m s))) t

-- ---- the reasons

-- the body after cutting has so many bytes, where `rest` bytes are there
unfoldable pub body_length : Tally → ℕ → ℕ
body_length t rest = cond (has t.seen 8) t.length rest

-- "Content-Length exceeds the bytes there"
unfoldable pub is_too_long : Tally → ℕ → Bool
is_too_long t rest = has t.seen 8 && ltb rest t.length

-- "Max-Forwards is 0"
unfoldable pub hopless : Tally → Bool
hopless t = has t.seen 2 && eqb t.hops 0

-- the column of a request whose To has a tag or not
abbrev pub column_tagged : Column → Bool → Column
column_tagged Invite tagged = cond tagged Reinvite Invite
column_tagged Reinvite tagged = Reinvite
column_tagged Ack tagged = Ack
column_tagged Bye tagged = Bye
column_tagged Cancel tagged = Cancel
column_tagged Options tagged = Options
column_tagged InviteSuccess tagged = InviteSuccess
column_tagged CancelResponse tagged = CancelResponse
column_tagged OtherResponse tagged = OtherResponse

-- of a request, reasons 7 and 8
unfoldable pub early : RequestUri → List (Option Answer)
early u = when u.other (refusal 7 416 0 0) ∷ when (not u.good) (refusal 8 400 0 0) ∷ []

-- of both kinds, reasons 9 to 12, where `rest` bytes are there
unfoldable pub shared : Column → Tally → ℕ → List (Option Answer)
shared c t rest =
    let lack = lack_at c (eqb (body_length t rest) 0) t.seen in
    when (not (eqb t.again 0)) (refusal 9 400 t.again 0)
    ∷ when (not (eqb t.malformed 0)) (refusal 10 400 t.malformed 0)
    ∷ when (is_too_long t rest) (refusal 11 400 0 0)
    ∷ when (not (eqb lack.count 0)) (refusal 12 400 lack.lowest lack.count)
    ∷ []

-- of a request, reasons 13 to 15
unfoldable pub late : Column → Tally → RequestUri → List (Option Answer)
late c t u =
    when (hopless t) (refusal 13 483 0 0)
    ∷ when (not (eqb t.lacking 0)) (refusal 14 420 t.lacking 0)
    ∷ when (is_initial c && not u.called) (refusal 15 484 0 0)
    ∷ []

unfoldable pub decided : Column → Tally → RequestUri → ℕ → List (Option Answer)
decided c t u rest = let d = column_tagged c (not (eqb t.tagged 0)) in early u ++ (shared d t rest ++ late d t u)

-- ---- the answer

-- the refusal that an answer of the pages is
abbrev pub refusal_of : Answer → Refusal
refusal_of a = record { reason = a.reason; reply = a.reply; detail = a.detail; missing = a.missing }

-- what asking the reasons comes to: the first that applies refuses
abbrev pub checked : Option Answer → Result Unit Refusal
checked none = Ok tt
checked (some a) = Err (refusal_of a)

-- a refusal that says no more than its reason and its reply
abbrev pub bare : ℕ → ℕ → Refusal
bare reason reply = record { reason = reason; reply = reply; detail = 0; missing = 0 }

-- "For ACK it is always 0." Of responses: "reply always 0"
abbrev pub silenced : Bool → Refusal → Refusal
silenced true r = record { reason = r.reason; reply = 0; detail = r.detail; missing = r.missing }
silenced false r = r

-- what a message says, by its lines and by what its kept fields say
abbrev pub found_by : Head → Bool → ℕ → ℕ → Tally → ℕ → Judged
found_by h silent before kept t rest =
    record {
      silent = silent;
      before = before;
      line = h.line;
      rest = h.rest;
      count = h.count;
      kept = kept;
      hops = t.hops;
      body = body_length t rest;
      withheld = not (eqb t.withheld 0);
      tag = t.tag;
      caller = t.caller;
    }

-- a refusal before the kept fields are looked at
abbrev pub bare_refused : ℕ → ℕ → Refused
bare_refused reason reply =
    record {
      refusal = bare reason reply;
      found =
          record {
            silent = false;
            before = 0;
            line = 0;
            rest = 0;
            count = 0;
            kept = 0;
            hops = 0;
            body = 0;
            withheld = false;
            tag = no_span;
            caller = None;
          };
    }

-- by the first reason that applies and by what the kept fields say
unfoldable pub judged_from : Head → Bool → ℕ → ℕ → Result Unit Refusal → Tally → ℕ → Result Judged Refused
judged_from h silent before kept (Ok u) t rest = Ok (found_by h silent before kept t rest)
judged_from h silent before kept (Err r) t rest = Err (record { refusal = silenced silent r; found = found_by h silent before kept t rest })

-- of a request, by the column, the method, the Request-URI and what the kept fields say
unfoldable pub request_by : Head → Column → List ℕ → RequestUri → Tally → ℕ → Result Judged Refused
request_by h c method u t rest =
    judged_from h (same (text "ACK") method) (h.method + 1 + h.uri + 1) (kept_set c) (checked (first_of (decided c t u rest))) t rest

-- of a response
unfoldable pub response_by : Head → Column → Tally → ℕ → Result Judged Refused
response_by h c t rest = judged_from h true 0 (kept_set c) (checked (first_of (shared c t rest))) t rest

-- of either kind, by the column and the method; a response has no method in its start line
unfoldable pub judged_by : List ℕ → List ℕ → Head → Column → List ℕ → Result Judged Refused
judged_by m ns h c method =
    let t = tallied method no_tally (entries_from (kept_set c) m ns h.count 0) in
    let rest = length m - h.rest in
    cond (eqb h.method 0) (response_by h c t rest) (request_by h c method (request_uri (take h.uri (drop (h.method + 1) m))) t rest)

-- ---- the column of a request

abbrev pub request_as : List ℕ → List ℕ → Head → RustOption Column → Result Judged Refused
request_as m ns h None = Err (bare_refused 6 405)
request_as m ns h (Some c) = judged_by m ns h c (take h.method m)

unfoldable pub request_lines : List ℕ → List ℕ → Head → Result Judged Refused
request_lines m ns h = request_as m ns h (column_at (take h.method m))

-- ---- the column of a response

-- the status: three digits after the version and its space
unfoldable pub status_at : List ℕ → ℕ
status_at m = (number 3 999 (take 3 (drop 8 m))).value

-- a status, where it is one of 100 to 699
abbrev pub known_status : ℕ → RustOption ℕ
known_status n = cond (within 100 699 n) (Some n) None

-- the method that the CSeq of a slot names; empty where it is malformed, and where there is no slot
unfoldable pub method_at : List ℕ → Slot → List ℕ
method_at m s = cseq_method (value_at m s)

abbrev pub response_as : List ℕ → List ℕ → Head → List ℕ → Option Column → Result Judged Refused
response_as m ns h method none = Err (bare_refused 6 0)
response_as m ns h method (some c) = judged_by m ns h c method

-- by the status and the method
unfoldable pub response_to : List ℕ → List ℕ → Head → ℕ → List ℕ → Result Judged Refused
response_to m ns h status method = response_as m ns h method (response_column (within 200 299 status) method)

unfoldable pub response_lines : List ℕ → List ℕ → Head → Result Judged Refused
response_lines m ns h =
    let known = response_to m ns h (status_at m) (method_at m (first_slot 6 ns h.count 0)) in
    cond (within 100 699 (status_at m)) known (Err (bare_refused 17 0))

-- ---- a message by its lines and slots

unfoldable pub judged_lines : List ℕ → List ℕ → Head → Result Judged Refused
judged_lines m ns h = cond (eqb h.method 0) (response_lines m ns h) (request_lines m ns h)

-- "Refusal numbers, first that applies": 2 to 15 and 17
unfoldable pub judged_message : List ℕ → Result Judged Refused
judged_message m =
    let h = (index m).head in
    let ns = (index m).slots in
    cond (eqb h.reason 0) (judged_lines m ns h) (Err (bare_refused h.reason 0))
