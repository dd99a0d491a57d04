-- Document 01, "Refusal numbers, first that applies", and those of CR 1 for responses.
use Rattle.std.specs.Prelude.{Bool, true, false, not, cond, ◌&&◌, ◌||◌, List, [], ◌∷◌, ◌++◌, ℕ, leb, ltb, eqb, length, take, drop}
use Rattle.std.proofs.Math.Option.{Option, none, some}
use Rattle.octets.specs.Classes.{text, within, among, is_token}
use Rattle.octets.specs.Scans.{run, all, decimal, same, same_text}
use Rattle.sip.specs.declared.Column.{Column}
use Rattle.sip.specs.declared.Column.TheVariants.{Invite, Reinvite, Ack, Bye, Cancel, Options, InviteSuccess, CancelResponse, OtherResponse}
use Rattle.sip.specs.Lines.{RequestLine, StatusLine, Start, request, response, start, start_size, Field, Header, header, canonical}
use Rattle.sip.specs.Profile.{number_of, once, column_of, response_column, ignored, mandatory, numbers}
use Rattle.sip.specs.Values.{is_empty, is_max_forwards, is_content_length, is_cseq, cseq_method, is_call_id, uri, is_from, is_to, is_tagged}
use Rattle.sip.specs.Values.{is_asserted, schemes, allowed, is_privacy, restricts, is_require, required_tags, first_place, is_lacking, person}
use Rattle.sip.specs.Values.{is_called}

-- "The answer has reason, reply, detail, missing count and length; each is 0 where not said here."
pub record Answer : Type 0 where
  pub reason : ℕ
  pub reply : ℕ
  pub detail : ℕ
  pub missing : ℕ
  pub length : ℕ

abbrev pub refusal : ℕ → ℕ → ℕ → ℕ → Answer
refusal reason reply detail missing = record { reason = reason; reply = reply; detail = detail; missing = missing; length = 0 }

-- "Reply 0 means send nothing. For ACK it is always 0." CR 1, of responses: "reply always 0"
abbrev pub silent : Start → Bool
silent (request l) = same (text "ACK") l.method
silent (response l) = true

unfoldable pub replied : Start → Answer → Answer
replied l a = cond (silent l) (refusal a.reason 0 a.detail a.missing) a

-- ---- reasons 2 to 5: the lines

-- the lines of a message, or the reason why they are not read
pub data Lines : Type 0 where
  unread : ℕ → Lines
  read : Start → Header → Lines

abbrev pub header_lines : Start → Option Header → Lines
header_lines l none = unread 4
header_lines l (some h) = cond (leb (length h.fields) 96) (read l h) (unread 5)

abbrev pub start_lines : List ℕ → Option Start → Lines
start_lines m none = unread 3
start_lines m (some l) = header_lines l (header 0 (drop (start_size l) m))

unfoldable pub lines : List ℕ → Lines
lines m = cond (leb (length m) 8192) (start_lines m (start m)) (unread 2)

-- ---- the kept fields: those that are not ignored, in message order. "Reasons 9 to 14 look only at fields not ignored."

-- a kept field: its number and its canonical value
pub record Entry : Type 0 where
  pub number : ℕ
  pub value : List ℕ

unfoldable pub kept : Option Column → List Field → List Entry
kept c [] = []
kept c (f ∷ fs) =
    let n = number_of f.name in
    let others = kept c fs in
    cond (ignored c n) others (record { number = n; value = canonical f.value } ∷ others)

-- the value of the first kept field of that number
unfoldable pub value_of : ℕ → List Entry → Option (List ℕ)
value_of n [] = none
value_of n (e ∷ es) = let other = value_of n es in cond (eqb e.number n) (some e.value) other

unfoldable pub occurs : ℕ → List Entry → Bool
occurs n [] = false
occurs n (e ∷ es) = eqb e.number n || occurs n es

abbrev or_false : (List ℕ → Bool) → Option (List ℕ) → Bool
or_false p none = false
or_false p (some v) = p v

-- "An INVITE uses "re" exactly if its To has a tag."
unfoldable pub to_tagged : List Entry → Bool
to_tagged es = or_false is_tagged (value_of 4 es)

-- CR 2: "Withheld exactly if Privacy is not ignored and holds any of the three, letter case free."
unfoldable pub withheld : List Entry → Bool
withheld es = or_false restricts (value_of 16 es)

-- what Content-Length says, where it is given
unfoldable pub content_length : List Entry → Option ℕ
content_length es = elim (value_of 8 es) [ none ↦ none | some v ↦ some (decimal 0 v) ]

-- "The rest is the body, cut to Content-Length where that is given."
unfoldable pub body_of : List Entry → List ℕ → List ℕ
body_of es rest = elim (content_length es) [ none ↦ rest | some n ↦ take n rest ]

-- ---- the reasons from 7 on; each is the refusal where it applies

abbrev pub when : Bool → Answer → Option Answer
when true a = some a
when false a = none

-- "scheme (all before the first colon) is a token but neither sip nor tel in any case"
unfoldable pub other_scheme : List ℕ → Bool
other_scheme u =
    let n = run (λ (b : ℕ). not (eqb b 58)) u in
    let scheme = take n u in
    ltb n (length u) && (not (is_empty scheme) && (all is_token scheme && not (same_text (text "sip") scheme || same_text (text "tel") scheme)))

unfoldable pub reason7 : RequestLine → Option Answer
reason7 l = when (other_scheme l.uri) (refusal 7 416 0 0)

-- "Request-URI otherwise malformed"
unfoldable pub is_uri : List ℕ → Bool
is_uri u = let n = (uri u).size in not (eqb n 0) && eqb n (length u)

unfoldable pub reason8 : RequestLine → Option Answer
reason8 l = when (not (is_uri l.uri)) (refusal 8 400 0 0)

-- "the number of the first field that repeats an earlier one", of those "without "yes""; `earlier` are the numbers before. 0: there is none
unfoldable pub first_repeat : List ℕ → List Entry → ℕ
first_repeat earlier [] = 0
first_repeat earlier (e ∷ es) =
    let later = first_repeat (e.number ∷ earlier) es in
    cond (once e.number && among earlier e.number) e.number later

unfoldable pub reason9 : List Entry → Option Answer
reason9 es = let n = first_repeat [] es in when (not (eqb n 0)) (refusal 9 400 n 0)

-- the value of that field is well formed: document 01, "Values that are read", and CR 6 of P-Asserted-Identity
unfoldable pub well_formed : List ℕ → ℕ → List ℕ → Bool
well_formed method n v =
    cond (eqb n 1 || (eqb n 7 || (eqb n 9 || (eqb n 10 || (eqb n 11 || eqb n 18))))) (not (is_empty v))
    (cond (eqb n 2) (is_max_forwards v)
    (cond (eqb n 3) (is_from v)
    (cond (eqb n 4) (is_to v)
    (cond (eqb n 5) (is_call_id v)
    (cond (eqb n 6) (is_cseq method v)
    (cond (eqb n 8) (is_content_length v)
    (cond (eqb n 14) (is_require v)
    (cond (eqb n 15) (is_asserted v)
    (cond (eqb n 16) (is_privacy v) true)))))))))

-- the identities that a field brings, by whether each is a tel URI: those of a P-Asserted-Identity; other fields bring none
unfoldable pub brought : Entry → List Bool
brought e = cond (eqb e.number 15) (schemes e.value) []

-- "of the first malformed one". 0: there is none. CR 6: "a third identity, or two of one scheme, is 10 with detail 15 at the field that brings
-- it"; `earlier` are the identities that the fields before have brought
unfoldable pub first_malformed : List ℕ → List Bool → List Entry → ℕ
first_malformed method earlier [] = 0
first_malformed method earlier (e ∷ es) =
    let so_far = earlier ++ brought e in
    let later = first_malformed method so_far es in
    cond (well_formed method e.number e.value && allowed so_far) later e.number

unfoldable pub reason10 : List ℕ → List Entry → Option Answer
reason10 method es = let n = first_malformed method [] es in when (not (eqb n 0)) (refusal 10 400 n 0)

-- "Content-Length exceeds the bytes there"
unfoldable pub exceeds : List Entry → List ℕ → Bool
exceeds es rest = elim (content_length es) [ none ↦ false | some n ↦ ltb (length rest) n ]

unfoldable pub reason11 : List Entry → List ℕ → Option Answer
reason11 es rest = when (exceeds es rest) (refusal 11 400 0 0)

-- the mandatory numbers that do not occur, of those listed
unfoldable pub missing_of : Column → Bool → List Entry → List ℕ → List ℕ
missing_of c empty es [] = []
missing_of c empty es (n ∷ ns) =
    let others = missing_of c empty es ns in
    cond (mandatory c empty n && not (occurs n es)) (n ∷ others) others

abbrev pub head_or : ℕ → List ℕ → ℕ
head_or n [] = n
head_or n (k ∷ ks) = k

-- "the lowest missing number, and the missing count says how many numbers are missing"
unfoldable pub reason12 : Column → List Entry → List ℕ → Option Answer
reason12 c es rest =
    let ns = missing_of c (is_empty (body_of es rest)) es numbers in
    when (not (is_empty ns)) (refusal 12 400 (head_or 0 ns) (length ns))

-- "Max-Forwards is 0"
unfoldable pub no_hops : List Entry → Bool
no_hops es = or_false (λ (v : List ℕ). eqb (decimal 0 v) 0) (value_of 2 es)

unfoldable pub reason13 : List Entry → Option Answer
reason13 es = when (no_hops es) (refusal 13 483 0 0)

-- the tags of all Require fields
unfoldable pub all_tags : List Entry → List (List ℕ)
all_tags [] = []
all_tags (e ∷ es) = let others = all_tags es in cond (eqb e.number 14) (required_tags e.value ++ others) others

-- "the place of the first lacking tag, from 1, over all Require fields". 0: there is none
unfoldable pub first_lacking : List Entry → ℕ
first_lacking es = first_place is_lacking 0 (all_tags es)

unfoldable pub reason14 : List Entry → Option Answer
reason14 es = let n = first_lacking es in when (not (eqb n 0)) (refusal 14 420 n 0)

-- "Called number (initial INVITE only)"
abbrev pub is_initial : Column → Bool
is_initial Invite = true
is_initial Reinvite = false
is_initial Ack = false
is_initial Bye = false
is_initial Cancel = false
is_initial Options = false
is_initial InviteSuccess = false
is_initial CancelResponse = false
is_initial OtherResponse = false

unfoldable pub reason15 : Column → RequestLine → Option Answer
reason15 c l = when (is_initial c && not (is_called (person (uri l.uri) l.uri))) (refusal 15 484 0 0)

-- ---- "first that applies"

abbrev pub first_of : List (Option Answer) → Option Answer
first_of [] = none
first_of (none ∷ rs) = first_of rs
first_of (some a ∷ rs) = some a

unfoldable pub reasons : Column → RequestLine → List Entry → List ℕ → List (Option Answer)
reasons c l es rest =
    reason7 l ∷ reason8 l ∷ reason9 es ∷ reason10 l.method es ∷ reason11 es rest ∷ reason12 c es rest ∷ reason13 es ∷ reason14 es ∷ reason15 c l ∷ []

-- CR 1, of responses: "then 9 to 12"; "Require is not judged"
unfoldable pub response_reasons : Column → List ℕ → List Entry → List ℕ → List (Option Answer)
response_reasons c method es rest = reason9 es ∷ reason10 method es ∷ reason11 es rest ∷ reason12 c es rest ∷ []

-- a message that no reason but 1, 16 and 18 refuses: its start line, its kept fields and its body
pub record Passed : Type 0 where
  pub line : Start
  pub fields : List Entry
  pub body : List ℕ

pub data Judgement : Type 0 where
  refused : Answer → Judgement
  accepted : Passed → Judgement

abbrev settled : Start → Passed → Option Answer → Judgement
settled l r none = accepted r
settled l r (some a) = refused (replied l a)

abbrev pub passed : Start → List Entry → List ℕ → Passed
passed l es rest = record { line = l; fields = es; body = body_of es rest }

-- of a request, reasons 6 to 15
unfoldable pub judged_request : RequestLine → List Entry → List ℕ → Judgement
judged_request l es rest =
    elim (column_of l.method (to_tagged es)) [
      | none ↦ refused (refusal 6 405 0 0)
      | some c ↦ settled (request l) (passed (request l) es rest) (first_of (reasons c l es rest))
    ]

abbrev method_or_empty : Option (List ℕ) → List ℕ
method_or_empty none = []
method_or_empty (some v) = cseq_method v

-- the method that the first CSeq names; empty where that is absent or malformed
unfoldable pub first_cseq_method : List Entry → List ℕ
first_cseq_method es = method_or_empty (value_of 6 es)

abbrev pub status_of : StatusLine → ℕ
status_of l = decimal 0 l.code

-- the column of a response; none for "an absent or malformed first CSeq or an unknown method"
unfoldable pub response_column_of : StatusLine → List Entry → Option Column
response_column_of l es = response_column (within 200 299 (status_of l)) (first_cseq_method es)

-- CR 1: "a status outside 100 to 699 is 17 and comes after 5, an absent or malformed first CSeq or an unknown method (here ACK too) is 6
-- .., then 9 to 12". Every column keeps CSeq, so that the first among the kept fields is the first of all
unfoldable pub judged_response : StatusLine → List Entry → List ℕ → Judgement
judged_response l es rest =
    let known : Judgement =
    elim (response_column_of l es) [
      | none ↦ refused (refusal 6 0 0 0)
      | some c ↦ settled (response l) (passed (response l) es rest) (first_of (response_reasons c (first_cseq_method es) es rest))
    ]
    in
    cond (within 100 699 (status_of l)) known (refused (refusal 17 0 0 0))

-- reasons 6 to 15 and 17: of the start line, the kept fields and the rest of the message alone
abbrev pub judged : Start → List Entry → List ℕ → Judgement
judged (request l) es rest = judged_request l es rest
judged (response l) es rest = judged_response l es rest

-- the column by which fields are ignored. Of a request it is the method's: "both INVITE columns ignore the same", so the tag is not asked
-- for. Of a response it is that of its status and of its first CSeq among all listed fields; without a column, "only unlisted names are
-- ignored there"
abbrev pub message_column : Start → List Field → Option Column
message_column (request l) fs = column_of l.method false
message_column (response l) fs = response_column_of l (kept none fs)

abbrev pub kept_of : Start → List Field → List Entry
kept_of l fs = kept (message_column l fs) fs

abbrev judged_lines : Lines → Judgement
judged_lines (unread r) = refused (refusal r 0 0 0)
judged_lines (read l h) = judged l (kept_of l h.fields) h.rest

-- reasons 2 to 15 and 17: of the message alone
unfoldable pub judgement : List ℕ → Judgement
judgement m = judged_lines (lines m)
