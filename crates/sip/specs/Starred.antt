-- Document 01, "A call in full": the call, its starred changes, and what each gives.
use Rattle.std.specs.Prelude.{◌≡◌, List, [], ◌∷◌, ◌++◌, ℕ, zero, suc, drop}
use Prim.Native.String.{String}
use Rattle.octets.specs.Classes.{text}
use Rattle.causes.specs.Causes.{status, cause}
use Rattle.sip.specs.Lines.{crlf}
use Rattle.sip.specs.Refusals.{Answer, refusal}
use Rattle.sip.specs.Calls.{none_held}
use Rattle.sip.specs.Screen.{Screened, screened}
use Rattle.sip.specs.Readings.{count, calling_number}

-- "lines end in CRLF, the empty line last"
unfoldable pub lines_of : List String → List ℕ
lines_of [] = crlf
lines_of (l ∷ ls) = text l ++ (crlf ++ lines_of ls)

-- the call with these lines for its start line, Max-Forwards, From, P-Asserted-Identity and Content-Length
unfoldable pub call_with : String → String → List String → String → String → List ℕ
call_with line forwards from asserted cut =
    lines_of
    (line ∷ "v: SIP/2.0/UDP relay.example;branch=z9hG4bK7" ∷ forwards
    ∷ (from ++ ("t: <sip:+33123456789@gw.example>" ∷ "i: 9x@relay.example" ∷ "CSeq: 1 INVITE" ∷ "m: <sip:relay.example>"
    ∷ "Allow: INVITE, ACK, BYE" ∷ "X-Relay-Mode: text" ∷ asserted ∷ "Privacy: id" ∷ cut ∷ [])))

abbrev pub invite : String
invite = "INVITE sip:+33123456789@gw.example SIP/2.0"

abbrev pub hops : String
hops = "Max-Forwards: 70"

abbrev pub caller : List String
caller = "f: <sip:+33187654321@relay.example>;tag=a1" ∷ []

abbrev pub identity : String
identity = "P-Asserted-Identity: <sip:+33187654321@relay.example>"

abbrev pub no_body : String
no_body = "l: 0"

-- the call
unfoldable pub call : List ℕ
call = call_with invite hops caller identity no_body

-- what it prints after its numbers, with this start line
unfoldable pub printed : String → List ℕ
printed line =
    lines_of
    (line ∷ "Via: SIP/2.0/UDP relay.example;branch=z9hG4bK7" ∷ "Max-Forwards: 69"
    ∷ "From: \"Anonymous\" <sip:anonymous@anonymous.invalid>;tag=a1" ∷ "To: <sip:+33123456789@gw.example>" ∷ "Call-ID: 9x@relay.example"
    ∷ "CSeq: 1 INVITE" ∷ "Contact: <sip:relay.example>" ∷ "Allow: INVITE, ACK, BYE" ∷ "Privacy: id" ∷ "Content-Length: 0" ∷ [])

-- a buffer of n bytes
unfoldable pub blank_buffer : ℕ → List ℕ
blank_buffer zero = []
blank_buffer (suc n) = 0 ∷ blank_buffer n

-- what a row tells of a screening: the answer and the buffer afterwards
pub record Given : Type 0 where
  pub answer : Answer
  pub buffer : List ℕ

abbrev pub given : Screened → Given
given s = record { answer = s.answer; buffer = s.buffer }

abbrev pub refusing : Answer → List ℕ → Given
refusing a buffer = record { answer = a; buffer = buffer }

-- a row: a message, its side, the buffer, and what it gives; a message, the trunk number, and the calling number; a message, a field's
-- number, and its count; a cause, its status and (CR 4) its row; a status and its cause
pub data Case : Type 0 where
  screening : List ℕ → ℕ → List ℕ → Given → Case
  calling : List ℕ → List ℕ → List ℕ → Case
  counting : List ℕ → ℕ → ℕ → Case
  cause_gives : ℕ → ℕ → ℕ → Case
  status_gives : ℕ → ℕ → Case

-- no calls are remembered before a screening (CR 8)
abbrev pub Holds : Case → Type 0
Holds (screening m side buffer gives) = given (screened m side none_held buffer) ≡ gives
Holds (calling m trunk gives) = calling_number m trunk ≡ gives
Holds (counting m n gives) = count m n ≡ gives
Holds (cause_gives c s r) = status c ≡ record { status = s; row = r; refusal = 0 }
Holds (status_gives s c) = cause s ≡ record { cause = c; refusal = 0 }

-- on side 1, "with a buffer of 9,216 bytes"
abbrev pub refuses : List ℕ → ℕ → ℕ → ℕ → ℕ → Case
refuses m reason reply detail missing = screening m 1 (blank_buffer 9216) (refusing (refusal reason reply detail missing) (blank_buffer 9216))

-- the n bytes o go out, and the other bytes of the buffer stay
abbrev pub sends : List ℕ → ℕ → List ℕ → Case
sends m n o =
    screening m 1 (blank_buffer 9216)
    (record { answer = record { reason = 0; reply = 0; detail = 0; missing = 0; length = n }; buffer = o ++ drop n (blank_buffer 9216) })

abbrev shortest : String
shortest = "INVITE sip:+3312345@gw.example SIP/2.0"

unfoldable pub starred : List Case
starred =
    -- *none
    sends call 337 (printed invite)
    -- *empty message: 3
    ∷ refuses [] 3 0 0 0
    -- *no fields: 12, detail 1, missing 9
    ∷ refuses (lines_of (invite ∷ [])) 12 400 1 9
    -- *empty P-Asserted-Identity: 10, detail 15
    ∷ refuses (call_with invite hops caller "P-Asserted-Identity:" no_body) 10 400 15 0
    -- *`From` beside `f`: 9, detail 3
    ∷ refuses (call_with invite hops (caller ++ ("From: <sip:+33187654321@relay.example>;tag=a1" ∷ [])) identity no_body) 9 400 3 0
    -- *Max-Forwards 0: 13
    ∷ refuses (call_with invite "Max-Forwards: 0" caller identity no_body) 13 483 0 0
    -- *`l: 1`: 11
    ∷ refuses (call_with invite hops caller identity "l: 1") 11 400 0 0
    -- *Request-URI user +3312345 accepted
    ∷ sends (call_with shortest hops caller identity no_body) 333 (printed shortest)
    -- *+331234: 15
    ∷ refuses (call_with "INVITE sip:+331234@gw.example SIP/2.0" hops caller identity no_body) 15 484 0 0
    -- *method INFO: 6
    ∷ refuses (call_with "INFO sip:+33123456789@gw.example SIP/2.0" hops caller identity no_body) 6 405 0 0
    -- *tag only inside From's `<>`: 10
    ∷ refuses (call_with invite hops ("f: <sip:+33187654321@relay.example;tag=a1>" ∷ []) identity no_body) 10 400 3 0
    -- *cause 26: 480
    ∷ cause_gives 26 480 31
    -- *status 606: 127
    ∷ status_gives 606 127
    ∷ []

-- every row holds
pub data AllHold : List Case → Type 0 where
  no_row : AllHold []
  row : {c : Case} {cs : List Case} → Holds c → AllHold cs → AllHold (c ∷ cs)
