-- CR 1, worked cases: responses on side 1, and what each gives.
use Rattle.std.specs.Prelude.{List, [], ◌∷◌, ◌++◌, ℕ}
use Prim.Native.String.{String}
use Rattle.octets.specs.Classes.{text}
use Rattle.sip.specs.Refusals.{refusal}
use Rattle.sip.specs.Starred.{lines_of, blank_buffer, Case, screening, calling, counting, refuses, sends, refusing}

-- a response with this start line, these CSeq fields, and these fields after them
unfoldable pub response_with : String → List String → List String → List ℕ
response_with line cseq others =
    lines_of
    (line ∷ "v: SIP/2.0/UDP relay.example;branch=z9hG4bK7" ∷ "f: <sip:+33187654321@relay.example>;tag=a1"
    ∷ "t: <sip:+33123456789@gw.example>;tag=b2" ∷ "i: 9x@relay.example" ∷ (cseq ++ others))

-- what goes out of such a response
unfoldable pub written : String → String → List String → List ℕ
written line cseq others =
    lines_of
    (line ∷ "Via: SIP/2.0/UDP relay.example;branch=z9hG4bK7" ∷ "From: <sip:+33187654321@relay.example>;tag=a1"
    ∷ "To: <sip:+33123456789@gw.example>;tag=b2" ∷ "Call-ID: 9x@relay.example" ∷ cseq ∷ others)

abbrev ok : String
ok = "SIP/2.0 200 OK"

abbrev invites : List String
invites = "CSeq: 1 INVITE" ∷ []

abbrev contact : List String
contact = "m: <sip:gw.example>" ∷ []

abbrev trunk : List ℕ
trunk = text "+33111111111"

-- every reply is 0
unfoldable pub responses : List Case
responses =
    -- a 200 to an INVITE; Max-Forwards, P-Asserted-Identity and Privacy are ignored, nothing is made anonymous, Require is not judged
    sends
    (response_with ok invites
    ("m: <sip:gw.example>" ∷ "Max-Forwards: x" ∷ "P-Asserted-Identity: <sip:+33187654321@relay.example>" ∷ "Privacy: id" ∷ "Require: foo"
    ∷ "l: 00" ∷ []))
    258 (written ok "CSeq: 1 INVITE" ("Contact: <sip:gw.example>" ∷ "Require: foo" ∷ "Content-Length: 0" ∷ []))
    -- the phrase goes out byte for byte, the version in capitals
    ∷ sends (response_with "sip/2.0 180  Ring ing " invites []) 206 (written "SIP/2.0 180  Ring ing " "CSeq: 1 INVITE" [])
    -- no phrase; of a response to a CANCEL six fields are looked at
    ∷ sends (response_with "SIP/2.0 200 " ("CSeq: 2 CANCEL" ∷ []) ("m:" ∷ "m:" ∷ "Content-Type:" ∷ "Require: ;" ∷ "l: 0" ∷ [])) 215
    (written "SIP/2.0 200 " "CSeq: 2 CANCEL" ("Content-Length: 0" ∷ []))
    -- the space before the phrase is missing, four digits, neither a request line nor a status line: 3
    ∷ refuses (response_with "SIP/2.0 200" invites contact) 3 0 0 0
    ∷ refuses (response_with "SIP/2.0 2000 OK" invites contact) 3 0 0 0
    ∷ refuses (response_with "SIP/2.0 SIP/2.0 SIP/2.0" invites contact) 3 0 0 0
    -- a status outside 100 to 699: 17, before 6
    ∷ refuses (response_with "SIP/2.0 099 x" [] []) 17 0 0 0
    ∷ refuses (response_with "SIP/2.0 700 x" invites contact) 17 0 0 0
    -- 4 comes before 17, and 1 before all
    ∷ refuses (response_with "SIP/2.0 700 x" [] ("no colon" ∷ [])) 4 0 0 0
    ∷ screening (response_with ok invites contact) 2 (blank_buffer 9) (refusing (refusal 1 0 0 0) (blank_buffer 9))
    -- no CSeq, a malformed first one and a good second, a number past 31 bits, ACK, small letters: 6
    ∷ refuses (response_with ok [] contact) 6 0 0 0
    ∷ refuses (response_with ok ("CSeq: INVITE" ∷ "CSeq: 1 INVITE" ∷ []) contact) 6 0 0 0
    ∷ refuses (response_with ok ("CSeq: 2147483648 INVITE" ∷ []) contact) 6 0 0 0
    ∷ refuses (response_with ok ("CSeq: 1 ACK" ∷ []) contact) 6 0 0 0
    ∷ refuses (response_with ok ("CSeq: 1 invite" ∷ []) contact) 6 0 0 0
    -- a CSeq over two lines
    ∷ sends (response_with "SIP/2.0 180 Ringing" ("CSeq: 1\r\n INVITE" ∷ []) []) 203 (written "SIP/2.0 180 Ringing" "CSeq: 1 INVITE" [])
    -- a second CSeq: 9, detail 6; a second Contact: 9, detail 7
    ∷ refuses (response_with ok ("CSeq: 1 INVITE" ∷ "CSeq: x" ∷ []) contact) 9 0 6 0
    ∷ refuses (response_with "SIP/2.0 302 Moved" invites ("m: <sip:gw.example>" ∷ "Contact: <sip:a.example>" ∷ [])) 9 0 7 0
    -- a malformed Require: 10, detail 14
    ∷ refuses (response_with ok invites ("m: <sip:gw.example>" ∷ "Require: ;" ∷ [])) 10 0 14 0
    -- Content-Length over the bytes there: 11
    ∷ refuses (response_with ok invites ("m: <sip:gw.example>" ∷ "l: 1" ∷ [])) 11 0 0 0
    -- no Contact in a response to an INVITE: 12, detail 7 from 200 to 299, else nothing is missing
    ∷ refuses (response_with ok invites []) 12 0 7 1
    ∷ refuses (response_with "SIP/2.0 299 OK" invites []) 12 0 7 1
    ∷ sends (response_with "SIP/2.0 180 Ringing" invites []) 203 (written "SIP/2.0 180 Ringing" "CSeq: 1 INVITE" [])
    ∷ sends (response_with "SIP/2.0 199 x" invites []) 197 (written "SIP/2.0 199 x" "CSeq: 1 INVITE" [])
    ∷ sends (response_with "SIP/2.0 300 x" invites []) 197 (written "SIP/2.0 300 x" "CSeq: 1 INVITE" [])
    -- a 200 to a BYE without Contact
    ∷ sends (response_with ok ("CSeq: 3 BYE" ∷ []) []) 195 (written ok "CSeq: 3 BYE" [])
    -- a body without Content-Type: 12, detail 9; in a response to a CANCEL it is ignored, and the body goes out
    ∷ refuses (response_with ok invites contact ++ text "hi") 12 0 9 1
    ∷ sends (response_with ok ("CSeq: 2 CANCEL" ∷ []) ("c:" ∷ []) ++ text "hi") 200 (written ok "CSeq: 2 CANCEL" [] ++ text "hi")
    -- no fields but CSeq: 12, the lowest missing is Via
    ∷ refuses (lines_of ("SIP/2.0 100 Trying" ∷ "CSeq: 1 INVITE" ∷ [])) 12 0 1 4
    -- a buffer a byte too short: 16, with the length needed
    ∷ screening (response_with "SIP/2.0 180 " invites []) 1 (blank_buffer 195) (refusing (refusal 16 0 196 0) (blank_buffer 195))
    -- "At 17 the calling number is empty."; an accepted response has the trunk number
    ∷ calling (response_with "SIP/2.0 700 x" invites contact) trunk []
    ∷ calling (response_with ok invites ("m: <sip:gw.example>" ∷ "P-Asserted-Identity: <sip:+33187654321@relay.example>" ∷ [])) trunk
    trunk
    -- at 17 fields are counted as ever
    ∷ counting (response_with "SIP/2.0 700 x" invites contact) 7 1
    ∷ []
