-- CR 2, worked cases: messages with Privacy, and what each gives.
use Rattle.std.specs.Prelude.{List, [], ◌∷◌, ◌++◌, ℕ, drop}
use Prim.Native.String.{String}
use Rattle.octets.specs.Classes.{text}
use Rattle.sip.specs.Refusals.{refusal}
use Rattle.sip.specs.Starred.{lines_of, blank_buffer, Case, screening, calling, refuses, sends, refusing}
use Rattle.sip.specs.Responses.{response_with, written}

-- a request with this start line, To and CSeq, and these fields after them
unfoldable pub request_with : String → String → String → List String → List ℕ
request_with line to cseq others =
    lines_of
    (line ∷ "v: SIP/2.0/UDP relay.example;branch=z9hG4bK8" ∷ "Max-Forwards: 9" ∷ "f: \"Ann\" <sip:+33187654321@relay.example>;x=y;TAG=c3"
    ∷ to ∷ "i: 8x@relay.example" ∷ cseq ∷ others)

-- what goes out of such a request with this From
unfoldable pub outgoing : String → String → String → String → List String → List ℕ
outgoing line from to cseq others =
    lines_of
    (line ∷ "Via: SIP/2.0/UDP relay.example;branch=z9hG4bK8" ∷ "Max-Forwards: 8" ∷ from ∷ to ∷ "Call-ID: 8x@relay.example" ∷ cseq ∷ others)

abbrev invite : String
invite = "INVITE sip:112@gw.example SIP/2.0"

abbrev named : String
named = "From: \"Ann\" <sip:+33187654321@relay.example>;x=y;TAG=c3"

abbrev anonymous : String
anonymous = "From: \"Anonymous\" <sip:anonymous@anonymous.invalid>;tag=c3"

abbrev asserted : String
asserted = "P-Asserted-Identity: tel:+33187654321"

-- an initial INVITE with these Privacy fields
unfoldable pub call_with_privacy : List String → List ℕ
call_with_privacy privacy = request_with invite "t: <sip:112@gw.example>" "CSeq: 1 INVITE" ("m: <sip:relay.example>" ∷ "Allow:" ∷ asserted ∷ privacy)

-- what goes out where the caller is withheld, and where not
unfoldable pub masked : String → List ℕ
masked privacy =
    outgoing invite anonymous "To: <sip:112@gw.example>" "CSeq: 1 INVITE" ("Contact: <sip:relay.example>" ∷ "Allow: " ∷ privacy ∷ [])

unfoldable pub unmasked : String → List ℕ
unmasked privacy =
    outgoing invite named "To: <sip:112@gw.example>" "CSeq: 1 INVITE" ("Contact: <sip:relay.example>" ∷ "Allow: " ∷ asserted ∷ privacy ∷ [])

abbrev hides : String → ℕ → Case
hides privacy n = sends (call_with_privacy (privacy ∷ [])) n (masked privacy)

abbrev shows : String → ℕ → Case
shows privacy n = sends (call_with_privacy (privacy ∷ [])) n (unmasked privacy)

-- a request whose column ignores these fields: From goes out, and they do not
abbrev ignores : String → String → List String → ℕ → Case
ignores line cseq others n =
    sends (request_with line "t: <sip:112@gw.example>;tag=d4" cseq others) n (outgoing line named "To: <sip:112@gw.example>;tag=d4" cseq [])

unfoldable pub privacies : List Case
privacies =
    -- "A caller with `Privacy: user` was shown."
    hides "Privacy: user" 285
    -- "restricts on `header`, `user` and `id`"
    ∷ hides "Privacy: header" 287
    ∷ hides "Privacy: id" 283
    -- "letter case free"
    ∷ hides "Privacy: USER" 285
    ∷ hides "Privacy: Header" 287
    ∷ hides "Privacy: iD" 283
    -- "`none` together with `id` is still restricted", and so it is with the others
    ∷ hides "Privacy: none;id" 288
    ∷ hides "Privacy: id;none" 288
    ∷ hides "Privacy: none;user" 290
    ∷ hides "Privacy: header;none" 292
    -- beside other tokens; all three; one of them twice
    ∷ hides "Privacy: session;critical;user" 302
    ∷ hides "Privacy: id;user;header" 295
    ∷ hides "Privacy: user;user" 290
    -- blanks and a line break around `;`
    ∷ sends (call_with_privacy ("Privacy: none \t;\r\n  header" ∷ [])) 295 (masked "Privacy: none \t; header")
    -- other tokens: a token is compared whole, and an escape is not decoded
    ∷ shows "Privacy: username" 325
    ∷ shows "Privacy: identity" 325
    ∷ shows "Privacy: user-id" 324
    ∷ shows "Privacy: headers;head" 329
    ∷ shows "Privacy: none" 321
    ∷ shows "Privacy: session;critical;history" 341
    ∷ shows "Privacy: %69d;us%65r;'id';id." 337
    -- no Privacy
    ∷ sends (call_with_privacy []) 306
    (outgoing invite named "To: <sip:112@gw.example>" "CSeq: 1 INVITE" ("Contact: <sip:relay.example>" ∷ "Allow: " ∷ asserted ∷ []))
    -- on side 0 From and P-Asserted-Identity go out
    ∷ screening (call_with_privacy ("Privacy: user" ∷ [])) 0 (blank_buffer 400)
    (record {
      answer = record { reason = 0; reply = 0; detail = 0; missing = 0; length = 321 };
      buffer = unmasked "Privacy: user" ++ drop 321 (blank_buffer 400);
    })
    -- no tokens parted by `;`: 10, detail 16. A line break inside a word becomes a space
    ∷ refuses (call_with_privacy ("Privacy: user;" ∷ [])) 10 400 16 0
    ∷ refuses (call_with_privacy ("Privacy: user,id" ∷ [])) 10 400 16 0
    ∷ refuses (call_with_privacy ("Privacy: us\r\n er" ∷ [])) 10 400 16 0
    ∷ refuses (call_with_privacy ("Privacy: \"user\"" ∷ [])) 10 400 16 0
    ∷ refuses (call_with_privacy ("Privacy:" ∷ [])) 10 400 16 0
    -- a second Privacy: 9, detail 16
    ∷ refuses (call_with_privacy ("Privacy: user" ∷ "Privacy: none" ∷ [])) 9 400 16 0
    -- an initial INVITE needs its P-Asserted-Identity also where that will not go out: 12, detail 15
    ∷ refuses (request_with invite "t: <sip:112@gw.example>" "CSeq: 1 INVITE" ("m: <sip:relay.example>" ∷ "Allow:" ∷ "Privacy: user" ∷ []))
    12 400 15 1
    -- Privacy before From, and with its name in another form
    ∷ sends
    (lines_of
    (invite ∷ "PRIVACY : User" ∷ asserted ∷ "f: sip:a;tag=1" ∷ "v: x" ∷ "Max-Forwards: 9" ∷ "t: <sip:112@gw.example>" ∷ "i: 8"
    ∷ "CSeq: 1 INVITE" ∷ "m: x" ∷ "Allow:" ∷ []))
    211
    (lines_of
    (invite ∷ "Privacy: User" ∷ "From: \"Anonymous\" <sip:anonymous@anonymous.invalid>;tag=1" ∷ "Via: x" ∷ "Max-Forwards: 8"
    ∷ "To: <sip:112@gw.example>" ∷ "Call-ID: 8" ∷ "CSeq: 1 INVITE" ∷ "Contact: x" ∷ "Allow: " ∷ []))
    -- an INVITE whose To has a tag ("re"), without an asserted identity
    ∷ sends
    (request_with invite "t: <sip:112@gw.example>;tag=d4" "CSeq: 2 INVITE" ("m: <sip:relay.example>" ∷ "Privacy: header" ∷ [])) 285
    (outgoing invite anonymous "To: <sip:112@gw.example>;tag=d4" "CSeq: 2 INVITE" ("Contact: <sip:relay.example>" ∷ "Privacy: header" ∷ []))
    -- "Privacy is not ignored": in an ACK, a BYE, a CANCEL, an OPTIONS and a response it is, also where it is malformed or comes again
    ∷ ignores "ACK sip:112@gw.example SIP/2.0" "CSeq: 1 ACK" ("Privacy: user" ∷ []) 229
    ∷ ignores "BYE sip:112@gw.example SIP/2.0" "CSeq: 3 BYE" ("Privacy: user" ∷ []) 229
    ∷ ignores "BYE sip:112@gw.example SIP/2.0" "CSeq: 3 BYE" ("Privacy: ;" ∷ "Privacy: user" ∷ "P-Asserted-Identity: x" ∷ []) 229
    ∷ ignores "CANCEL sip:112@gw.example SIP/2.0" "CSeq: 1 CANCEL" ("Privacy: header" ∷ []) 235
    ∷ ignores "OPTIONS sip:112@gw.example SIP/2.0" "CSeq: 1 OPTIONS" (asserted ∷ "Privacy: id" ∷ []) 237
    ∷ sends (response_with "SIP/2.0 180 Ringing" ("CSeq: 1 INVITE" ∷ []) ("Privacy: user" ∷ [])) 203
    (written "SIP/2.0 180 Ringing" "CSeq: 1 INVITE" [])
    -- a buffer a byte too short for the anonymous message: 16, with the length needed
    ∷ screening (call_with_privacy ("Privacy: user" ∷ [])) 1 (blank_buffer 284) (refusing (refusal 16 500 285 0) (blank_buffer 284))
    -- the calling number of a withheld caller is the asserted one
    ∷ calling (call_with_privacy ("Privacy: user" ∷ [])) (text "+33111111111") (text "+33187654321")
    ∷ []
