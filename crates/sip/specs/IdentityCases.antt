-- CR 6, worked cases: calls with one, two or more asserted identities, and what each gives.
use Rattle.std.specs.Prelude.{List, [], ◌∷◌, ◌++◌, ℕ, drop}
use Prim.Native.String.{String}
use Rattle.octets.specs.Classes.{text}
use Rattle.sip.specs.Refusals.{refusal}
use Rattle.sip.specs.Starred.{lines_of, blank_buffer, Case, screening, calling, counting, refusing}
use Rattle.sip.specs.Hidden.{ann, anns_from, plain_to, tagged_to, anonymous_from, short_call, short_sent, bye_sent}

-- ---- what the rows are put together from

-- the n bytes o go out, and the other bytes of the buffer stay
abbrev sends_to : ℕ → List ℕ → ℕ → List ℕ → Case
sends_to side m n o =
    screening m side (blank_buffer 300)
    (record { answer = record { reason = 0; reply = 0; detail = 0; missing = 0; length = n }; buffer = o ++ drop n (blank_buffer 300) })

-- a call with these lines for P-Asserted-Identity and after it; and with `Privacy: id`
abbrev call_of : List String → List ℕ
call_of asserted = short_call ann plain_to asserted []

abbrev hidden_call : List String → List ℕ
hidden_call asserted = short_call ann plain_to asserted ("Privacy: id" ∷ [])

-- the call to side 0 goes out with these n bytes, in which its identities stand so
abbrev shows : List String → ℕ → List String → Case
shows asserted n out = sends_to 0 (call_of asserted) n (short_sent anns_from plain_to out)

-- the withheld call to side 1 goes out with no P-Asserted-Identity
abbrev drops : List String → Case
drops asserted = sends_to 1 (hidden_call asserted) 209 (short_sent anonymous_from plain_to ("Privacy: id" ∷ []))

-- the call is refused so
abbrev refuses : List String → ℕ → ℕ → Case
refuses asserted reason detail = screening (call_of asserted) 0 (blank_buffer 300) (refusing (refusal reason 400 detail 0) (blank_buffer 300))

-- the calling number of the call, with the trunk number +33111111111
abbrev calls : List String → String → Case
calls asserted number = calling (call_of asserted) (text "+33111111111") (text number)

abbrev bye : String → List ℕ
bye asserted =
    lines_of
    ("BYE sip:112@gw.example SIP/2.0" ∷ "Via: x" ∷ "Max-Forwards: 9" ∷ "From: <sip:+33187654321@h>;tag=x" ∷ tagged_to ∷ "Call-ID: 8"
    ∷ "CSeq: 2 BYE" ∷ asserted ∷ [])

abbrev sip : String
sip = "P-Asserted-Identity: <sip:+33187654321@h>"

abbrev tel : String
tel = "P-Asserted-Identity: tel:+4930123456"

-- a comma in a quoted display name parts nothing; the two numbers are equal
abbrev both : String
both = "P-Asserted-Identity: \"Doe, J\" <sip:+33187654321@h>, <tel:+33187654321>"

-- tabs around the comma, bare URIs, two numbers
abbrev reversed : String
reversed = "P-Asserted-Identity: tel:+4930123456\t,\tsip:+33187654321@h"

-- nothing around the comma, schemes in capitals, a display name of tokens, a tail
abbrev close : String
close = "P-Asserted-Identity: <TEL:+4930123456>,Ann Lee <SIP:+33187654321@h;user=phone>"

-- one identity, whose display name looks like two more
abbrev quoted : String
quoted = "P-Asserted-Identity: \"a\\\", <tel:+4930123456>, <sip:+4930123456@h>\" <sip:+33187654321@h>"

unfoldable pub identity_cases : List Case
identity_cases =
    -- "one or two, in one field parted by a comma (spaces or tabs free around it)": the value goes out as it came
    shows (sip ∷ []) 220 (sip ∷ [])
    ∷ shows (both ∷ []) 249 (both ∷ [])
    ∷ shows (reversed ∷ []) 236 (reversed ∷ [])
    ∷ shows (close ∷ []) 257 (close ∷ [])
    ∷ shows (quoted ∷ []) 266 (quoted ∷ [])
    -- a line break before the comma and one after it: its canonical value has a space in each place
    ∷ shows ("P-Asserted-Identity: <sip:+33187654321@h>\r\n ,\r\n\t<tel:+4930123456>" ∷ []) 240
    ("P-Asserted-Identity: <sip:+33187654321@h> , <tel:+4930123456>" ∷ [])
    -- "or in two fields", in either order, also with other fields between
    ∷ shows (sip ∷ tel ∷ []) 258 (sip ∷ tel ∷ [])
    ∷ shows (tel ∷ sip ∷ []) 258 (tel ∷ sip ∷ [])
    ∷ shows (tel ∷ "X-Relay-Mode: text" ∷ "Supported: timer" ∷ sip ∷ []) 276 (tel ∷ "Supported: timer" ∷ sip ∷ [])
    -- "When withheld on side 1, all of them go."
    ∷ drops (sip ∷ [])
    ∷ drops (both ∷ [])
    ∷ drops (reversed ∷ [])
    ∷ drops (sip ∷ tel ∷ [])
    ∷ drops (tel ∷ sip ∷ [])
    -- not withheld on side 1, both go out; in an INVITE whose To has a tag too
    ∷ sends_to 1 (short_call ann plain_to (tel ∷ sip ∷ []) ("Privacy: none" ∷ [])) 273 (short_sent anns_from plain_to (tel ∷ sip ∷ "Privacy: none" ∷ []))
    ∷ sends_to 1 (short_call ann tagged_to (tel ∷ sip ∷ []) []) 265 (short_sent anns_from tagged_to (tel ∷ sip ∷ []))
    -- withheld in such an INVITE; and on side 0, where both go out
    ∷ sends_to 1 (short_call ann tagged_to (tel ∷ sip ∷ []) ("Privacy: id" ∷ [])) 216 (short_sent anonymous_from tagged_to ("Privacy: id" ∷ []))
    ∷ sends_to 0 (hidden_call (tel ∷ sip ∷ [])) 271 (short_sent anns_from plain_to (tel ∷ sip ∷ "Privacy: id" ∷ []))
    -- "two of one scheme, is 10 with detail 15": in one field and in two
    ∷ refuses ("P-Asserted-Identity: <sip:+33187654321@h>, <sip:+4930123456@h>" ∷ []) 10 15
    ∷ refuses ("P-Asserted-Identity: tel:+4930123456, TEL:+4930123456" ∷ []) 10 15
    ∷ refuses (sip ∷ sip ∷ []) 10 15
    ∷ refuses (tel ∷ tel ∷ []) 10 15
    -- "a third identity": in one field, and brought by the second or the third
    ∷ refuses ("P-Asserted-Identity: <sip:+33187654321@h>, tel:+4930123456, tel:+4930123456" ∷ []) 10 15
    ∷ refuses (both ∷ sip ∷ []) 10 15
    ∷ refuses (sip ∷ reversed ∷ []) 10 15
    ∷ refuses (sip ∷ tel ∷ tel ∷ []) 10 15
    -- "each of the old form": an empty place before, after or between commas, no comma, another byte for it, parameters, a short number in the
    -- second and in the first, a tel URI with a tail, a bare sip URI with one, a comma that could be a user's, an empty second field
    ∷ refuses ("P-Asserted-Identity: ,<sip:+33187654321@h>" ∷ []) 10 15
    ∷ refuses ("P-Asserted-Identity: <sip:+33187654321@h>," ∷ []) 10 15
    ∷ refuses ("P-Asserted-Identity: <sip:+33187654321@h>,,<tel:+4930123456>" ∷ []) 10 15
    ∷ refuses ("P-Asserted-Identity: <sip:+33187654321@h> <tel:+4930123456>" ∷ []) 10 15
    ∷ refuses ("P-Asserted-Identity: <sip:+33187654321@h>; <tel:+4930123456>" ∷ []) 10 15
    ∷ refuses ("P-Asserted-Identity: <sip:+33187654321@h>;p=q, <tel:+4930123456>" ∷ []) 10 15
    ∷ refuses ("P-Asserted-Identity: <sip:+33187654321@h>, <tel:+493012>" ∷ []) 10 15
    ∷ refuses ("P-Asserted-Identity: <tel:+493012>, <sip:+33187654321@h>" ∷ []) 10 15
    ∷ refuses ("P-Asserted-Identity: <sip:+33187654321@h>, <tel:+4930123456;x=y>" ∷ []) 10 15
    ∷ refuses ("P-Asserted-Identity: sip:+33187654321@h;user=phone,tel:+4930123456" ∷ []) 10 15
    ∷ refuses ("P-Asserted-Identity: sip:+33187654321,tel:+33187654321@h" ∷ []) 10 15
    ∷ refuses (sip ∷ "P-Asserted-Identity:" ∷ []) 10 15
    -- "at the field that brings it": another malformed field before that one is the first
    ∷ refuses (sip ∷ "Content-Length: x" ∷ sip ∷ []) 10 8
    ∷ refuses (both ∷ "Require: ;" ∷ sip ∷ []) 10 14
    ∷ refuses (sip ∷ sip ∷ "Require: ;" ∷ tel ∷ []) 10 15
    -- "reason 9 never names 15", and comes first
    ∷ refuses (sip ∷ sip ∷ "Max-Forwards: 9" ∷ []) 9 2
    -- where P-Asserted-Identity is ignored none of this is asked; nor where the method has no column
    ∷ sends_to 0 (bye "P-Asserted-Identity: <sip:+33187654321@h>, <sip:+4930123456@h>,") 151 (bye_sent "From: <sip:+33187654321@h>;tag=x")
    ∷ screening (lines_of ("INFO sip:112@gw.example SIP/2.0" ∷ sip ∷ sip ∷ [])) 0 (blank_buffer 300) (refusing (refusal 6 405 0 0) (blank_buffer 300))
    -- "The calling number comes from the sip one (document 002, Table 5, note 1) in either order."
    ∷ calls (both ∷ []) "+33187654321"
    ∷ calls (reversed ∷ []) "+33187654321"
    ∷ calls (close ∷ []) "+33187654321"
    ∷ calls (quoted ∷ []) "+33187654321"
    ∷ calls (sip ∷ tel ∷ []) "+33187654321"
    ∷ calls (tel ∷ sip ∷ []) "+33187654321"
    -- behind line breaks, in the first field and in the second
    ∷ calls ("P-Asserted-Identity:\r\n tel:+4930123456\r\n\t ,  \"a \r\n  b\"\r\n <sip:+33187654321@h>" ∷ []) "+33187654321"
    ∷ calls (tel ∷ "P-Asserted-Identity:\r\n \"a \r\n  b\"\r\n <sip:+33187654321@h>\r\n " ∷ []) "+33187654321"
    -- one alone; in a message that is refused; in one that ignores it
    ∷ calls (sip ∷ []) "+33187654321"
    ∷ calls (tel ∷ []) "+4930123456"
    ∷ calls (tel ∷ tel ∷ []) ""
    ∷ calling (bye both) (text "+33111111111") (text "+33111111111")
    -- a count is of fields
    ∷ counting (call_of (both ∷ [])) 15 1
    ∷ counting (call_of (tel ∷ sip ∷ [])) 15 2
    ∷ []
