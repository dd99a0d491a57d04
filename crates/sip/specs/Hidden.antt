-- CR 5, worked pairs, with the identities that CR 6 allows: two callers who are screened alike, pairs that differ since a premise of CR 5
-- fails, and what stays outside of it.
use Rattle.std.specs.Prelude.{◌≡◌, List, [], ◌∷◌, ◌++◌, ℕ, zero, suc, take, drop}
use Prim.Native.String.{String}
use Rattle.octets.specs.Classes.{text}
use Rattle.sip.specs.Refusals.{refusal}
use Rattle.sip.specs.Calls.{none_held}
use Rattle.sip.specs.Screen.{screened}
use Rattle.sip.specs.Readings.{reading, calling_number}
use Rattle.sip.specs.Callers.{TwoCallers}
use Rattle.sip.specs.Starred.{lines_of, call_with, call, printed, blank_buffer, invite, hops, caller, identity, no_body, Given, given, refusing}

-- ---- document 01's call, and one with another number and a display name in both values

abbrev other_from : List String
other_from = "f: \"Doe, J\" <sip:+4930123456@relay.example>;tag=a1" ∷ []

abbrev other_identity : String
other_identity = "P-Asserted-Identity: \"Doe, J\" <sip:+4930123456@relay.example>"

-- the start line with its version in small letters
abbrev small_version : String
small_version = "INVITE sip:+33123456789@gw.example sip/2.0"

unfoldable pub other_call : List ℕ
other_call = call_with invite hops other_from other_identity no_body

-- the instance of CR 5 by itself: these are two callers, and their bytes differ
pub record OtherCall : Type 0 where
  pub two_callers : TwoCallers call other_call
  pub bytes_differ : call ≡ other_call → ⊥

-- ---- a row: two messages and what they give

-- two callers: on side 1 and with this buffer both give this
pub record Alike (m m' buffer : List ℕ) (gives : Given) : Type 0 where
  pub two_callers : TwoCallers m m'
  pub bytes_differ : m ≡ m' → ⊥
  pub first_gives : given (screened m 1 none_held buffer) ≡ gives
  pub second_gives : given (screened m' 1 none_held buffer) ≡ gives

-- on this side and with this buffer the first gives this and the second that, and the buffers afterwards differ
pub record Apart (m m' : List ℕ) (side : ℕ) (buffer : List ℕ) (gives gives' : Given) : Type 0 where
  pub first_gives : given (screened m side none_held buffer) ≡ gives
  pub second_gives : given (screened m' side none_held buffer) ≡ gives'
  pub buffers_differ : gives.buffer ≡ gives'.buffer → ⊥

-- two callers: the parts that are handed back of them differ
pub record HandedBack (hands : List ℕ → List ℕ) (m m' part part' : List ℕ) : Type 0 where
  pub two_callers : TwoCallers m m'
  pub first_part : hands m ≡ part
  pub second_part : hands m' ≡ part'
  pub parts_differ : part ≡ part' → ⊥

pub data Pair : Type 0 where
  alike : List ℕ → List ℕ → List ℕ → Given → Pair
  apart : List ℕ → List ℕ → ℕ → List ℕ → Given → Given → Pair
  handed_back : (List ℕ → List ℕ) → List ℕ → List ℕ → List ℕ → List ℕ → Pair

abbrev pub PairHolds : Pair → Type 0
PairHolds (alike m m' buffer gives) = Alike m m' buffer gives
PairHolds (apart m m' side buffer gives gives') = Apart m m' side buffer gives gives'
PairHolds (handed_back hands m m' part part') = HandedBack hands m m' part part'

-- every row holds
pub data PairsHold : List Pair → Type 0 where
  no_pair : PairsHold []
  pair : {p : Pair} {ps : List Pair} → PairHolds p → PairsHold ps → PairsHold (p ∷ ps)

-- ---- what the rows are put together from

-- the n bytes o go out, and the other bytes of the buffer stay
abbrev sent : ℕ → List ℕ → ℕ → Given
sent n o room =
    record { answer = record { reason = 0; reply = 0; detail = 0; missing = 0; length = n }; buffer = o ++ drop n (blank_buffer room) }

abbrev untouched : ℕ → ℕ → ℕ → ℕ → ℕ → Given
untouched reason reply detail missing room = refusing (refusal reason reply detail missing) (blank_buffer room)

-- what goes out of document 01's call where it is not masked, with these lines for From and P-Asserted-Identity
unfoldable pub shown : String → String → List ℕ
shown from asserted =
    lines_of
    (invite ∷ "Via: SIP/2.0/UDP relay.example;branch=z9hG4bK7" ∷ "Max-Forwards: 69" ∷ from ∷ "To: <sip:+33123456789@gw.example>"
    ∷ "Call-ID: 9x@relay.example" ∷ "CSeq: 1 INVITE" ∷ "Contact: <sip:relay.example>" ∷ "Allow: INVITE, ACK, BYE" ∷ asserted ∷ "Privacy: id"
    ∷ "Content-Length: 0" ∷ [])

-- both calls with these lines for the start line, Max-Forwards and Content-Length are refused so
abbrev both_refused : String → String → String → ℕ → ℕ → ℕ → ℕ → Pair
both_refused line forwards cut reason reply detail missing =
    alike (call_with line forwards caller identity cut) (call_with line forwards other_from other_identity cut) (blank_buffer 9216)
    (untouched reason reply detail missing 9216)

-- a shorter call with these lines for From, To and P-Asserted-Identity, and these after them
unfoldable pub short_call : List String → String → List String → List String → List ℕ
short_call from to asserted others =
    lines_of
    ("INVITE sip:112@gw.example SIP/2.0" ∷ "Via: x" ∷ "Max-Forwards: 9"
    ∷ (from ++ (to ∷ "Call-ID: 8" ∷ "CSeq: 1 INVITE" ∷ "Contact: x" ∷ "Allow: " ∷ (asserted ++ others))))

-- what goes out of it, with these lines for From and To, and these after the others
unfoldable pub short_sent : String → String → List String → List ℕ
short_sent from to others =
    lines_of
    ("INVITE sip:112@gw.example SIP/2.0" ∷ "Via: x" ∷ "Max-Forwards: 8" ∷ from ∷ to ∷ "Call-ID: 8" ∷ "CSeq: 1 INVITE" ∷ "Contact: x" ∷ "Allow: "
    ∷ others)

abbrev pub anonymous_from : String
anonymous_from = "From: \"Anonymous\" <sip:anonymous@anonymous.invalid>;tag=x"

abbrev pub plain_to : String
plain_to = "To: <sip:112@gw.example>"

abbrev pub tagged_to : String
tagged_to = "To: <sip:112@gw.example>;tag=d4"

abbrev pub anns_from : String
anns_from = "From: \"Ann\" <sip:+33187654321@h>;tag=x"

abbrev pub ann : List String
ann = anns_from ∷ []

abbrev bob : List String
bob = "From: Bob B. <tel:+4930123456>;q;TAG\t= x" ∷ []

abbrev anns_identity : List String
anns_identity = "P-Asserted-Identity: \"Ann\" <sip:+33187654321@h>" ∷ []

abbrev bobs_identity : List String
bobs_identity = "P-Asserted-Identity: tel:+4930123456" ∷ []

-- both shorter calls with these P-Asserted-Identity fields go out so
abbrev short_hidden : List String → List String → ℕ → List String → Pair
short_hidden asserted asserted' n others =
    alike (short_call ann plain_to asserted ("Privacy: id" ∷ [])) (short_call bob plain_to asserted' ("Privacy: id" ∷ [])) (blank_buffer 9216)
    (sent n (short_sent anonymous_from plain_to others) 9216)

-- both shorter calls with these From fields, these identities and these fields after the others are refused so
abbrev short_refused : List String → List String → List String → List String → List String → ℕ → ℕ → ℕ → ℕ → Pair
short_refused from from' asserted asserted' others reason reply detail missing =
    alike (short_call from plain_to asserted ("Privacy: id" ∷ others)) (short_call from' plain_to asserted' ("Privacy: id" ∷ others))
    (blank_buffer 9216) (untouched reason reply detail missing 9216)

-- the shorter calls on side 1: the first goes out masked, and the second gives that
abbrev masked_but : List String → List String → Given → Pair
masked_but from asserted gives =
    apart (short_call ann plain_to anns_identity ("Privacy: id" ∷ [])) (short_call from plain_to asserted ("Privacy: id" ∷ [])) 1
    (blank_buffer 9216) (sent 209 (short_sent anonymous_from plain_to ("Privacy: id" ∷ [])) 9216) gives

-- a BYE with this line for From, and what goes out of it
unfoldable pub bye_from : String → List ℕ
bye_from from =
    lines_of
    ("BYE sip:112@gw.example SIP/2.0" ∷ "Via: x" ∷ "Max-Forwards: 9" ∷ from ∷ tagged_to ∷ "Call-ID: 8" ∷ "CSeq: 2 BYE" ∷ "Privacy: id" ∷ [])

unfoldable pub bye_sent : String → List ℕ
bye_sent from = lines_of ("BYE sip:112@gw.example SIP/2.0" ∷ "Via: x" ∷ "Max-Forwards: 8" ∷ from ∷ tagged_to ∷ "Call-ID: 8" ∷ "CSeq: 2 BYE" ∷ [])

unfoldable pub many_fields : ℕ → List String
many_fields zero = []
many_fields (suc n) = "a:" ∷ many_fields n

unfoldable pub spaces : ℕ → List ℕ
spaces zero = []
spaces (suc n) = 32 ∷ spaces n

-- the shorter call, of 239 bytes, with n spaces more before the value of its From
unfoldable pub stretched : ℕ → List ℕ
stretched n =
    let m = short_call ann plain_to anns_identity ("Privacy: id" ∷ []) in
    take 65 m ++ (spaces n ++ drop 65 m)

unfoldable pub pairs : List Pair
pairs =
    -- document 01's call and the other: with room, with just enough, and with a byte too little, where 16 needs the same length
    alike call other_call (blank_buffer 9216) (sent 337 (printed invite) 9216)
    ∷ alike call other_call (blank_buffer 337) (sent 337 (printed invite) 337)
    ∷ alike call other_call (blank_buffer 336) (untouched 16 500 337 0 336)
    -- what stood behind it in the buffer stays
    ∷ alike call other_call (blank_buffer 337 ++ text "before")
    (record { answer = record { reason = 0; reply = 0; detail = 0; missing = 0; length = 337 }; buffer = printed invite ++ text "before" })
    -- the version in small letters in both
    ∷ alike (call_with small_version hops caller identity no_body) (call_with small_version hops other_from other_identity no_body)
    (blank_buffer 9216) (sent 337 (printed invite) 9216)
    -- withheld by `user` beside `none`
    ∷ alike (short_call ann plain_to anns_identity ("Privacy: none; User" ∷ [])) (short_call bob plain_to bobs_identity ("Privacy: none; User" ∷ []))
    (blank_buffer 9216) (sent 217 (short_sent anonymous_from plain_to ("Privacy: none; User" ∷ [])) 9216)
    -- withheld by `header`; folds and blanks, tags in the display name, in the URI and in another parameter, a number of seven digits and
    -- one of fifteen
    ∷ alike
    (short_call ("From: \"b;tag=y\" <sip:h:1;tag=z>;tag=x" ∷ []) plain_to ("P-Asserted-Identity: <sip:+1234567@h;p=q>" ∷ [])
    ("Privacy: header" ∷ []))
    (short_call ("From:\r\n\tsip:c@d\r\n ;p=\"tag=y\" ; Tag\t=\r\n x;q " ∷ []) plain_to
    ("P-Asserted-Identity:\"<\\\">\"\r\n \r\n <tel:+123456789012345>\t" ∷ []) ("Privacy: header" ∷ []))
    (blank_buffer 9216) (sent 213 (short_sent anonymous_from plain_to ("Privacy: header" ∷ [])) 9216)
    -- an INVITE whose To has a tag, without P-Asserted-Identity in both
    ∷ alike (short_call ("From: \"A\" <sip:a@b>;tag=x" ∷ []) tagged_to [] ("Privacy: id" ∷ []))
    (short_call ("From:\r\n sip:c@d ;p=q;TAG = x" ∷ []) tagged_to [] ("Privacy: id" ∷ [])) (blank_buffer 9216)
    (sent 216 (short_sent anonymous_from tagged_to ("Privacy: id" ∷ [])) 9216)
    -- CR 6: two identities in one field against one; two fields in either order; other identities in two fields, with a field between
    ∷ short_hidden ("P-Asserted-Identity: tel:+4930123456 , \"Doe, J\" <sip:+4930123456@h>" ∷ []) anns_identity 209 ("Privacy: id" ∷ [])
    ∷ short_hidden (anns_identity ++ bobs_identity) (bobs_identity ++ anns_identity) 209 ("Privacy: id" ∷ [])
    ∷ short_hidden (anns_identity ++ ("Supported: timer" ∷ bobs_identity))
    (bobs_identity ++ ("Supported: timer" ∷ "P-Asserted-Identity:<sip:+1234567@i>" ∷ []))
    227 ("Supported: timer" ∷ "Privacy: id" ∷ [])
    -- a body that is cut
    ∷ alike (short_call ann plain_to anns_identity ("Privacy: id" ∷ "l: 2" ∷ "c: a" ∷ []) ++ text "hello")
    (short_call bob plain_to bobs_identity ("Privacy: id" ∷ "l: 2" ∷ "c: a" ∷ []) ++ text "hello") (blank_buffer 9216)
    (sent 247 (short_sent anonymous_from plain_to ("Privacy: id" ∷ "Content-Length: 2" ∷ "Content-Type: a" ∷ []) ++ text "he") 9216)
    -- 96 fields
    ∷ alike (short_call ann plain_to anns_identity ("Privacy: id" ∷ many_fields 86)) (short_call bob plain_to bobs_identity ("Privacy: id" ∷ many_fields 86))
    (blank_buffer 9216) (sent 209 (short_sent anonymous_from plain_to ("Privacy: id" ∷ [])) 9216)
    -- refusals: more than 96 fields, another scheme, no URI
    ∷ short_refused ann bob anns_identity bobs_identity (many_fields 87) 5 0 0 0
    ∷ both_refused "INVITE http:x SIP/2.0" hops no_body 7 416 0 0
    ∷ both_refused "INVITE sip:+33123456789@ SIP/2.0" hops no_body 8 400 0 0
    -- two From, two Privacy in either order
    ∷ short_refused (ann ++ ann) (bob ++ bob) anns_identity bobs_identity [] 9 400 3 0
    ∷ short_refused ann bob anns_identity bobs_identity ("Privacy: none" ∷ []) 9 400 16 0
    ∷ short_refused ann bob (anns_identity ++ ("Privacy: none" ∷ [])) (bobs_identity ++ ("Privacy: none" ∷ [])) [] 9 400 16 0
    -- another field malformed; the same malformed From or P-Asserted-Identity in both
    ∷ short_refused ann bob anns_identity bobs_identity ("Require: ;" ∷ []) 10 400 14 0
    ∷ short_refused ("From: x" ∷ []) ("From: x" ∷ []) anns_identity bobs_identity [] 10 400 3 0
    ∷ short_refused ann bob ("P-Asserted-Identity: x" ∷ []) ("P-Asserted-Identity: x" ∷ []) [] 10 400 15 0
    -- CR 6: the same two of one scheme in both; another field malformed between two identities, in another order in the second
    ∷ short_refused ann bob (anns_identity ++ anns_identity) (anns_identity ++ anns_identity) [] 10 400 15 0
    ∷ short_refused ann bob (anns_identity ++ ("Require: ;" ∷ bobs_identity)) (bobs_identity ++ ("Require: ;" ∷ anns_identity)) [] 10 400 14 0
    -- Content-Length too large, no From and no P-Asserted-Identity in both, Max-Forwards 0, a required tag that we lack, no called number
    ∷ both_refused invite hops "l: 1" 11 400 0 0
    ∷ short_refused [] [] anns_identity bobs_identity [] 12 400 3 1
    ∷ short_refused ann bob [] [] [] 12 400 15 1
    ∷ both_refused invite "Max-Forwards: 0" no_body 13 483 0 0
    ∷ short_refused ann bob anns_identity bobs_identity ("Require: timer, foo" ∷ []) 14 420 2 0
    ∷ both_refused "INVITE sip:gw.example SIP/2.0" hops no_body 15 484 0 0
    -- "side 1": on side 0 the two calls of the first row differ
    ∷ apart call other_call 0 (blank_buffer 9216)
    (sent 379 (shown "From: <sip:+33187654321@relay.example>;tag=a1" "P-Asserted-Identity: <sip:+33187654321@relay.example>") 9216)
    (sent 395
    (shown "From: \"Doe, J\" <sip:+4930123456@relay.example>;tag=a1" "P-Asserted-Identity: \"Doe, J\" <sip:+4930123456@relay.example>")
    9216)
    -- "both withheld": two INVITEs that are not, and two BYEs, in which Privacy is ignored
    ∷ apart (short_call ann plain_to anns_identity ("Privacy: none" ∷ [])) (short_call bob plain_to bobs_identity ("Privacy: none" ∷ [])) 1
    (blank_buffer 9216)
    (sent 241 (short_sent "From: \"Ann\" <sip:+33187654321@h>;tag=x" plain_to (anns_identity ++ ("Privacy: none" ∷ []))) 9216)
    (sent 232 (short_sent "From: Bob B. <tel:+4930123456>;q;TAG\t= x" plain_to (bobs_identity ++ ("Privacy: none" ∷ []))) 9216)
    ∷ apart (bye_from "From: <sip:+33187654321@h>;tag=x") (bye_from "From: <sip:+4930123456@h>;tag=x") 1 (blank_buffer 9216)
    (sent 151 (bye_sent "From: <sip:+33187654321@h>;tag=x") 9216) (sent 150 (bye_sent "From: <sip:+4930123456@h>;tag=x") 9216)
    -- "the same tag": the letter case of its value counts
    ∷ masked_but ("From: \"Ann\" <sip:+33187654321@h>;tag=X" ∷ []) anns_identity
    (sent 209 (short_sent "From: \"Anonymous\" <sip:anonymous@anonymous.invalid>;tag=X" plain_to ("Privacy: id" ∷ [])) 9216)
    -- "well formed": in the second From is malformed, then P-Asserted-Identity is
    ∷ masked_but ("From: \"Ann\" <sip:+33187654321@>;tag=x" ∷ []) anns_identity (untouched 10 400 3 0 9216)
    ∷ masked_but ann ("P-Asserted-Identity: tel:+493012" ∷ []) (untouched 10 400 15 0 9216)
    -- CR 6, "the identities allowed here in both messages": in the second two are of one scheme, in one field; and in two, each good by itself
    ∷ masked_but ann ("P-Asserted-Identity: <sip:+33187654321@h>, <sip:+4930123456@h>" ∷ []) (untouched 10 400 15 0 9216)
    ∷ apart (short_call ann plain_to (bobs_identity ++ anns_identity) ("Privacy: id" ∷ []))
    (short_call ann plain_to (anns_identity ++ anns_identity) ("Privacy: id" ∷ [])) 1 (blank_buffer 9216)
    (sent 209 (short_sent anonymous_from plain_to ("Privacy: id" ∷ [])) 9216) (untouched 10 400 15 0 9216)
    -- CR 6, "their number .. equal": none in the second; and one field more, where the first has 96
    ∷ masked_but ann [] (untouched 12 400 15 1 9216)
    ∷ apart (short_call ann plain_to anns_identity ("Privacy: id" ∷ many_fields 86))
    (short_call ann plain_to (anns_identity ++ bobs_identity) ("Privacy: id" ∷ many_fields 86)) 1 (blank_buffer 9216)
    (sent 209 (short_sent anonymous_from plain_to ("Privacy: id" ∷ [])) 9216) (untouched 5 0 0 0 9216)
    -- "well-shaped fields": a lone LF, which the canonical value no longer shows
    ∷ masked_but ("From: \"An\nn\" <sip:+33187654321@h>;tag=x" ∷ []) anns_identity (untouched 4 0 0 0 9216)
    -- "Both messages keep to 8,192 bytes"
    ∷ apart (short_call ann plain_to anns_identity ("Privacy: id" ∷ [])) (stretched 7954) 1 (blank_buffer 9216)
    (sent 209 (short_sent anonymous_from plain_to ("Privacy: id" ∷ [])) 9216) (untouched 2 0 0 0 9216)
    -- "equal except for the values": another To
    ∷ apart (short_call ann plain_to anns_identity ("Privacy: id" ∷ [])) (short_call ann "To: <sip:113@gw.example>" anns_identity ("Privacy: id" ∷ [])) 1
    (blank_buffer 9216) (sent 209 (short_sent anonymous_from plain_to ("Privacy: id" ∷ [])) 9216)
    (sent 209 (short_sent anonymous_from "To: <sip:113@gw.example>" ("Privacy: id" ∷ [])) 9216)
    -- "The calling number and raw readings stay outside this."
    ∷ handed_back (λ (m : List ℕ). calling_number m (text "+33111111111")) call other_call (text "+33187654321") (text "+4930123456")
    ∷ handed_back (λ (m : List ℕ). reading m 3 1) call other_call (text "<sip:+33187654321@relay.example>;tag=a1")
    (text "\"Doe, J\" <sip:+4930123456@relay.example>;tag=a1")
    ∷ handed_back (λ (m : List ℕ). reading m 15 1) call other_call (text "<sip:+33187654321@relay.example>")
    (text "\"Doe, J\" <sip:+4930123456@relay.example>")
    ∷ []
