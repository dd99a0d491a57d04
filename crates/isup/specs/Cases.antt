-- CR 7, worked cases: numbers written as octets, octets read, messages with what they give, and causes.
use Rattle.std.specs.Prelude.{◌≡◌, Bool, true, false, cond, List, [], ◌∷◌, ◌++◌, ℕ, ◌+◌, ◌-◌, ◌*◌, leb, replicate}
use Prim.Native.String.{String}
use Rattle.octets.specs.Classes.{text}
use Rattle.sip.specs.Starred.{lines_of, call}
use Rattle.sip.specs.Hidden.{short_call, ann, plain_to, tagged_to}
use Rattle.isup.specs.Answers.{Parameter}
use Rattle.isup.specs.Answers.{Caller}
use Rattle.isup.specs.Forward.{encoded, no_parameter, parameter_of, produced}
use Rattle.isup.specs.Backward.{no_caller, caller_with, decoded, status_for}

-- ---- what the rows are put together from

-- the value of a hexadecimal digit
abbrev half : ℕ → ℕ
half b = cond (leb b 57) (b - 48) (b - 55)

-- octets as Q.763's readers write them, with a space between two
unfoldable pub hex_in : List ℕ → List ℕ
hex_in [] = []
hex_in (a ∷ []) = []
hex_in (a ∷ b ∷ []) = (16 * half a + half b) ∷ []
hex_in (a ∷ b ∷ space ∷ s) = (16 * half a + half b) ∷ hex_in s

unfoldable pub hex : String → List ℕ
hex s = hex_in (text s)

-- a code, home, restricted, a number, and its octets; a code, octets, and what they give; a message, a code, home, and what it gives; a cause, its
-- status and refusal
pub data Case : Type 0 where
  writes : String → Bool → Bool → String → String → Case
  reads : String → List ℕ → Caller → Case
  gives : List ℕ → String → Bool → Parameter → Case
  becomes : ℕ → ℕ → ℕ → Case

abbrev pub Holds : Case → Type 0
Holds (writes code home restricted number s) = encoded (text code) home restricted (text number) ≡ hex s
Holds (reads code s caller) = decoded (text code) s ≡ caller
Holds (gives m code home p) = produced m (text code) home ≡ p
Holds (becomes cause status refusal) = status_for cause ≡ record { status = status; refusal = refusal }

-- shown and restricted
abbrev shown : String → Caller
shown number = caller_with false (text number)

abbrev restricted : String → Caller
restricted number = caller_with true (text number)

-- octets that are refused, with the code 33
abbrev refuses : String → ℕ → Case
refuses s refusal = reads "33" (hex s) (no_caller refusal)

-- a code that is refused, both ways
abbrev bad_code : String → List Case
bad_code code = gives call code true (no_parameter 41 0 0 0) ∷ reads code (hex "84 13 33 81 67 45 23 01") (no_caller 41) ∷ []

abbrev parameter : String → Parameter
parameter s = parameter_of (hex s)

abbrev sip : List String
sip = "P-Asserted-Identity: <sip:+33187654321@h>" ∷ []

-- a call with these fields, the code 33, home
abbrev call_gives : List String → List String → String → Case
call_gives asserted others s = gives (short_call ann plain_to asserted others) "33" true (parameter s)

-- a re-INVITE, one whose tag stands behind a fold, a BYE, a response that is accepted, a call without hops and one without an identity
abbrev reinvite : List ℕ
reinvite = short_call ann tagged_to sip []

abbrev folded_tag : List ℕ
folded_tag = short_call ann "To: <sip:112@gw.example>\r\n\t;TAG=d4" sip []

abbrev bye : List ℕ
bye =
    lines_of
    ("BYE sip:112@gw.example SIP/2.0" ∷ "Via: x" ∷ "Max-Forwards: 9" ∷ "From: <sip:+33187654321@h>;tag=x" ∷ tagged_to ∷ "Call-ID: 8" ∷ "CSeq: 2 BYE"
    ∷ [])

abbrev ok : List ℕ
ok =
    lines_of
    ("SIP/2.0 200 OK" ∷ "Via: x" ∷ "From: <sip:+33187654321@h>;tag=x" ∷ tagged_to ∷ "Call-ID: 8" ∷ "CSeq: 1 INVITE" ∷ "Contact: x" ∷ [])

abbrev hopless : List ℕ
hopless =
    lines_of
    ("INVITE sip:112@gw.example SIP/2.0" ∷ "Via: x" ∷ "Max-Forwards: 0" ∷ "From: <sip:+33187654321@h>;tag=x" ∷ plain_to ∷ "Call-ID: 8"
    ∷ "CSeq: 1 INVITE" ∷ "Contact: x" ∷ "Allow: " ∷ sip)

abbrev nobody : List ℕ
nobody = short_call ann plain_to [] []

-- ---- the rows

-- a number as octets
unfoldable pub written : List Case
written =
    -- withheld or shown, home or not, odd and even
    writes "33" true true "+33187654321" "83 17 81 67 45 23 01"
    ∷ writes "33" false true "+33187654321" "84 17 33 81 67 45 23 01"
    ∷ writes "33" true false "+33187654321" "83 13 81 67 45 23 01"
    ∷ writes "33" true false "+331234567890" "03 13 21 43 65 87 09"
    ∷ writes "33" true false "+3318765432" "03 13 81 67 45 23"
    ∷ writes "33" false false "+3318765432" "04 13 33 81 67 45 23"
    -- the number does not start with the code; codes of one and three digits; one that differs in its last digit
    ∷ writes "44" true false "+33187654321" "84 13 33 81 67 45 23 01"
    ∷ writes "3" true false "+33187654321" "03 13 13 78 56 34 12"
    ∷ writes "331" true false "+33187654321" "03 13 78 56 34 12"
    ∷ writes "332" true false "+33187654321" "84 13 33 81 67 45 23 01"
    -- the shortest and the longest; what is left starts with 0
    ∷ writes "123" true false "+1234567" "03 13 54 76"
    ∷ writes "44" false false "+123456789012345" "84 13 21 43 65 87 09 21 43 05"
    ∷ writes "39" true false "+390612345" "83 13 60 21 43 05"
    ∷ []

-- octets that are taken
unfoldable pub taken : List Case
taken =
    reads "33" (hex "83 17 81 67 45 23 01") (restricted "+33187654321")
    ∷ reads "33" (hex "84 17 33 81 67 45 23 01") (restricted "+33187654321")
    ∷ reads "33" (hex "83 13 81 67 45 23 01") (shown "+33187654321")
    ∷ reads "33" (hex "03 13 21 43 65 87 09") (shown "+331234567890")
    ∷ reads "3" (hex "03 13 13 78 56 34 12") (shown "+33187654321")
    ∷ reads "331" (hex "03 13 78 56 34 12") (shown "+33187654321")
    -- even, so that the last 0 is a digit; 0 behind the code; international with our own code
    ∷ reads "33" (hex "03 13 21 43 05") (shown "+33123450")
    ∷ reads "33" (hex "03 13 10 32 54") (shown "+33012345")
    ∷ reads "33" (hex "04 13 33 81 67 45 23") (shown "+3318765432")
    -- the shortest and the longest, both ways
    ∷ reads "33" (hex "84 13 21 43 65 07") (shown "+1234567")
    ∷ reads "33" (hex "84 13 11 11 11 11 11 11 11 01") (shown "+111111111111111")
    ∷ reads "33" (hex "83 13 11 11 11 11 11 11 01") (shown "+331111111111111")
    ∷ []

-- octets that are refused
unfoldable pub refused : List Case
refused =
    -- cut short: before 44 too
    refuses "" 43
    ∷ refuses "04" 43
    ∷ refuses "84" 43
    ∷ refuses "85 13" 43
    ∷ refuses "83 13" 43
    ∷ refuses "80 00" 43
    -- nature of address; number incomplete; numbering plan; presentation; screening
    ∷ refuses "00 13 21 43 65 87" 44
    ∷ refuses "02 13 21 43 65 87" 44
    ∷ refuses "05 13 21 43 65 87" 44
    ∷ refuses "85 13 21 43 65 07" 44
    ∷ refuses "04 93 21 43 65 87" 44
    ∷ refuses "04 03 21 43 65 87" 44
    ∷ refuses "04 23 21 43 65 87" 44
    ∷ refuses "04 1B 21 43 65 87" 44
    ∷ refuses "04 1F 21 43 65 87" 44
    ∷ refuses "04 10 21 43 65 87" 44
    ∷ refuses "04 11 21 43 65" 44
    ∷ refuses "04 12 21 43 65 87" 44
    -- a field, the filler and a digit are wrong; the filler and a digit are; a digit is
    ∷ refuses "85 13 A1 43 65 17" 44
    ∷ refuses "84 13 A1 43 65 17" 45
    ∷ refuses "84 13 1C" 45
    ∷ refuses "84 13 21 43 65 F7" 45
    ∷ refuses "84 13 0C" 46
    ∷ refuses "04 13 A1 43 65 87" 46
    ∷ refuses "04 13 1A 43 65 87" 46
    ∷ refuses "04 13 21 43 65 F7" 46
    ∷ refuses "04 13 21 43 65 B7" 46
    -- no digits; the code alone; too few; 0 in front; too many, and many too many, of which one is no digit
    ∷ refuses "04 13" 47
    ∷ refuses "03 13" 47
    ∷ refuses "04 13 21 43 65" 47
    ∷ refuses "03 13 21 43" 47
    ∷ refuses "04 13 10 32 54 76" 47
    ∷ refuses "04 13 11 11 11 11 11 11 11 11" 47
    ∷ refuses "03 13 11 11 11 11 11 11 11" 47
    ∷ reads "33" (hex "04 13" ++ replicate 100 17) (no_caller 47)
    ∷ reads "33" (hex "04 13" ++ (replicate 99 17 ++ hex "1F")) (no_caller 46)
    ∷ reads "33" (hex "84 13" ++ (replicate 99 17 ++ hex "1F")) (no_caller 45)
    -- a bad code goes before all of them, also where it is not used
    ∷ reads "033" (hex "84 13 1C") (no_caller 41)
    ∷ reads "" [] (no_caller 41)
    ∷ []

-- messages, codes and causes
unfoldable pub given : List Case
given =
    -- document 01's call
    gives call "33" true (parameter "83 17 81 67 45 23 01")
    ∷ gives call "33" false (parameter "84 17 33 81 67 45 23 01")
    ∷ gives call "44" true (parameter "84 17 33 81 67 45 23 01")
    -- Privacy
    ∷ call_gives sip [] "83 13 81 67 45 23 01"
    ∷ call_gives sip ("Privacy: none" ∷ []) "83 13 81 67 45 23 01"
    ∷ call_gives sip ("Privacy: user" ∷ []) "83 17 81 67 45 23 01"
    ∷ call_gives sip ("pRIVACY: none; HEADER" ∷ []) "83 17 81 67 45 23 01"
    -- two identities, in either order, in one field and in two; a tel one alone
    ∷ call_gives ("P-Asserted-Identity: tel:+4930123456, <sip:+33187654321@h>" ∷ []) [] "83 13 81 67 45 23 01"
    ∷ call_gives ("P-Asserted-Identity: <sip:+33187654321@h>" ∷ "P-Asserted-Identity: tel:+4930123456" ∷ []) [] "83 13 81 67 45 23 01"
    ∷ call_gives ("P-Asserted-Identity: tel:+4930123456" ∷ []) [] "04 13 94 03 21 43 65"
    -- fields that are ignored
    ∷ call_gives sip ("X-Relay-Mode: text" ∷ "Reason: ;" ∷ "s: hello" ∷ []) "83 13 81 67 45 23 01"
    -- no initial INVITE, before the code is asked for
    ∷ gives reinvite "33" true (no_parameter 42 0 0 0)
    ∷ gives folded_tag "33" true (no_parameter 42 0 0 0)
    ∷ gives bye "0" true (no_parameter 42 0 0 0)
    ∷ gives ok "0" false (no_parameter 42 0 0 0)
    -- the screen's own before both
    ∷ gives hopless "0" true (no_parameter 13 483 0 0)
    ∷ gives nobody "0" true (no_parameter 12 400 15 1)
    ∷ gives [] "33" true (no_parameter 3 0 0 0)
    ∷ (bad_code "" ++ (bad_code "0" ++ (bad_code "033" ++ (bad_code "1234" ++ (bad_code "3a" ++ (bad_code "+33" ++ bad_code " 3"))))))
    -- causes from the trunk
    ++ (becomes 17 486 0 ∷ becomes 26 480 0 ∷ becomes 127 500 0 ∷ becomes 128 0 21 ∷ [])

-- every row holds
pub data AllHold : List Case → Type 0 where
  no_row : AllHold []
  row : {c : Case} {cs : List Case} → Holds c → AllHold cs → AllHold (c ∷ cs)

unfoldable pub cases : List Case
cases = written ++ (taken ++ (refused ++ given))
