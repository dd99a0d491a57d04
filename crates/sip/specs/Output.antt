-- Document 01, "The outgoing message", of requests and (CR 1) responses.
use Rattle.std.specs.Prelude.{Bool, cond, ◌&&◌, List, [], ◌∷◌, ◌++◌, ℕ, zero, suc, ◌+◌, ◌-◌, ◌/◌, ◌%◌, ltb, eqb, length}
use Rattle.octets.specs.Classes.{text}
use Rattle.octets.specs.Scans.{decimal}
use Rattle.sip.specs.Lines.{Start, request, response, start_bytes, crlf}
use Rattle.sip.specs.Profile.{name_of}
use Rattle.sip.specs.Values.{tag_of}
use Rattle.sip.specs.Refusals.{Entry, Passed}

-- a number's digits "without leading zeros", k of them at most
unfoldable pub digits : ℕ → ℕ → List ℕ
digits zero n = []
digits (suc k) n = let higher = digits k (n / 10) in cond (ltb n 10) ((48 + n) ∷ []) (higher ++ ((48 + n % 10) ∷ []))

-- Max-Forwards and Content-Length have at most five digits
abbrev pub numeral : ℕ → List ℕ
numeral n = digits 5 n

-- CR 3: any number of 64 bits; none has more than twenty digits
abbrev pub whole_numeral : ℕ → List ℕ
whole_numeral n = digits 20 n

-- a space, and the number
abbrev pub spaced : ℕ → List ℕ
spaced n = 32 ∷ whole_numeral n

-- the start line as it goes out: "`Sip/2.0` (letters in either case, written in capitals)"
unfoldable pub start_line : Start → List ℕ
start_line (request l) = start_bytes (request l) (text " SIP/2.0\r\n")
start_line (response l) = start_bytes (response l) (text "SIP/2.0 ")

-- how many bytes of a start line stand before its version: the writer copies the line and writes the version over it
abbrev pub before_version : Start → ℕ
before_version (request l) = length l.method + 1 + length l.uri + 1
before_version (response l) = 0

-- "From's value is `"Anonymous" <sip:anonymous@anonymous.invalid>;tag=` and the old tag"
unfoldable pub anonymous : List ℕ
anonymous = text "\"Anonymous\" <sip:anonymous@anonymous.invalid>;tag="

-- a kept field's value as it goes out: "canonical value"; "Max-Forwards is one less and Content-Length is the body's", whose
-- length is told; From's where the caller is masked
unfoldable pub sent_value : Bool → ℕ → Entry → List ℕ
sent_value masked body e =
    cond (eqb e.number 2) (numeral (decimal 0 e.value - 1))
    (cond (eqb e.number 8) (numeral body)
    (cond (masked && eqb e.number 3) (anonymous ++ tag_of e.value) e.value))

-- "long name as listed, colon, one space, canonical value, CRLF"
unfoldable pub line : ℕ → List ℕ → List ℕ
line n v = name_of n ++ 58 ∷ 32 ∷ (v ++ crlf)

-- "the fields not ignored in message order"; "P-Asserted-Identity is dropped" where the caller is masked, CR 6: "all of them go"
unfoldable pub field_lines : Bool → ℕ → List Entry → List ℕ
field_lines masked body [] = []
field_lines masked body (e ∷ es) =
    let others = field_lines masked body es in
    cond (masked && eqb e.number 15) others (line e.number (sent_value masked body e) ++ others)

-- "Start line, then the fields .., then the empty line and the body." Masked: "On side 1 with the caller withheld", and CR 8: a "request to side
-- 1 with a remembered pair"
unfoldable pub output : Bool → Passed → List ℕ
output masked r = start_line r.line ++ (field_lines masked (length r.body) r.fields ++ (crlf ++ r.body))
