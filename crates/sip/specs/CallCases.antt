-- CR 8, worked cases: operations one after the other with a table, what each of them gives, and the table that they leave.
use Rattle.std.specs.Prelude.{◌≡◌, List, [], ◌∷◌, ◌++◌, map, ℕ, zero, suc, ◌*◌, drop, replicate}
use Prim.Native.String.{String}
use Rattle.octets.specs.Classes.{text}
use Rattle.sip.specs.Refusals.{refusal}
use Rattle.sip.specs.Calls.{Pair, place_with, held, none_held, ending}
use Rattle.sip.specs.Screen.{screened}
use Rattle.sip.specs.History.{Operation, screening, ending_of, table_after, table_through}
use Rattle.sip.specs.Starred.{lines_of, blank_buffer, Given, given, refusing}

-- ---- a row

-- what an operation gives: a screening its answer and the buffer afterwards, an explicit end its number
pub data Gives : Type 0 where
  screens : Given → Gives
  ends : ℕ → Gives

abbrev pub given_by : Operation → List ℕ → Gives
given_by (screening m side buffer) table = screens (given (screened m side table buffer))
given_by (ending_of p) table = ends (ending p table)

-- each of them with the table that the one before leaves
unfoldable pub all_given : List ℕ → List Operation → List Gives
all_given table [] = []
all_given table (o ∷ os) = given_by o table ∷ all_given (table_after o table) os

pub record Step : Type 0 where
  pub operation : Operation
  pub gives : Gives

-- the table before, the operations, the table after them, and the pairs that it holds
pub record Run : Type 0 where
  pub before : List ℕ
  pub steps : List Step
  pub after : List ℕ
  pub holding : List Pair

abbrev pub operations_of : Run → List Operation
operations_of r = map (λ (s : Step). s.operation) r.steps

pub record RunHolds (r : Run) : Type 0 where
  pub each_gives : all_given r.before (operations_of r) ≡ map (λ (s : Step). s.gives) r.steps
  pub leaves : table_through r.before (operations_of r) ≡ r.after
  pub holds : held r.after ≡ r.holding

-- every row holds
pub data RunsHold : List Run → Type 0 where
  no_run : RunsHold []
  run : {r : Run} {rs : List Run} → RunHolds r → RunsHold rs → RunsHold (r ∷ rs)

-- ---- the operations

-- a message to a side, with a buffer of 200 bytes: these n bytes go out, and the other bytes of the buffer stay
abbrev sent : ℕ → List ℕ → ℕ → List ℕ → Step
sent side m n o =
    record {
      operation = screening m side (blank_buffer 200);
      gives =
          screens
          (record { answer = record { reason = 0; reply = 0; detail = 0; missing = 0; length = n }; buffer = o ++ drop n (blank_buffer 200) });
    }

-- a message to side 1, with a buffer of so many bytes, is refused
abbrev refused : ℕ → List ℕ → ℕ → ℕ → ℕ → Step
refused space m reason reply detail =
    record {
      operation = screening m 1 (blank_buffer space);
      gives = screens (refusing (refusal reason reply detail 0) (blank_buffer space));
    }

abbrev ended : Pair → ℕ → Step
ended p n = record { operation = ending_of p; gives = ends n }

-- ---- the messages

-- a request with this start line, From, To and Call-ID, and these fields after them
unfoldable pub request_of : String → String → String → String → List String → List ℕ
request_of line from to id others = lines_of (line ∷ "v: x" ∷ "Max-Forwards: 9" ∷ from ∷ to ∷ id ∷ others)

-- what goes out of it
unfoldable pub request_sent : String → String → String → String → List String → List ℕ
request_sent line from to id others = lines_of (line ∷ "Via: x" ∷ "Max-Forwards: 8" ∷ from ∷ to ∷ id ∷ others)

abbrev ann : String
ann = "From: <sip:+33187654321@h>;tag=a1"

abbrev anonymous : String
anonymous = "From: \"Anonymous\" <sip:anonymous@anonymous.invalid>;tag=a1"

-- the same caller, with another tag
abbrev anns_other : String
anns_other = "From: <sip:+33187654321@h>;tag=A1"

abbrev anonymous_other : String
anonymous_other = "From: \"Anonymous\" <sip:anonymous@anonymous.invalid>;tag=A1"

abbrev identity : String
identity = "P-Asserted-Identity: tel:+33187654321"

-- an initial INVITE with this From, this Call-ID and these fields for Privacy, and what goes out of it where it is masked and where not
abbrev invite : String → String → List String → List ℕ
invite from id privacy =
    request_of "INVITE sip:112@h SIP/2.0" from "To: sip:h" id ("CSeq: 1 INVITE" ∷ "Contact: x" ∷ "Allow: " ∷ identity ∷ privacy)

abbrev invite_hidden : String → String → List String → List ℕ
invite_hidden from id privacy = request_sent "INVITE sip:112@h SIP/2.0" from "To: sip:h" id ("CSeq: 1 INVITE" ∷ "Contact: x" ∷ "Allow: " ∷ privacy)

abbrev invite_shown : String → List String → List ℕ
invite_shown id privacy =
    request_sent "INVITE sip:112@h SIP/2.0" ann "To: sip:h" id ("CSeq: 1 INVITE" ∷ "Contact: x" ∷ "Allow: " ∷ identity ∷ privacy)

abbrev hidden : List String
hidden = "Privacy: id" ∷ []

-- an INVITE of `eight` whose To has a tag, with these fields for Privacy, and what goes out of it where it is masked
abbrev again : List String → List ℕ
again privacy =
    request_of "INVITE sip:112@h SIP/2.0" ann "To: sip:h;tag=b2" "Call-ID: 8" ("CSeq: 2 INVITE" ∷ "Contact: x" ∷ identity ∷ privacy)

abbrev again_hidden : List String → List ℕ
again_hidden privacy =
    request_sent "INVITE sip:112@h SIP/2.0" anonymous "To: sip:h;tag=b2" "Call-ID: 8" ("CSeq: 2 INVITE" ∷ "Contact: x" ∷ privacy)

-- a later request of a call, and what goes out of it with this From
abbrev later : String → String → String → String → List ℕ
later line from id cseq = request_of line from "To: sip:h;tag=b2" id (cseq ∷ [])

abbrev later_sent : String → String → String → String → List ℕ
later_sent line from id cseq = request_sent line from "To: sip:h;tag=b2" id (cseq ∷ [])

abbrev bye : String → String → List ℕ
bye from id = later "BYE sip:112@h SIP/2.0" from id "CSeq: 3 BYE"

abbrev bye_sent : String → String → List ℕ
bye_sent from id = later_sent "BYE sip:112@h SIP/2.0" from id "CSeq: 3 BYE"

-- such a request with the pair of `eight` goes out anonymous
abbrev masked : String → String → ℕ → Step
masked line cseq n = sent 1 (later line ann "Call-ID: 8" cseq) n (later_sent line anonymous "Call-ID: 8" cseq)

-- the withheld INVITE of a call is accepted; so is that of `eight`, and its BYE, with From masked
abbrev enters_id : String → Step
enters_id id = sent 1 (invite ann id hidden) 186 (invite_hidden anonymous id hidden)

abbrev enters : Step
enters = enters_id "Call-ID: 8"

abbrev closes : Step
closes = masked "BYE sip:112@h SIP/2.0" "CSeq: 3 BYE" 153

-- and the BYE goes out bare
abbrev bare : Step
bare = sent 1 (bye ann "Call-ID: 8") 128 (bye_sent ann "Call-ID: 8")

-- ---- the tables

abbrev pair_of : String → String → Pair
pair_of id tag = record { call_id = text id; tag = text tag }

abbrev eight : Pair
eight = pair_of "8" "a1"

abbrev nine : Pair
nine = pair_of "9" "a1"

-- the longest pair
abbrev longest : Pair
longest = record { call_id = replicate 128 65; tag = replicate 64 97 }

-- n places, with the Call-IDs of one byte from b on
unfoldable pub filled : ℕ → ℕ → List ℕ
filled zero b = []
filled (suc n) b = place_with (record { call_id = b ∷ []; tag = text "a1" }) ++ filled n (suc b)

-- their pairs
unfoldable pub numbered : ℕ → ℕ → List Pair
numbered zero b = []
numbered (suc n) b = record { call_id = b ∷ []; tag = text "a1" } ∷ numbered n (suc b)

-- n places of zeros
abbrev free : ℕ → List ℕ
free n = replicate (n * 194) 0

-- `eight` alone
abbrev one : List ℕ
one = place_with eight ++ free 31

-- 32 pairs, with the Call-IDs of one byte from 33 to 64; 56 is `8`
abbrev full : List ℕ
full = filled 32 33

-- places without a well-formed pair: the Call-ID is a byte too long, the tag is, a byte of either is outside its class
abbrev long_id : List ℕ
long_id = (129 ∷ replicate 128 65) ++ (64 ∷ replicate 64 97)

abbrev long_tag : List ℕ
long_tag = (128 ∷ replicate 128 65) ++ (65 ∷ replicate 64 97)

abbrev blank_id : List ℕ
blank_id = (1 ∷ 32 ∷ replicate 127 0) ++ (2 ∷ 97 ∷ 49 ∷ replicate 62 0)

abbrev bad_tag : List ℕ
bad_tag = (1 ∷ 56 ∷ replicate 127 0) ++ (2 ∷ 97 ∷ 64 ∷ replicate 62 0)

-- there is no tag
abbrev no_tag : List ℕ
no_tag = (1 ∷ 56 ∷ replicate 127 0) ++ replicate 65 0

-- a place that holds `eight`, with other bytes behind its texts
abbrev eight_littered : List ℕ
eight_littered = (1 ∷ 56 ∷ replicate 127 7) ++ (2 ∷ 97 ∷ 49 ∷ replicate 62 7)

-- one whose first byte is 0, with other bytes behind it
abbrev littered : List ℕ
littered = 0 ∷ replicate 193 7

abbrev runs : List ℕ → List Step → List ℕ → List Pair → Run
runs before steps after holding = record { before = before; steps = steps; after = after; holding = holding }

-- operations that change no byte of the table
abbrev keeps : List ℕ → List Step → List Pair → Run
keeps table steps holding = runs table steps table holding

unfoldable pub call_cases : List Run
call_cases =
    -- "an accepted, withheld INVITE to side 1 enters its pair", by any of the three (CR 2), also where its To has a tag
    runs none_held (enters ∷ []) one (eight ∷ [])
    ∷ runs none_held
    (sent 1 (invite ann "Call-ID: 8" ("Privacy: user" ∷ [])) 188 (invite_hidden anonymous "Call-ID: 8" ("Privacy: user" ∷ [])) ∷ []) one (eight ∷ [])
    ∷ runs none_held (sent 1 (again ("Privacy: header" ∷ [])) 188 (again_hidden ("Privacy: header" ∷ [])) ∷ []) one (eight ∷ [])
    -- "an accepted BYE to side 1 with the pair, after it is masked .. removes it": not a byte of it stays, and a second BYE goes out bare
    ∷ runs none_held (enters ∷ closes ∷ bare ∷ []) none_held []
    -- "enters its pair once"
    ∷ runs none_held (enters ∷ enters ∷ []) one (eight ∷ [])
    -- "Any accepted request to side 1 with a remembered pair .. has From masked and P-Asserted-Identity dropped": a re-INVITE without Privacy, an
    -- initial INVITE with `none`, ACK, CANCEL, OPTIONS
    ∷ keeps one
    (sent 1 (again []) 171 (again_hidden [])
    ∷ sent 1 (invite ann "Call-ID: 8" ("Privacy: none" ∷ [])) 188 (invite_hidden anonymous "Call-ID: 8" ("Privacy: none" ∷ []))
    ∷ masked "ACK sip:112@h SIP/2.0" "CSeq: 1 ACK" 153
    ∷ masked "CANCEL sip:112@h SIP/2.0" "CSeq: 1 CANCEL" 159
    ∷ masked "OPTIONS sip:112@h SIP/2.0" "CSeq: 3 OPTIONS" 161 ∷ [])
    (eight ∷ [])
    -- side 0: a BYE goes out bare and leaves the pair; a withheld INVITE enters none
    ∷ keeps one (sent 0 (bye ann "Call-ID: 8") 128 (bye_sent ann "Call-ID: 8") ∷ []) (eight ∷ [])
    ∷ keeps none_held (sent 0 (invite ann "Call-ID: 8" hidden) 200 (invite_shown "Call-ID: 8" hidden) ∷ []) []
    -- "A refused request changes nothing": at 16 the length needed is that of the masked message; 14; and then the BYE is accepted
    ∷ runs one
    (refused 152 (bye ann "Call-ID: 8") 16 500 153
    ∷ refused 200 (request_of "BYE sip:112@h SIP/2.0" ann "To: sip:h" "Call-ID: 8" ("CSeq: 3 BYE" ∷ "Require: x" ∷ [])) 14 420 1 ∷ closes ∷ [])
    none_held []
    ∷ keeps none_held (refused 185 (invite ann "Call-ID: 8" hidden) 16 500 186 ∷ []) []
    -- a pair that is not remembered: "From goes out bare"; an INVITE that is not withheld enters none
    ∷ keeps none_held (bare ∷ sent 1 (invite ann "Call-ID: 8" []) 187 (invite_shown "Call-ID: 8" []) ∷ []) []
    -- "compared byte by byte": `a1` and `A1` are two tags, and so are two Call-IDs
    ∷ keeps one
    (sent 1 (bye anns_other "Call-ID: 8") 128 (bye_sent anns_other "Call-ID: 8") ∷ sent 1 (bye ann "Call-ID: 9") 128 (bye_sent ann "Call-ID: 9") ∷ [])
    (eight ∷ [])
    ∷ runs one (sent 1 (invite anns_other "Call-ID: 8" hidden) 186 (invite_hidden anonymous_other "Call-ID: 8" hidden) ∷ [])
    (place_with eight ++ (place_with (pair_of "8" "A1") ++ free 30))
    (eight ∷ pair_of "8" "A1" ∷ [])
    ∷ keeps (place_with (pair_of "x" "a1") ++ free 31)
    (sent 1 (bye ann "Call-ID: X") 128 (bye_sent ann "Call-ID: X") ∷ []) (pair_of "x" "a1" ∷ [])
    -- a response with the pair is not masked, and changes nothing
    ∷ keeps one
    (sent 1 (lines_of ("SIP/2.0 200 OK" ∷ "v: x" ∷ ann ∷ "To: sip:h;tag=b2" ∷ "Call-ID: 8" ∷ "CSeq: 3 BYE" ∷ [])) 104
    (lines_of ("SIP/2.0 200 OK" ∷ "Via: x" ∷ ann ∷ "To: sip:h;tag=b2" ∷ "Call-ID: 8" ∷ "CSeq: 3 BYE" ∷ [])) ∷ [])
    (eight ∷ [])
    -- "an explicit end removes it"; "Ending an unknown pair: 19". No empty text and no tag with a space is held
    ∷ runs one (ended eight 0 ∷ ended eight 19 ∷ bare ∷ []) none_held []
    ∷ keeps none_held (ended (pair_of "" "") 19 ∷ []) []
    ∷ keeps one (ended (pair_of "8" "a 1") 19 ∷ ended (pair_of "8" "") 19 ∷ []) (eight ∷ [])
    -- 128 and 64 bytes are held and removed
    ∷ runs (place_with longest ++ free 31) (ended longest 0 ∷ []) none_held []
    -- "compared byte by byte": more bytes, fewer, and the same ones parted elsewhere are other pairs
    ∷ keeps one (ended (pair_of "88" "a1") 19 ∷ ended (pair_of "8" "a") 19 ∷ ended (pair_of "8a" "1") 19 ∷ []) (eight ∷ [])
    -- two calls: the first ends, the second stays, and the next pair takes the place that is left
    ∷ runs one
    (enters_id "Call-ID: 9" ∷ closes ∷ []) (free 1 ++ (place_with nine ++ free 30))
    (nine ∷ [])
    ∷ runs (free 1 ++ (place_with nine ++ free 30)) (enters ∷ []) (place_with eight ++ (place_with nine ++ free 30)) (eight ∷ nine ∷ [])
    -- "18, reply 503, exactly when a new pair meets 32 held ones; after 15, before 16": any buffer; a bad called number
    ∷ keeps full (refused 200 (invite anns_other "Call-ID: 8" hidden) 18 503 0 ∷ refused 0 (invite anns_other "Call-ID: 8" hidden) 18 503 0 ∷ [])
    (numbered 32 33)
    ∷ keeps full
    (refused 200
    (request_of "INVITE sip:1@h SIP/2.0" anns_other "To: sip:h" "Call-ID: 8" ("CSeq: 1 INVITE" ∷ "Contact: x" ∷ "Allow: " ∷ identity ∷ hidden)) 15 484 0
    ∷ [])
    (numbered 32 33)
    -- a held pair, an INVITE that is not withheld, and a BYE of an unknown pair are accepted; after a BYE there is a place
    ∷ keeps full
    (enters ∷ sent 1 (invite ann "Call-ID: x" []) 187 (invite_shown "Call-ID: x" [])
    ∷ sent 1 (bye ann "Call-ID: x") 128 (bye_sent ann "Call-ID: x") ∷ [])
    (numbered 32 33)
    ∷ runs full (closes ∷ enters_id "Call-ID: x" ∷ [])
    (filled 23 33 ++ (filled 1 120 ++ filled 8 57)) (numbered 23 33 ++ (numbered 1 120 ++ numbered 8 57))
    -- "equal pairs count once": 32 places, one with the pair of an earlier, are 31; the new pair takes that place. Every copy is removed
    ∷ runs (filled 5 33 ++ (filled 1 33 ++ filled 26 65))
    (enters ∷ []) (filled 5 33 ++ (place_with eight ++ filled 26 65)) (numbered 5 33 ++ (eight ∷ numbered 26 65))
    ∷ runs (place_with eight ++ (place_with nine ++ (place_with eight ++ free 29))) (ended eight 0 ∷ []) (free 1 ++ (place_with nine ++ free 30)) (nine ∷ [])
    -- so it is where other bytes stand behind the texts
    ∷ runs (eight_littered ++ (place_with eight ++ free 30)) (closes ∷ bare ∷ []) none_held []
    ∷ runs (eight_littered ++ (place_with eight ++ filled 30 65)) (enters_id "Call-ID: 9" ∷ []) (eight_littered ++ (place_with nine ++ filled 30 65))
    (eight ∷ nine ∷ numbered 30 65)
    -- "a place without a well-formed pair is free": a length over its bound, a byte outside its class
    ∷ runs (filled 3 33 ++ (long_id ++ filled 28 65)) (enters ∷ []) (filled 3 33 ++ (place_with eight ++ filled 28 65))
    (numbered 3 33 ++ (eight ∷ numbered 28 65))
    ∷ runs (filled 31 65 ++ long_tag) (enters ∷ []) (filled 31 65 ++ place_with eight) (numbered 31 65 ++ (eight ∷ []))
    ∷ runs (blank_id ++ filled 31 65) (enters ∷ []) (place_with eight ++ filled 31 65) (eight ∷ numbered 31 65)
    ∷ keeps (bad_tag ++ free 31) (ended (pair_of "8" "a@") 19 ∷ []) []
    ∷ runs (bad_tag ++ filled 31 65) (enters ∷ []) (place_with eight ++ filled 31 65) (eight ∷ numbered 31 65)
    ∷ keeps (no_tag ++ free 31) (ended (pair_of "8" "") 19 ∷ []) []
    ∷ runs (no_tag ++ filled 31 65) (enters ∷ []) (place_with eight ++ filled 31 65) (eight ∷ numbered 31 65)
    -- the first place whose first byte is 0 comes before all of these, and is written whole
    ∷ runs (long_id ++ (filled 1 65 ++ (filled 1 65 ++ (littered ++ free 28)))) (enters ∷ [])
    (long_id ++ (filled 1 65 ++ (filled 1 65 ++ (place_with eight ++ free 28)))) (pair_of "A" "a1" ∷ eight ∷ [])
    ∷ []
