-- Worked texts and what their replay prints.
use Rattle.std.specs.Prelude.{◌≡◌, List, [], ◌∷◌, ◌++◌, ℕ, zero, suc}
use Prim.Native.String.{String}
use Rattle.octets.specs.Classes.{text}
use Rattle.sip.specs.Starred.{lines_of, call, blank_buffer}
use Rattle.records.specs.Records.{record_bytes}
use Rattle.records.specs.Report.{rate, replayed}

-- a record of a message on a side
unfoldable pub on_side : ℕ → List ℕ → List ℕ
on_side side m = record_bytes (record { side = side; message = m })

unfoldable pub all_lines : List String → List ℕ
all_lines [] = []
all_lines (l ∷ ls) = text l ++ 10 ∷ all_lines ls

pub record Example : Type 0 where
  pub given : List ℕ
  pub prints : List ℕ

abbrev row : List ℕ → String → String → String → String → Example
row s relay other unread end = record { given = s; prints = all_lines (relay ∷ other ∷ unread ∷ end ∷ []) }

-- a text without a whole record
abbrev none : List ℕ → String → Example
none s end = row s "relay 0 0 0" "other 0 0 0" "unread 0 0 0" end

-- an OPTIONS with that field, from which all mandatory fields are missing but Via: reason 12
abbrev with_field : String → List ℕ
with_field f = lines_of ("OPTIONS sip:h SIP/2.0" ∷ "v: x" ∷ f ∷ [])

abbrev bye : List ℕ
bye = lines_of ("BYE sip:h SIP/2.0" ∷ [])

abbrev info : List ℕ
info = lines_of ("INFO sip:h SIP/2.0" ∷ [])

-- an ACK that is accepted, and with these lines more
abbrev ack_with : List String → List ℕ
ack_with fs =
    lines_of
    ("ACK sip:h SIP/2.0" ∷ "v: x" ∷ "Max-Forwards: 1" ∷ "f: <sip:h>;tag=a" ∷ "t: <sip:h>" ∷ "i: x" ∷ "CSeq: 1 ACK" ∷ fs)

abbrev ack : List ℕ
ack = ack_with []

abbrev relay_ack : List ℕ
relay_ack = ack_with ("X-Relay-Mode:" ∷ [])

unfoldable pub times : ℕ → List ℕ → List ℕ
times zero s = []
times (suc n) s = s ++ times n s

-- a BYE with n fields `a:` and then the field
abbrev bye_after : ℕ → List ℕ
bye_after n = text "BYE sip:h SIP/2.0\r\n" ++ (times n (text "a:\r\n") ++ text "X-Relay-Mode:\r\n\r\n")

unfoldable pub examples : List Example
examples =
    -- "One record of document 01's call gives"
    row (on_side 1 call) "relay 1 1 0" "other 0 0 0" "unread 0 0 0" "end 1 0"
    ∷ row (on_side 0 call) "relay 1 1 0" "other 0 0 0" "unread 0 0 0" "end 1 0"
    ∷ none [] "end 0 0"
    -- "bad mark 31"
    ∷ none (0 ∷ []) "end 0 31"
    ∷ none (78 ∷ []) "end 0 31"
    ∷ none (83 ∷ 0 ∷ []) "end 0 31"
    ∷ none (78 ∷ 83 ∷ 0 ∷ 0 ∷ 0 ∷ []) "end 0 31"
    -- the mark has no letter case
    ∷ none (115 ∷ 110 ∷ 0 ∷ 0 ∷ 0 ∷ []) "end 0 31"
    -- "record cut short 32"; "A lone 53 at the end is 32"
    ∷ none (83 ∷ []) "end 0 32"
    ∷ none (83 ∷ 78 ∷ []) "end 0 32"
    ∷ none (83 ∷ 78 ∷ 0 ∷ []) "end 0 32"
    ∷ none (83 ∷ 78 ∷ 0 ∷ 0 ∷ []) "end 0 32"
    ∷ none (83 ∷ 78 ∷ 0 ∷ 0 ∷ 1 ∷ []) "end 0 32"
    -- "a two-byte length (high byte first)"
    ∷ none (83 ∷ 78 ∷ 0 ∷ 1 ∷ 0 ∷ 0 ∷ []) "end 0 32"
    ∷ row (83 ∷ 78 ∷ 0 ∷ 0 ∷ 1 ∷ 0 ∷ []) "relay 0 0 0" "other 0 0 0" "unread 1 0 10000 3=1" "end 1 0"
    -- a mark inside a message is none
    ∷ row (on_side 0 (on_side 0 [])) "relay 0 0 0" "other 0 0 0" "unread 1 0 10000 3=1" "end 1 0"
    -- "messages with reasons 1 to 5, which stand in no other line"
    ∷ row (on_side 7 call) "relay 0 0 0" "other 0 0 0" "unread 1 0 10000 1=1" "end 1 0"
    ∷ row (on_side 2 []) "relay 0 0 0" "other 0 0 0" "unread 1 0 10000 1=1" "end 1 0"
    ∷ row (on_side 0 (blank_buffer 8193)) "relay 0 0 0" "other 0 0 0" "unread 1 0 10000 2=1" "end 1 0"
    ∷ row (on_side 0 []) "relay 0 0 0" "other 0 0 0" "unread 1 0 10000 3=1" "end 1 0"
    ∷ row (on_side 0 (text "OPTIONS sip:h SIP/2.0\r\nX-Relay-Mode: text\r\n")) "relay 0 0 0" "other 0 0 0" "unread 1 0 10000 4=1" "end 1 0"
    ∷ row (on_side 0 (lines_of ("BYE sip:h SIP/2.0" ∷ "X-Relay-Mode text" ∷ []))) "relay 0 0 0" "other 0 0 0" "unread 1 0 10000 4=1" "end 1 0"
    -- 97 fields are one too many, 96 are not
    ∷ row (on_side 0 (bye_after 96)) "relay 0 0 0" "other 0 0 0" "unread 1 0 10000 5=1" "end 1 0"
    ∷ row (on_side 0 (bye_after 95)) "relay 1 0 10000 12=1" "other 0 0 0" "unread 0 0 0" "end 1 0"
    ∷ row (times 10 (on_side 0 [])) "relay 0 0 0" "other 0 0 0" "unread 10 0 10000 3=10" "end 10 0"
    -- "callers with `X-Relay-Mode` (any case, at least once)"
    ∷ row (on_side 0 (with_field "x-RELAY-mode \t:")) "relay 1 0 10000 12=1" "other 0 0 0" "unread 0 0 0" "end 1 0"
    ∷ row (on_side 0 (lines_of ("INFO sip:h SIP/2.0" ∷ "X-Relay-Mode: a" ∷ "x-relay-mode: b" ∷ [])))
    "relay 1 0 10000 6=1" "other 0 0 0" "unread 0 0 0" "end 1 0"
    ∷ row (on_side 0 (lines_of ("SIP/2.0 700 x" ∷ "X-Relay-Mode:" ∷ []))) "relay 1 0 10000 17=1" "other 0 0 0" "unread 0 0 0" "end 1 0"
    -- "for the others"
    ∷ row (on_side 0 ack) "relay 0 0 0" "other 1 1 0" "unread 0 0 0" "end 1 0"
    ∷ row (on_side 0 (with_field "X-Relay-Mod: text")) "relay 0 0 0" "other 1 0 10000 12=1" "unread 0 0 0" "end 1 0"
    ∷ row (on_side 0 (with_field "Subject: a\r\n X-Relay-Mode: text")) "relay 0 0 0" "other 1 0 10000 12=1" "unread 0 0 0" "end 1 0"
    ∷ row (on_side 0 (with_field "X-Relay-Mode-2: text")) "relay 0 0 0" "other 1 0 10000 12=1" "unread 0 0 0" "end 1 0"
    ∷ row (on_side 0 (bye ++ text "X-Relay-Mode: text\r\n")) "relay 0 0 0" "other 1 0 10000 12=1" "unread 0 0 0" "end 1 0"
    -- "the refusals per 10,000 rounded down"
    ∷ row (on_side 1 call ++ (on_side 1 call ++ on_side 1 (with_field "X-Relay-Mode: "))) "relay 3 2 3333 12=1" "other 0 0 0" "unread 0 0 0" "end 3 0"
    ∷ row (on_side 0 relay_ack ++ times 2 (on_side 0 (with_field "X-Relay-Mode:"))) "relay 3 1 6666 12=2" "other 0 0 0" "unread 0 0 0" "end 3 0"
    ∷ row (on_side 0 ack ++ (on_side 0 relay_ack ++ on_side 0 info)) "relay 1 1 0" "other 2 1 5000 6=1" "unread 0 0 0" "end 3 0"
    -- "rising"; a status of 700 is 17
    ∷ row (on_side 0 (lines_of ("SIP/2.0 700 x" ∷ [])) ++ (on_side 0 bye ++ (on_side 0 info ++ on_side 0 bye)))
    "relay 0 0 0" "other 4 0 10000 6=1 12=2 17=1" "unread 0 0 0" "end 4 0"
    -- "at any of them the report covers the whole records before it"
    ∷ row (on_side 1 call ++ (on_side 0 bye ++ (on_side 0 [] ++ 83 ∷ []))) "relay 1 1 0" "other 1 0 10000 12=1" "unread 1 0 10000 3=1" "end 3 32"
    ∷ row (on_side 1 call ++ (0 ∷ on_side 0 bye)) "relay 1 1 0" "other 0 0 0" "unread 0 0 0" "end 1 31"
    ∷ row (on_side 0 [] ++ 10 ∷ []) "relay 0 0 0" "other 0 0 0" "unread 1 0 10000 3=1" "end 1 31"
    ∷ row (on_side 0 [] ++ 83 ∷ 78 ∷ 0 ∷ 0 ∷ 2 ∷ 65 ∷ []) "relay 0 0 0" "other 0 0 0" "unread 1 0 10000 3=1" "end 1 32"
    ∷ []

-- ---- CR 8: "A replay starts with none held", and the table goes from record to record

-- a withheld INVITE with the Call-ID of one byte b, and a BYE of the same call
abbrev hidden_invite : ℕ → List ℕ
hidden_invite b =
    text "INVITE sip:112@h SIP/2.0\r\nv: x\r\nMax-Forwards: 9\r\nf: <sip:h>;tag=a\r\nt: sip:h\r\ni: "
    ++ b ∷ text "\r\nCSeq: 1 INVITE\r\nm: x\r\nAllow:\r\nP-Asserted-Identity: tel:+33187654321\r\nPrivacy: id\r\n\r\n"

abbrev its_bye : ℕ → List ℕ
its_bye b =
    text "BYE sip:112@h SIP/2.0\r\nv: x\r\nMax-Forwards: 9\r\nf: <sip:h>;tag=a\r\nt: sip:h;tag=b\r\ni: " ++ b ∷ text "\r\nCSeq: 2 BYE\r\n\r\n"

-- such INVITEs to side 1 with n Call-IDs, from b on
unfoldable pub hidden_invites : ℕ → ℕ → List ℕ
hidden_invites zero b = []
hidden_invites (suc n) b = on_side 1 (hidden_invite b) ++ hidden_invites n (suc b)

unfoldable pub call_examples : List Example
call_examples =
    -- "18 .. when a new pair meets 32 held ones"
    row (hidden_invites 33 33) "relay 0 0 0" "other 33 32 303 18=1" "unread 0 0 0" "end 33 0"
    -- and not where a BYE has removed one
    ∷ row (hidden_invites 32 33 ++ (on_side 1 (its_bye 56) ++ hidden_invites 1 65)) "relay 0 0 0" "other 34 34 0" "unread 0 0 0" "end 34 0"
    ∷ []

pub data AllPrint : List Example → Type 0 where
  no_example : AllPrint []
  example : {x : Example} {xs : List Example} → replayed x.given ≡ x.prints → AllPrint xs → AllPrint (x ∷ xs)

-- ---- "the refusals per 10,000 rounded down (0 when none came)"

pub record Share : Type 0 where
  pub refused : ℕ
  pub all : ℕ
  pub rate : ℕ

abbrev of : ℕ → ℕ → ℕ → Share
of refused all rate = record { refused = refused; all = all; rate = rate }

unfoldable pub shares : List Share
shares = of 0 0 0 ∷ of 1 10001 0 ∷ of 1 3 3333 ∷ of 2 3 6666 ∷ of 999999 1000000 9999 ∷ of 3 3 10000 ∷ []

pub data AllRates : List Share → Type 0 where
  no_share : AllRates []
  share : {x : Share} {xs : List Share} → rate x.refused x.all ≡ x.rate → AllRates xs → AllRates (x ∷ xs)
