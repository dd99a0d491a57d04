-- The cause map: document 01, section "Causes", in its order and words, and CR 4.
use Rattle.std.specs.Prelude.{Bool, false, cond, ◌&&◌, ◌||◌, List, [], ◌∷◌, ℕ, eqb, leb, ltb}
use Rattle.causes.specs.declared.StatusAnswer.{StatusAnswer}
use Rattle.causes.specs.declared.CauseAnswer.{CauseAnswer}

-- "5, 91: 404": an entry of the page, its numbers and what each of them gives
pub record Entry : Type 0 where
  pub keys : List ℕ
  pub gives : ℕ

-- an entry as the page writes it
abbrev pub entry : List ℕ → ℕ → Entry
entry ks n = record { keys = ks; gives = n }

-- the number is one of these; `octets` has the same, and the cause map stands alone, without the byte classes
unfoldable pub among : List ℕ → ℕ → Bool
among [] n = false
among (k ∷ ks) n = eqb n k || among ks n

-- the number is listed: it has a row of its own
unfoldable pub listed : List Entry → ℕ → Bool
listed [] n = false
listed (r ∷ rs) n = among r.keys n || listed rs n

-- what the number's entry gives, and `other` where none lists it
unfoldable pub given : ℕ → List Entry → ℕ → ℕ
given other [] n = other
given other (r ∷ rs) n = cond (among r.keys n) r.gives (given other rs n)

-- "Cause to status (002, the rows our copy shows)", then "From RFC 3398"
unfoldable pub status_entries : List Entry
status_entries =
    entry (5 ∷ 91 ∷ []) 404
    ∷ entry (17 ∷ []) 486
    ∷ entry (18 ∷ 19 ∷ 20 ∷ 21 ∷ 25 ∷ 31 ∷ 34 ∷ 102 ∷ []) 480
    ∷ entry (22 ∷ []) 410
    ∷ entry (27 ∷ []) 502
    ∷ entry (28 ∷ []) 484
    ∷ entry (2 ∷ 3 ∷ 4 ∷ 29 ∷ 38 ∷ 41 ∷ 42 ∷ 43 ∷ 44 ∷ 47 ∷ 50 ∷ 57 ∷ 58 ∷ 63 ∷ 65 ∷ 70 ∷ 79 ∷ 88 ∷ 95 ∷ 97 ∷ 99 ∷ []) 503
    ∷ entry (1 ∷ []) 404
    ∷ entry (111 ∷ 127 ∷ []) 500
    ∷ []

-- "its class end: 31, 47, 63, 79, 95, 111, 127"
unfoldable pub class_ends : List ℕ
class_ends = 31 ∷ 47 ∷ 63 ∷ 79 ∷ 95 ∷ 111 ∷ 127 ∷ []

-- "whichever is next above"; 0 where none is
unfoldable pub next_above : List ℕ → ℕ → ℕ
next_above [] n = 0
next_above (e ∷ es) n = cond (ltb n e) e (next_above es n)

-- CR 4: "the cause whose row gave it". A listed cause has its own; "Any other takes the row of its class end"
unfoldable pub row_of : ℕ → ℕ
row_of c = cond (listed status_entries c) c (next_above class_ends c)

-- the status of a listed row, 0 for any other number
unfoldable pub status_of : ℕ → ℕ
status_of r = given 0 status_entries r

-- "Over 127: refusal 21, status 0"; CR 4: "hand back beside it the cause whose row gave it (0 at 21)"
unfoldable pub status : ℕ → StatusAnswer
status c =
    cond (ltb 127 c) (record { status = 0; row = 0; refusal = 21 }) (record { status = status_of (row_of c); row = row_of c; refusal = 0 })

-- "Status to cause (RFC 3398)"
unfoldable pub cause_entries : List Entry
cause_entries =
    entry (404 ∷ 485 ∷ 604 ∷ []) 1
    ∷ entry (486 ∷ 600 ∷ []) 17
    ∷ entry (480 ∷ []) 18
    ∷ entry (401 ∷ 402 ∷ 403 ∷ 407 ∷ 603 ∷ []) 21
    ∷ entry (410 ∷ []) 22
    ∷ entry (482 ∷ 483 ∷ []) 25
    ∷ entry (484 ∷ []) 28
    ∷ entry (502 ∷ []) 38
    ∷ entry (400 ∷ 481 ∷ 500 ∷ 503 ∷ []) 41
    ∷ entry (405 ∷ []) 63
    ∷ entry (406 ∷ 415 ∷ 501 ∷ []) 79
    ∷ entry (408 ∷ 504 ∷ []) 102
    ∷ []

-- "other 400 to 699: 127" ("it fixes none for 487, 488 and 606, and we use 127")
unfoldable pub cause_of : ℕ → ℕ
cause_of s = given 127 cause_entries s

-- "Outside: refusal 22, cause 0"
unfoldable pub cause : ℕ → CauseAnswer
cause s = cond (leb 400 s && leb s 699) (record { cause = cause_of s; refusal = 0 }) (record { cause = 0; refusal = 22 })
