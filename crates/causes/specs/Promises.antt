-- What holds of the cause map, as statements; their proofs are in proofs/.
use Rattle.std.specs.Prelude.{◌≡◌, true, false, cond, List, [], ◌∷◌, ℕ, ◌≤◌, ◌<◌, eqb, leb, ltb}
use Rattle.causes.specs.declared.StatusAnswer.{StatusAnswer}
use Rattle.causes.specs.Causes.{among, listed, status_entries, class_ends, status}

-- ---- CR 4: "Every status stays"

-- the causes after the run before, up to the last, and their status
pub record Run : Type 0 where
  pub last : ℕ
  pub gives : ℕ

abbrev to : ℕ → ℕ → Run
to c s = record { last = c; gives = s }

-- the statuses that the map gave before CR 4, from 0 on: written out, and not worked out from the listed causes
unfoldable pub statuses_before : List Run
statuses_before =
    to 0 480 ∷ to 1 404 ∷ to 4 503 ∷ to 5 404 ∷ to 16 480 ∷ to 17 486 ∷ to 21 480 ∷ to 22 410 ∷ to 26 480 ∷ to 27 502 ∷ to 28 484 ∷ to 29 503
    ∷ to 31 480 ∷ to 33 503 ∷ to 34 480 ∷ to 90 503 ∷ to 91 404 ∷ to 95 503 ∷ to 96 500 ∷ to 97 503 ∷ to 98 500 ∷ to 99 503 ∷ to 101 500
    ∷ to 102 480 ∷ to 127 500 ∷ []

-- the status of the run that has the cause, 0 after the last
unfoldable pub in_runs : List Run → ℕ → ℕ
in_runs [] c = 0
in_runs (r ∷ rs) c = cond (leb c r.last) r.gives (in_runs rs c)

abbrev pub EveryStatusStays : Type 0
EveryStatusStays = (c : ℕ) → ((status c).status ≡ in_runs statuses_before c) × ((status c).refusal ≡ cond (ltb 127 c) 21 0)

-- ---- "the cause whose row gave it"

-- the causes that document 01 lists, rising
unfoldable pub listed_causes : List ℕ
listed_causes =
    1 ∷ 2 ∷ 3 ∷ 4 ∷ 5 ∷ 17 ∷ 18 ∷ 19 ∷ 20 ∷ 21 ∷ 22 ∷ 25 ∷ 27 ∷ 28 ∷ 29 ∷ 31 ∷ 34 ∷ 38 ∷ 41 ∷ 42 ∷ 43 ∷ 44 ∷ 47 ∷ 50 ∷ 57 ∷ 58 ∷ 63 ∷ 65 ∷ 70 ∷ 79
    ∷ 88 ∷ 91 ∷ 95 ∷ 97 ∷ 99 ∷ 102 ∷ 111 ∷ 127 ∷ []

abbrev pub Listed : Type 0
Listed = (c : ℕ) → listed status_entries c ≡ among listed_causes c

-- a cause is its own row exactly where it is listed
abbrev pub OwnRow : Type 0
OwnRow = (c : ℕ) → eqb (status c).row c ≡ listed status_entries c

-- "31, 47, 63, 79, 95, 111, 127, whichever is next above": a class end above the cause, and no class end between them
pub record NextAbove (c e : ℕ) : Type 0 where
  pub is_end : among class_ends e ≡ true
  pub above : c < e
  pub next : (x : ℕ) → among class_ends x ≡ true → c < x → e ≤ x

-- "Any other takes the row of its class end"
abbrev pub ClassEndRow : Type 0
ClassEndRow = (c : ℕ) → c ≤ 127 → listed status_entries c ≡ false → NextAbove c (status c).row

-- the row is a listed cause that has this status by itself: asked for the row, the map gives the same answer
pub record HasRow (c : ℕ) : Type 0 where
  pub is_listed : listed status_entries (status c).row ≡ true
  pub same : status (status c).row ≡ status c

abbrev pub RowGives : Type 0
RowGives = (c : ℕ) → c ≤ 127 → HasRow c

-- ---- "(0 at 21)"

abbrev pub OverRefused : Type 0
OverRefused = (c : ℕ) → 127 < c → status c ≡ record { status = 0; row = 0; refusal = 21 }

-- no other cause is refused; its row is of 1 to 127 and its status of 404 to 503, so that status 0 and row 0 say 21 by themselves
pub record Answers (c : ℕ) : Type 0 where
  pub not_refused : (status c).refusal ≡ 0
  pub some_row : (1 ≤ (status c).row) × ((status c).row ≤ 127)
  pub some_status : (404 ≤ (status c).status) × ((status c).status ≤ 503)

abbrev pub NoneRefused : Type 0
NoneRefused = (c : ℕ) → c ≤ 127 → Answers c

-- ---- worked cases

pub record Case : Type 0 where
  pub cause : ℕ
  pub gives : StatusAnswer

abbrev case : ℕ → ℕ → ℕ → ℕ → Case
case c s r f = record { cause = c; gives = record { status = s; row = r; refusal = f } }

unfoldable pub cases : List Case
cases =
    -- "cause 26: 480"
    case 26 480 31 0
    -- listed, by 002 and by RFC 3398
    ∷ case 5 404 5 0
    ∷ case 91 404 91 0
    ∷ case 43 503 43 0
    ∷ case 1 404 1 0
    ∷ case 111 500 111 0
    ∷ case 127 500 127 0
    -- the class ends are listed
    ∷ case 31 480 31 0
    ∷ case 47 503 47 0
    -- not listed: the first and the last of a class
    ∷ case 0 480 31 0
    ∷ case 30 480 31 0
    ∷ case 32 503 47 0
    ∷ case 110 500 111 0
    ∷ case 112 500 127 0
    ∷ case 126 500 127 0
    -- a listed cause may have another status than its class end
    ∷ case 34 480 34 0
    ∷ case 102 480 102 0
    -- "Over 127"; no number is cut to seven, eight or 32 bits
    ∷ case 128 0 0 21
    ∷ case 154 0 0 21
    ∷ case 282 0 0 21
    ∷ case 4294967322 0 0 21
    ∷ case 18446744073709551615 0 0 21
    ∷ []

pub data AllGive : List Case → Type 0 where
  no_case : AllGive []
  one_case : {x : Case} {xs : List Case} → status x.cause ≡ x.gives → AllGive xs → AllGive (x ∷ xs)
