-- CR 3: the report of a recording, number by number, and its text.
use Rattle.std.specs.Prelude.{Bool, not, cond, ◌&&◌, List, [], ◌∷◌, ◌++◌, ℕ, zero, suc, ◌*◌, ◌/◌, eqb, length}
use Rattle.octets.specs.Classes.{text}
use Rattle.sip.specs.Output.{whole_numeral, spaced}
use Rattle.records.specs.Records.{Recording, recording}
use Rattle.records.specs.History.{Outcome, relay_group, other_group, unread_group, history}

-- ---- "Each count is the history's"

-- how many of the history are so
unfoldable pub how_many : (Outcome → Bool) → List Outcome → ℕ
how_many p [] = 0
how_many p (x ∷ h) = let n = how_many p h in cond (p x) (suc n) n

abbrev pub in_group : ℕ → Outcome → Bool
in_group g x = eqb x.group g

abbrev pub in_group_for : ℕ → ℕ → Outcome → Bool
in_group_for g r x = eqb x.group g && eqb x.reason r

abbrev pub is_refused : ℕ → Outcome → Bool
is_refused g x = eqb x.group g && not (eqb x.reason 0)

-- "how many came"
abbrev pub came : ℕ → List Outcome → ℕ
came g h = how_many (in_group g) h

-- how many have that reason; of 0: "how many were accepted"
abbrev pub with_reason : ℕ → List Outcome → ℕ → ℕ
with_reason g h r = how_many (in_group_for g r) h

abbrev pub refusals : ℕ → List Outcome → ℕ
refusals g h = how_many (is_refused g) h

-- "the refusals per 10,000 rounded down (0 when none came)"
unfoldable pub rate : ℕ → ℕ → ℕ
rate refused all = cond (eqb all 0) 0 (10000 * refused / all)

-- ---- the report

-- f of n numbers from i on
unfoldable pub table : ℕ → ℕ → (ℕ → ℕ) → List ℕ
table zero i f = []
table (suc n) i f = f i ∷ table n (suc i) f

-- a line of the report. `refused` has the counts of reasons 1 to 19: none is above 18 (`FewReasons`), and none is left out (`AllReasons`)
pub record Line : Type 0 where
  pub came : ℕ
  pub accepted : ℕ
  pub rate : ℕ
  pub refused : List ℕ

unfoldable pub line_of : ℕ → List Outcome → Line
line_of g h =
    record {
      came = came g h;
      accepted = with_reason g h 0;
      rate = rate (refusals g h) (came g h);
      refused = table 19 1 (with_reason g h);
    }

-- "The last line has the records read and the refusal or 0."
pub record Report : Type 0 where
  pub relay : Line
  pub other : Line
  pub unread : Line
  pub records : ℕ
  pub refusal : ℕ

unfoldable pub report : Recording → Report
report t =
    let h = history t.records in
    record {
      relay = line_of relay_group h;
      other = line_of other_group h;
      unread = line_of unread_group h;
      records = length t.records;
      refusal = t.end;
    }

-- ---- its text

-- "`reason=count` for each count above 0"
unfoldable pub pair : ℕ → ℕ → List ℕ
pair reason n = cond (eqb n 0) [] (spaced reason ++ 61 ∷ whole_numeral n)

-- "rising", of the counts of the reasons from that one on
unfoldable pub pairs : ℕ → List ℕ → List ℕ
pairs reason [] = []
pairs reason (n ∷ ns) = pair reason n ++ pairs (suc reason) ns

-- what follows the name of a line: "how many came, how many were accepted, the refusals per 10,000 .., then `reason=count`", and LF
unfoldable pub line_text : Line → List ℕ
line_text l = ((spaced l.came ++ spaced l.accepted) ++ spaced l.rate) ++ (pairs 1 l.refused ++ 10 ∷ [])

unfoldable pub end_text : ℕ → ℕ → List ℕ
end_text n e = text "end" ++ ((spaced n ++ spaced e) ++ 10 ∷ [])

unfoldable pub printed : Report → List ℕ
printed r =
    (text "relay" ++ line_text r.relay)
    ++ ((text "other" ++ line_text r.other) ++ ((text "unread" ++ line_text r.unread) ++ end_text r.records r.refusal))

-- what a replay of a text prints
unfoldable pub replayed : List ℕ → List ℕ
replayed s = printed (report (recording s))
