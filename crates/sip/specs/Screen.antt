-- Document 01, "The job": the screening of a message on a side into a buffer, with CR 8's table of calls before it and after it. `screened` is
-- the whole of demand 2: the writing of a verdict.
use Rattle.std.specs.Prelude.{Bool, true, false, not, cond, ◌&&◌, ◌||◌, List, [], ◌++◌, ℕ, leb, eqb, length, drop}
use Rattle.std.proofs.Math.Option.{Option, none, some}
use Rattle.octets.specs.Classes.{text}
use Rattle.octets.specs.Scans.{same}
use Rattle.sip.specs.Lines.{Start, request, response}
use Rattle.sip.specs.Values.{tag_of}
use Rattle.sip.specs.Refusals.{Answer, refusal, replied, Entry, value_of, withheld, Passed, Judgement, refused, accepted, judgement}
use Rattle.sip.specs.Output.{output}
use Rattle.sip.specs.Calls.{Pair, is_held, is_full, entered, removed}

-- ---- CR 8: what an accepted message has to do with the calls that are remembered

abbrev pub value_or : Option (List ℕ) → List ℕ
value_or none = []
value_or (some v) = v

-- its pair: "by Call-ID and From tag"
unfoldable pub call_of : List Entry → Pair
call_of es = record { call_id = value_or (value_of 5 es); tag = tag_of (value_or (value_of 3 es)) }

-- a request of that method
abbrev pub is_request : Start → Bool
is_request (request l) = true
is_request (response l) = false

abbrev pub is_method : List ℕ → Start → Bool
is_method method (request l) = same method l.method
is_method method (response l) = false

-- "an accepted, withheld INVITE to side 1"
unfoldable pub hides : ℕ → Passed → Bool
hides side r = eqb side 1 && (is_method (text "INVITE") r.line && withheld r.fields)

-- "an accepted BYE to side 1"
unfoldable pub closes : ℕ → Passed → Bool
closes side r = eqb side 1 && is_method (text "BYE") r.line

-- document 01: "On side 1 with the caller withheld"; CR 8: "Any accepted request to side 1 with a remembered pair .. has From masked and
-- P-Asserted-Identity dropped as in document 01"
unfoldable pub masks : ℕ → List ℕ → Passed → Bool
masks side table r = eqb side 1 && (withheld r.fields || (is_request r.line && is_held (call_of r.fields) table))

-- reason 18: "exactly when a new pair meets 32 held ones"
unfoldable pub overfills : ℕ → List ℕ → Passed → Bool
overfills side table r = hides side r && (not (is_held (call_of r.fields) table) && is_full table)

-- the table after an accepted message: a withheld INVITE "enters its pair once", a BYE "with the pair .. removes it"
unfoldable pub calls_after : ℕ → List ℕ → Passed → List ℕ
calls_after side table r =
    cond (hides side r) (entered (call_of r.fields) table) (cond (closes side r) (removed (call_of r.fields) table) table)

-- ---- the verdict, before anything is written: all reasons but 16

pub data Verdict : Type 0 where
  refuses : Answer → Verdict
  -- the start line that came, what goes out, and the table after
  sends : Start → List ℕ → List ℕ → Verdict

-- its answer, of which an accepted message has the length of what goes out
abbrev pub answer_of : Verdict → Answer
answer_of (refuses a) = a
answer_of (sends l o after) = record { reason = 0; reply = 0; detail = 0; missing = 0; length = length o }

-- the table after it, where there is room for what goes out
abbrev pub calls_of : List ℕ → Verdict → List ℕ
calls_of table (refuses a) = table
calls_of table (sends l o after) = after

-- reason 18: "reply 503"; "after 15, before 16"
unfoldable pub decided : ℕ → List ℕ → Passed → Verdict
decided side table r =
    cond (overfills side table r) (refuses (refusal 18 503 0 0)) (sends r.line (output (masks side table r) r) (calls_after side table r))

abbrev pub verdict_of : ℕ → List ℕ → Judgement → Verdict
verdict_of side table (refused a) = refuses a
verdict_of side table (accepted r) = decided side table r

-- reason 1: "side is neither 0 nor 1"
unfoldable pub verdict : List ℕ → ℕ → List ℕ → Verdict
verdict message side table = cond (leb side 1) (verdict_of side table (judgement message)) (refuses (refusal 1 0 0 0))

-- ---- its writing

-- the answer, and what buffer and table hold afterwards
pub record Screened : Type 0 where
  pub answer : Answer
  pub buffer : List ℕ
  pub table : List ℕ

-- "No refusal writes to the buffer." CR 8: "A refused request changes nothing."
abbrev pub refusing : Answer → List ℕ → List ℕ → Screened
refusing a buffer table = record { answer = a; buffer = buffer; table = table }

-- "Buffer bytes past the length stay."
abbrev pub sending : List ℕ → List ℕ → List ℕ → Screened
sending o buffer after =
    record {
      answer = record { reason = 0; reply = 0; detail = 0; missing = 0; length = length o };
      buffer = o ++ drop (length o) buffer;
      table = after;
    }

-- reason 16: "output longer than the buffer"; its detail is "the length needed"
abbrev pub written : List ℕ → List ℕ → Verdict → Screened
written buffer table (refuses a) = refusing a buffer table
written buffer table (sends l o after) =
    cond (leb (length o) (length buffer)) (sending o buffer after) (refusing (replied l (refusal 16 500 (length o) 0)) buffer table)

unfoldable pub screened : List ℕ → ℕ → List ℕ → List ℕ → Screened
screened message side table buffer = written buffer table (verdict message side table)
