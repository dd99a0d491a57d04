-- What the table of calls says of an accepted message, as the code has it.
use Rattle.std.specs.Prelude.{◌≡◌, Bool, true, false, not, cond, ◌&&◌, List, ℕ, leb, ltb, eqb, length, take, drop, ◌<◌, Result, Ok, Err, MatchResult}
use Rattle.octets.specs.Classes.{text}
use Rattle.octets.specs.Scans.{same}
use Rattle.sip.specs.declared.Span.{Span}
use Rattle.sip.specs.Lines.{unfolded_at}
use Rattle.sip.specs.Refusals.{refusal}
use Rattle.sip.specs.Calls.{Pair, is_held, new_place, placed, removed}
use Rattle.sip.specs.Screen.{Screened, refusing, sending}
use Rattle.judgement.specs.declared.Judged.{Judged}
use Rattle.judgement.specs.declared.Refusal.{Refusal}
use Rattle.judgement.specs.Entries.{first_slot}
use Rattle.gateway.specs.declared.Side.{Side}
use Rattle.gateway.specs.declared.Side.TheVariants.{Trusted, Untrusted}
use Rattle.gateway.specs.declared.remembered.CallState.{CallState}
use Rattle.gateway.specs.declared.remembered.CallState.TheVariants.{Shown, Hidden, Ending, New}

-- ---- the pair, as parts of the message: nothing in either text is folded

unfoldable pub call_id_in : List ℕ → List ℕ → ℕ → List ℕ
call_id_in m slots count = let s = first_slot 5 slots count 0 in take s.len (drop s.start m)

unfoldable pub tag_in : List ℕ → List ℕ → ℕ → Span → List ℕ
tag_in m slots count tag =
    let s = first_slot 3 slots count 0 in
    let v = take s.len (drop s.start m) in
    take tag.len (drop (cond s.folded (unfolded_at tag.start 0 v) tag.start) v)

abbrev pub pair_in : List ℕ → List ℕ → ℕ → Span → Pair
pair_in m slots count tag = record { call_id = call_id_in m slots count; tag = tag_in m slots count tag }

-- ---- what the table says

abbrev pub side_number : Side → ℕ
side_number Trusted = 0
side_number Untrusted = 1

-- the side with this number, or reason 1 where there is none
abbrev pub Sides : ℕ → Result Side Refusal → Type 0
Sides n r = MatchResult r (λ (side : Side). side_number side ≡ n) (λ (e : Refusal). (1 < n) × (e ≡ record { reason = 1; reply = 0; detail = 0; missing = 0 }))

abbrev pub too_many : Refusal
too_many = record { reason = 18; reply = 503; detail = 0; missing = 0 }

unfoldable pub known_state : List ℕ → CallState
known_state m = cond (same (text "BYE ") (take 4 m)) Ending Hidden

unfoldable pub new_state : ℕ → Result CallState Refusal
new_state place = cond (ltb place 32) (Ok (New place)) (Err too_many)

unfoldable pub state_in : List ℕ → List ℕ → ℕ → Span → Bool → List ℕ → Result CallState Refusal
state_in m slots count tag withheld t =
    cond (is_held (pair_in m slots count tag) t) (Ok (known_state m)) (cond withheld (new_state (new_place t)) (Ok Shown))

-- it is asked for a request to side 1
unfoldable pub asked : ℕ → ℕ → Bool
asked side before = eqb side 1 && not (eqb before 0)

unfoldable pub state_for : List ℕ → ℕ → List ℕ → Judged → List ℕ → Result CallState Refusal
state_for m side slots j t = cond (asked side j.before) (state_in m slots j.count j.tag j.withheld t) (Ok Shown)

-- ---- and what follows of it

abbrev pub masked_by : CallState → Bool
masked_by Shown = false
masked_by Hidden = true
masked_by Ending = true
masked_by (New place) = true

abbrev pub table_by : CallState → Pair → List ℕ → List ℕ
table_by Shown p t = t
table_by Hidden p t = t
table_by Ending p t = removed p t
table_by (New place) p t = placed place p t

-- reason 16, or the outgoing message and the table after it
unfoldable pub delivered : Bool → List ℕ → List ℕ → List ℕ → List ℕ → Screened
delivered silent o after buffer table =
    cond (leb (length o) (length buffer)) (sending o buffer after) (refusing (refusal 16 (cond silent 0 500) (length o) 0) buffer table)
