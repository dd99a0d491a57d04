-- Document 01, "Fields and the calling number", for requests and (CR 1) responses; and CR 3, a field by its name.
use Rattle.std.specs.Prelude.{Bool, true, false, cond, ◌||◌, List, [], ◌∷◌, ◌++◌, map, ℕ, zero, suc, ◌+◌, eqb, length, take, drop}
use Rattle.std.proofs.Math.Option.{Option, none, some}
use Rattle.octets.specs.Classes.{is_gap}
use Rattle.octets.specs.Scans.{run, same_text}
use Rattle.sip.specs.declared.Span.{Span}
use Rattle.sip.specs.declared.CallingAt.{CallingAt}
use Rattle.sip.specs.declared.IdentityAt.{IdentityAt}
use Rattle.sip.specs.declared.CallerAt.{CallerAt}
use Rattle.sip.specs.Lines.{start_size, Field, bytes, trim, unfolded_at}
use Rattle.sip.specs.Profile.{number_of}
use Rattle.sip.specs.Values.{is_empty, identities, number_in, is_global}
use Rattle.sip.specs.Refusals.{Lines, unread, read, lines, Entry, Judgement, refused, accepted, judgement}

abbrev pub no_span : Span
no_span = record { start = 0; len = 0 }

-- a part of a text
abbrev pub part : Span → List ℕ → List ℕ
part p s = take p.len (drop p.start s)

-- the value of a field that starts at place at of the message, "from its first byte that is no space, tab or line break to its last"
unfoldable pub value_span : ℕ → Field → Span
value_span at f =
    let v = trim is_gap f.value in
    cond (is_empty v) no_span
    (record { start = at + length f.name + length f.gap + 1 + run is_gap f.value; len = length v })

-- the values of the fields of number n, the first of which starts at place at
unfoldable pub value_spans : ℕ → ℕ → List Field → List Span
value_spans n at [] = []
value_spans n at (f ∷ fs) =
    let others = value_spans n (at + length (bytes f)) fs in
    cond (eqb (number_of f.name) n) (value_span at f ∷ others) others

abbrev spans_of : ℕ → Lines → List Span
spans_of n (unread r) = []
spans_of n (read l h) = cond (eqb n 0) [] (value_spans n (start_size l) h.fields)

-- none "where the message has a reason of 2 to 5 or n is not listed"
unfoldable pub spans : List ℕ → ℕ → List Span
spans m n = spans_of n (lines m)

-- "For a field number n, a count says how often it occurs."
unfoldable pub count : List ℕ → ℕ → ℕ
count m n = length (spans m n)

-- the k-th from 1
unfoldable pub place : ℕ → List Span → Span
place k [] = no_span
place zero (p ∷ ps) = no_span
place (suc zero) (p ∷ ps) = p
place (suc (suc k)) (p ∷ ps) = place (suc k) ps

-- where the reading stands
unfoldable pub reading_at : List ℕ → ℕ → ℕ → Span
reading_at m n k = place k (spans m n)

-- "For n and a place k from 1, a reading hands back the value as a part of the message itself"
unfoldable pub reading : List ℕ → ℕ → ℕ → List ℕ
reading m n k = part (reading_at m n k) m

-- ---- the calling number

-- an asserted identity of a message: which of the P-Asserted-Identity fields it stands in, from 1, that field's canonical value, and where
-- it stands there
pub record Asserted : Type 0 where
  pub field : ℕ
  pub value : List ℕ
  pub identity : IdentityAt

abbrev pub asserted_by : ℕ → List ℕ → List Asserted
asserted_by k v = map (λ (i : IdentityAt). record { field = k; value = v; identity = i }) (identities v)

-- those of all fields, in order; k P-Asserted-Identity fields are before these
unfoldable pub asserted : ℕ → List Entry → List Asserted
asserted k [] = []
asserted k (e ∷ es) =
    let here = asserted_by (suc k) e.value ++ asserted (suc k) es in
    let others = asserted k es in
    cond (eqb e.number 15) here others

-- the first that is a sip URI, or `a` where none is
unfoldable pub sip_or : Asserted → List Asserted → Asserted
sip_or a [] = a
sip_or a (b ∷ others) = let later = sip_or a others in cond b.identity.tel later b

abbrev pub preferred : List Asserted → Option Asserted
preferred [] = none
preferred (a ∷ others) = some (sip_or a (a ∷ others))

-- CR 6: "The calling number comes from the sip one (document 002, Table 5, note 1) in either order"; where there is one alone, from that
unfoldable pub caller_in : List Entry → Option Asserted
caller_in es = preferred (asserted 0 es)

abbrev pub number_or : List ℕ → Option Asserted → List ℕ
number_or trunk none = trunk
number_or trunk (some a) = number_in a.value a.identity

abbrev caller_of : List ℕ → Judgement → List ℕ
caller_of trunk (refused a) = []
caller_of trunk (accepted r) = number_or trunk (caller_in r.fields)

-- "the P-Asserted-Identity digits with their `+` where the message has that field not ignored, else the trunk number .. It is empty
-- instead exactly if the trunk number lacks the P-Asserted-Identity form or the message has a reason of 2 to 15 on side 0."
-- CR 1: "At 17 the calling number is empty."
unfoldable pub calling_number : List ℕ → List ℕ → List ℕ
calling_number m trunk = cond (is_global trunk) (caller_of trunk (judgement m)) []

-- ---- the calling number as a part of the message or of the trunk number

abbrev pub no_calling : CallingAt
no_calling = record { from_trunk = false; start = 0; len = 0 }

-- where it stands in the fields' canonical values; field 0 where there is none
abbrev pub caller_at : Option Asserted → CallerAt
caller_at none = record { field = 0; start = 0; len = 0 }
caller_at (some a) = record { field = a.field; start = a.identity.start; len = a.identity.len }

-- where it stands in the message: p is the part of the message that the field's value is
unfoldable pub placed_in : List ℕ → Span → CallerAt → CallingAt
placed_in m p c = record { from_trunk = false; start = p.start + unfolded_at c.start 0 (part p m); len = c.len }

abbrev pub caller_or : List ℕ → List ℕ → CallerAt → CallingAt
caller_or m trunk c =
    cond (eqb c.field 0) (record { from_trunk = true; start = 0; len = length trunk }) (placed_in m (reading_at m 15 c.field) c)

abbrev calling_in : List ℕ → List ℕ → Judgement → CallingAt
calling_in m trunk (refused a) = no_calling
calling_in m trunk (accepted r) = caller_or m trunk (caller_at (caller_in r.fields))

unfoldable pub calling_at : List ℕ → List ℕ → CallingAt
calling_at m trunk = cond (is_global trunk) (calling_in m trunk (judgement m)) no_calling

-- "hands back a part of one of them"
unfoldable pub calling_part : List ℕ → List ℕ → List ℕ
calling_part m trunk =
    let c = calling_at m trunk in
    let p : Span = record { start = c.start; len = c.len } in
    cond c.from_trunk (part p trunk) (part p m)

-- ---- CR 3: "callers with `X-Relay-Mode` (any case, at least once)"

-- one of the fields has that name, whole and in any letter case
unfoldable pub named : List ℕ → List Field → Bool
named name [] = false
named name (f ∷ fs) = same_text name f.name || named name fs

abbrev pub named_in : List ℕ → Lines → Bool
named_in name (unread r) = false
named_in name (read l h) = named name h.fields

-- the message has a field of that name; none where it has a reason of 2 to 5
unfoldable pub has_field : List ℕ → List ℕ → Bool
has_field m name = named_in name (lines m)
