-- CR 8, "Hidden for the whole call": "Remember up to 32 calls by Call-ID and From tag". They are remembered in a table of 6,208 bytes that the
-- caller lends. Any content is a table.
use Rattle.std.specs.Prelude.{Bool, false, cond, ◌&&◌, ◌||◌, List, [], ◌∷◌, ◌++◌, map, ℕ, zero, suc, ◌-◌, leb, ltb, eqb, length, take, drop, get_or, set, replicate}
use Rattle.std.proofs.Math.Option.{Option, none, some}
use Rattle.octets.specs.Classes.{within, is_token}
use Rattle.octets.specs.Scans.{all, same}
use Rattle.sip.specs.Values.{is_call_id}

-- ---- a pair: "Call-ID and From tag"

pub record Pair : Type 0 where
  pub call_id : List ℕ
  pub tag : List ℕ

-- `tag`: "its value a token of 1 to 64 bytes"
unfoldable pub is_tag_value : List ℕ → Bool
is_tag_value v = within 1 64 (length v) && all is_token v

-- "a well-formed pair": both have document 01's form
unfoldable pub is_pair : Pair → Bool
is_pair p = is_call_id p.call_id && is_tag_value p.tag

-- "compared byte by byte"
unfoldable pub same_pair : Pair → Pair → Bool
same_pair p q = same p.call_id q.call_id && same p.tag q.tag

unfoldable pub is_in : Pair → List Pair → Bool
is_in p [] = false
is_in p (q ∷ qs) = same_pair p q || is_in p qs

-- "equal pairs count once": those that are not among the ones before them
unfoldable pub distinct : List Pair → List Pair → List Pair
distinct before [] = []
distinct before (p ∷ ps) =
    let again = distinct before ps in
    let new = p ∷ distinct (before ++ (p ∷ [])) ps in
    cond (is_in p before) again new

-- ---- a place of the table, 194 bytes: the length of the Call-ID, 128 bytes for it, the length of the tag, 64 bytes for it

-- the first n places of a table
unfoldable pub places : ℕ → List ℕ → List (List ℕ)
places zero t = []
places (suc n) t = take 194 t ∷ places n (drop 194 t)

-- the table of these places
unfoldable pub table_of : List (List ℕ) → List ℕ
table_of [] = []
table_of (c ∷ cs) = c ++ table_of cs

-- what a place says, well formed or not
unfoldable pub stored : List ℕ → Pair
stored c = record { call_id = take (get_or c 0 0) (drop 1 c); tag = take (get_or c 129 0) (drop 130 c) }

-- the pair of a place; none: "a place without a well-formed pair is free". A length over 64 is not that of a tag, although a place has no
-- more bytes to read; one over 128 reads a Call-ID that is too long
unfoldable pub pair_at : List ℕ → Option Pair
pair_at c = cond (leb (get_or c 129 0) 64 && is_pair (stored c)) (some (stored c)) none

-- the place that holds a pair: what the texts do not fill is 0
unfoldable pub place_with : Pair → List ℕ
place_with p =
    (length p.call_id ∷ (p.call_id ++ replicate (128 - length p.call_id) 0))
    ++ (length p.tag ∷ (p.tag ++ replicate (64 - length p.tag) 0))

-- a place that is left free
unfoldable pub free_place : List ℕ
free_place = replicate 194 0

-- ---- the pairs held

abbrev pub with_pair : Option Pair → List Pair → List Pair
with_pair none ps = ps
with_pair (some p) ps = p ∷ ps

unfoldable pub pairs_in : List (List ℕ) → List Pair
pairs_in [] = []
pairs_in (c ∷ cs) = with_pair (pair_at c) (pairs_in cs)

-- the pairs that a table holds: "equal pairs count once and a place without a well-formed pair is free"
unfoldable pub held : List ℕ → List Pair
held t = distinct [] (pairs_in (places 32 t))

unfoldable pub is_held : Pair → List ℕ → Bool
is_held p t = is_in p (held t)

-- "32 held ones"
unfoldable pub is_full : List ℕ → Bool
is_full t = eqb (length (held t)) 32

-- "none held"
unfoldable pub none_held : List ℕ
none_held = replicate 6208 0

-- ---- entering a pair, "once": at the first place whose first byte is 0, as of all that are left free; where there is none, at the first that is
-- free in any other way or holds the pair of an earlier place

-- how many stand before the first that is so
unfoldable pub first_where : (List ℕ → Bool) → List (List ℕ) → ℕ
first_where p [] = 0
first_where p (c ∷ cs) = let next = suc (first_where p cs) in cond (p c) 0 next

unfoldable pub starts_with0 : List ℕ → Bool
starts_with0 c = eqb (get_or c 0 0) 0

-- how many stand before the first that is free or holds one of the pairs before
unfoldable pub first_spare : List Pair → List (List ℕ) → ℕ
first_spare before [] = 0
first_spare before (c ∷ cs) =
    elim (pair_at c) [
      | none ↦ 0
      | some p ↦ let next = suc (first_spare (before ++ (p ∷ [])) cs) in cond (is_in p before) 0 next
    ]

-- the place where a new pair is entered, from 0; 32 where 32 are held
unfoldable pub new_place : List ℕ → ℕ
new_place t =
    let empty = first_where starts_with0 (places 32 t) in
    let spare = first_spare [] (places 32 t) in
    cond (ltb empty 32) empty spare

-- the table with the pair at a place; no other byte of a table of 6,208 bytes changes
unfoldable pub placed : ℕ → Pair → List ℕ → List ℕ
placed k p t = table_of (set (places 32 t) k (place_with p))

unfoldable pub entered : Pair → List ℕ → List ℕ
entered p t = cond (is_held p t) t (placed (new_place t) p t)

-- ---- removing a pair: every place that holds it is left free; no other byte of a table of 6,208 bytes changes

abbrev pub is_that : Pair → Option Pair → Bool
is_that p none = false
is_that p (some q) = same_pair p q

unfoldable pub holds : Pair → List ℕ → Bool
holds p c = is_that p (pair_at c)

unfoldable pub cleared : Pair → List ℕ → List ℕ
cleared p c = cond (holds p c) free_place c

unfoldable pub removed : Pair → List ℕ → List ℕ
removed p t = cond (is_held p t) (table_of (map (cleared p) (places 32 t))) t

-- ---- "an explicit end": 0, or "Ending an unknown pair: 19"; the table after it is the table without the pair

unfoldable pub ending : Pair → List ℕ → ℕ
ending p t = cond (is_held p t) 0 19
