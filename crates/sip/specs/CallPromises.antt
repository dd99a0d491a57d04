-- CR 8: what holds of the table of calls and of every screening with it, as statements; their proofs are in proofs/.
use Rattle.std.specs.Prelude.{◌≡◌, Bool, true, false, not, cond, ◌&&◌, ◌||◌, List, [], ◌∷◌, ◌++◌, map, ℕ, suc, ◌+◌, ◌*◌, ◌≤◌, ◌<◌, eqb, length, take, drop}
use Rattle.std.proofs.Math.Option.{none, some}
use Rattle.octets.specs.Classes.{text}
use Rattle.sip.specs.Refusals.{refusal, value_of, Passed, withheld, judgement, accepted}
use Rattle.sip.specs.Grammar.{UriParts, Party}
use Rattle.sip.specs.Calls.{Pair, is_pair, same_pair, is_in, places, pair_at, place_with, free_place, held, is_held, is_full, new_place, placed, entered}
use Rattle.sip.specs.Calls.{holds, cleared, removed, ending}
use Rattle.sip.specs.Screen.{call_of, is_method, refusing, screened}

-- ---- pairs

-- "compared byte by byte"
pub record ByteByByte (p q : Pair) : Type 0 where
  pub same_bytes : same_pair p q ≡ true → p ≡ q
  pub equal_pairs : p ≡ q → same_pair p q ≡ true

abbrev pub ComparedByBytes : Type 0
ComparedByBytes = (p q : Pair) → ByteByByte p q

-- ---- the table

abbrev pub table_size : ℕ
table_size = 6208

-- a pair is held where some place holds it
unfoldable pub any_holds : Pair → List (List ℕ) → Bool
any_holds p [] = false
any_holds p (c ∷ cs) = holds p c || any_holds p cs

abbrev pub HeldInAPlace : Type 0
HeldInAPlace = (p : Pair) (t : List ℕ) → is_held p t ≡ any_holds p (places 32 t)

-- a place that a well-formed pair was written to has its 194 bytes and holds the pair
abbrev pub PlaceRead : Type 0
PlaceRead = (p : Pair) → is_pair p ≡ true → (pair_at (place_with p) ≡ some p) × (length (place_with p) ≡ 194)

-- and one that is left free has them and holds none
abbrev pub FreeRead : Type 0
FreeRead = (pair_at free_place ≡ none) × (length free_place ≡ 194)

-- "equal pairs count once": no pair is held twice
unfoldable pub is_distinct : List Pair → Bool
is_distinct [] = true
is_distinct (p ∷ ps) = not (is_in p ps) && is_distinct ps

abbrev pub HeldOnce : Type 0
HeldOnce = (t : List ℕ) → is_distinct (held t) ≡ true

-- what is held is a well-formed pair
abbrev pub HeldFormed : Type 0
HeldFormed = (p : Pair) (t : List ℕ) → is_held p t ≡ true → is_pair p ≡ true

-- "up to 32 calls"; there is no place for a new pair exactly where 32 different ones are held
pub record Most (t : List ℕ) : Type 0 where
  pub at_most : length (held t) ≤ 32
  pub full_is : is_full t ≡ eqb (new_place t) 32
  pub place_is : new_place t ≤ 32

abbrev pub MostHeld : Type 0
MostHeld = (t : List ℕ) → Most t

-- a pair that is entered is held from then on, and the others stay as they were; a new one makes one more
pub record Enters (p : Pair) (t : List ℕ) : Type 0 where
  pub members : (q : Pair) → is_held q (entered p t) ≡ (same_pair q p || is_held q t)
  pub count : length (held (entered p t)) ≡ cond (is_held p t) (length (held t)) (suc (length (held t)))

abbrev pub Entering : Type 0
Entering = (p : Pair) (t : List ℕ) → length t ≡ table_size → is_pair p ≡ true → (is_held p t || not (is_full t)) ≡ true → Enters p t

-- a pair that is removed is held no more, and the others stay as they were: every copy of it goes
pub record Leaves (p : Pair) (t : List ℕ) : Type 0 where
  pub members : (q : Pair) → is_held q (removed p t) ≡ (is_held q t && not (same_pair q p))
  pub count : cond (is_held p t) (suc (length (held (removed p t)))) (length (held (removed p t))) ≡ length (held t)

abbrev pub Removing : Type 0
Removing = (p : Pair) (t : List ℕ) → length t ≡ table_size → Leaves p t

-- where nothing is entered or removed not one byte changes; where a pair is entered the bytes of one place do, and where one is removed those of
-- the places that hold it
pub record Bytes (p : Pair) (t : List ℕ) : Type 0 where
  pub held_already : is_held p t ≡ true → entered p t ≡ t
  pub not_held : is_held p t ≡ false → removed p t ≡ t
  pub one_place : (k : ℕ) → k < 32 → placed k p t ≡ take (k * 194) t ++ (place_with p ++ drop ((k + 1) * 194) t)
  pub gone : is_held p t ≡ true → places 32 (removed p t) ≡ map (cleared p) (places 32 t)

abbrev pub OtherBytes : Type 0
OtherBytes = (p : Pair) (t : List ℕ) → length t ≡ table_size → Bytes p t

-- "an explicit end removes it"; "Ending an unknown pair: 19", and nothing changes
pub record Ends (p : Pair) (t : List ℕ) : Type 0 where
  pub known : is_held p t ≡ true → (ending p t ≡ 0) × (is_held p (removed p t) ≡ false)
  pub unknown : is_held p t ≡ false → (ending p t ≡ 19) × (removed p t ≡ t)

abbrev pub Ending : Type 0
Ending = (p : Pair) (t : List ℕ) → length t ≡ table_size → Ends p t

-- ---- the screening

-- "A refused request changes nothing."
abbrev pub RefusedStays : Type 0
RefusedStays =
    (m : List ℕ) (side : ℕ) (table buffer : List ℕ) → ((screened m side table buffer).answer.reason ≡ 0 → ⊥)
    → ((screened m side table buffer).buffer ≡ buffer) × ((screened m side table buffer).table ≡ table)

-- side 0 does not look at the table, and leaves it
abbrev pub TrustedSide : Type 0
TrustedSide =
    (m table other buffer : List ℕ)
    → ((screened m 0 table buffer).answer ≡ (screened m 0 other buffer).answer)
    × ((screened m 0 table buffer).buffer ≡ (screened m 0 other buffer).buffer)
    × ((screened m 0 table buffer).table ≡ table)

-- "18, reply 503, exactly when a new pair meets 32 held ones; after 15, before 16": no reason of 1 to 15 refuses the message, and the buffer is
-- not asked
pub record NewMeets32 (m : List ℕ) (side : ℕ) (table : List ℕ) : Type 0 where
  pub message : Passed
  pub side_is : side ≡ 1
  pub is_accepted : judgement m ≡ accepted message
  pub an_invite : is_method (text "INVITE") message.line ≡ true
  pub is_withheld : withheld message.fields ≡ true
  pub is_new : is_held (call_of message.fields) table ≡ false
  pub are_32 : length (held table) ≡ 32

pub record Eighteen (m : List ℕ) (side : ℕ) (table buffer : List ℕ) : Type 0 where
  pub only_then : (screened m side table buffer).answer.reason ≡ 18 → NewMeets32 m side table
  pub always_then : NewMeets32 m side table → screened m side table buffer ≡ refusing (refusal 18 503 0 0) buffer table

abbrev pub ExactlyEighteen : Type 0
ExactlyEighteen = (m : List ℕ) (side : ℕ) (table buffer : List ℕ) → Eighteen m side table buffer

-- "an accepted, withheld INVITE to side 1 enters its pair"; "an accepted BYE to side 1 with the pair .. removes it"; no other message changes the
-- table
pub record After (m : List ℕ) (r : Passed) (table buffer : List ℕ) : Type 0 where
  pub by_invite :
      is_method (text "INVITE") r.line ≡ true → withheld r.fields ≡ true
      → (screened m 1 table buffer).table ≡ entered (call_of r.fields) table
  pub by_bye : is_method (text "BYE") r.line ≡ true → (screened m 1 table buffer).table ≡ removed (call_of r.fields) table
  pub by_no_other :
      is_method (text "BYE") r.line ≡ false → (is_method (text "INVITE") r.line && withheld r.fields) ≡ false
      → (screened m 1 table buffer).table ≡ table

abbrev pub TableAfterIs : Type 0
TableAfterIs =
    (m : List ℕ) (r : Passed) (table buffer : List ℕ) → judgement m ≡ accepted r → (screened m 1 table buffer).answer.reason ≡ 0
    → After m r table buffer

-- the pair of an accepted message is well formed, and made of its Call-ID and the tag of its From
pub record PairOf (r : Passed) : Type 0 where
  pub is_well_formed : is_pair (call_of r.fields) ≡ true
  pub held_call_id : value_of 5 r.fields ≡ some (call_of r.fields).call_id
  pub from : List ℕ
  pub from_value : value_of 3 r.fields ≡ some from
  pub uri : UriParts
  pub from_tag : Party from uri ((call_of r.fields).tag ∷ [])

abbrev pub AcceptedPair : Type 0
AcceptedPair = (m : List ℕ) (r : Passed) → judgement m ≡ accepted r → PairOf r
