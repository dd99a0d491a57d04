-- A test for two callers (CR 5) that computes, proved right: it compares two messages part by part, as they are read.
use mathlib.Core.Path.{◌≡◌, refl, sym, ap}
use mathlib.Core.Bool.{Bool, true, false, not, ◌&&◌, ◌||◌}
use mathlib.Core.List.{List, [], ◌∷◌}
use mathlib.Core.Option.{Option, none, some}
use Prim.Native.Nat.{ℕ, ◌≤◌}
use lib.Dec.{eqb, leb}
use lib.ListN.{length, take, drop}
use borrow.Author.Tests.{eqb-true, leb-true}
use Rattle.octets.specs.Classes.{text}
use Rattle.octets.specs.Scans.{same}
use Rattle.sip.specs.Lines.{RequestLine, Start, request, response, start, start_size, Field, Header, header, canonical}
use Rattle.sip.specs.Profile.{number_of, ignored}
use Rattle.sip.specs.Values.{is_from, tag_of, restricts}
use Rattle.sip.specs.declared.Column.{Column}
use Rattle.sip.specs.Refusals.{kept, first_malformed, message_column}
use Rattle.sip.specs.Promises.{only}
use Rattle.sip.specs.Grammar.{HoldsAny, here, later}
use Rattle.sip.specs.GrammarPromises.{Withholding}
use Rattle.sip.specs.Screen.{screened}
use Rattle.sip.specs.Calls.{none_held}
use Rattle.sip.specs.Starred.{Given, given}
use Rattle.sip.specs.Hidden.{Pair, alike, apart, handed_back, PairHolds, PairsHold, no_pair, pair}
use Rattle.sip.specs.Asserted.{IdentitiesAllowed}
use Rattle.sip.specs.Callers.{with_value, OtherCaller, no_fields, equal, other_identity, TwoCallers}
use Rattle.sip.proofs.Tests.{never, and_left, and_right}
use Rattle.sip.proofs.Texts.{same_eq, same_refl}
use Rattle.sip.proofs.Callers.{any_value, pair_found}
use Rattle.sip.proofs.Grammar.Tokens.{restricts_sound}

-- texts that are not the same by the test are not equal
pub differ : (s t : List ℕ) → same s t ≡ false → s ≡ t → ⊥
differ s t e p = let z : same t t ≡ false = rw p at e in never (let w = same_refl t in cc)

-- ---- the fields

-- the identities of a message are allowed
unfoldable pub are_allowed : List Field → Bool
are_allowed fs = eqb (first_malformed [] [] (only 15 (kept none fs))) 0

-- two canonical values of one field; the flags: the identities of both messages are allowed, the values are equal as written, the field is
-- From, it is P-Asserted-Identity
abbrev two_values : Bool → Bool → Bool → Bool → List ℕ → List ℕ → Bool
two_values both true from_field identity_field v w = true
two_values both false true identity_field v w = is_from v && (is_from w && same (tag_of v) (tag_of w))
two_values both false false true v w = both
two_values both false false false v w = false

abbrev values_of : Bool → Field → Field → Bool
values_of both f g =
    two_values both (same f.value g.value) (eqb (number_of f.name) 3) (eqb (number_of f.name) 15) (canonical f.value)
    (canonical g.value)

unfoldable pub two_fields : Bool → List Field → List Field → Bool
two_fields both [] [] = true
two_fields both [] (g ∷ gs) = false
two_fields both (f ∷ fs) [] = false
two_fields both (f ∷ fs) (g ∷ gs) =
    let others = two_fields both fs gs in
    same f.name g.name && (same f.gap g.gap && (values_of both f g && others))

-- two fields of one name and gap in front
module _ {P : Type 0} (both : Bool) (allowing : both ≡ true → P) where
  module _ (f : Field) (w : List ℕ) (fs gs : List Field) (o : OtherCaller P fs gs) where
    abbrev c : List ℕ
    c = canonical f.value

    abbrev d : List ℕ
    d = canonical w

    two_froms : number_of f.name ≡ 3 → (is_from c && (is_from d && same (tag_of c) (tag_of d))) ≡ true → OtherCaller P (f ∷ fs) (with_value f w ∷ gs)
    two_froms n e =
        let a = and_right (is_from c) (is_from d && same (tag_of c) (tag_of d)) e in
        let t = same_eq (tag_of c) (tag_of d) (and_right (is_from d) (same (tag_of c) (tag_of d)) a) in
        any_value.of_from P f w fs gs n (and_left (is_from c) (is_from d && same (tag_of c) (tag_of d)) e)
        (and_left (is_from d) (same (tag_of c) (tag_of d)) a) (sym t) o

    two_values_lem : values_of both f (with_value f w) ≡ true → OtherCaller P (f ∷ fs) (with_value f w ∷ gs)
    two_values_lem e = go (same f.value w) (eqb (number_of f.name) 3) (eqb (number_of f.name) 15) refl refl refl e
      where
        go : (s t i : Bool) → same f.value w ≡ s → eqb (number_of f.name) 3 ≡ t → eqb (number_of f.name) 15 ≡ i
            → two_values both s t i c d ≡ true → OtherCaller P (f ∷ fs) (with_value f w ∷ gs)
        go true t i p q r e = rw (← same_eq f.value w p) (equal o)
        go false true i p q r e = two_froms (eqb-true (number_of f.name) 3 q) e
        go false false true p q r e = other_identity (eqb-true (number_of f.name) 15 r) (allowing e) o
        go false false false p q r e = never (cc)

  fields_pair : (fs gs : List Field) → two_fields both fs gs ≡ true → OtherCaller P fs gs
  unfolding two_fields
  fields_pair [] [] e = no_fields
  fields_pair [] (g ∷ gs) e = never (cc)
  fields_pair (f ∷ fs) [] e = never (cc)
  fields_pair (f ∷ fs) (g ∷ gs) e =
      let values = values_of both f g in
      let a = and_right (same f.name g.name) (same f.gap g.gap && (values && two_fields both fs gs)) e in
      let b = and_right (same f.gap g.gap) (values && two_fields both fs gs) a in
      let n : f.name ≡ g.name = same_eq f.name g.name (and_left (same f.name g.name) _ e) in
      let p : f.gap ≡ g.gap = same_eq f.gap g.gap (and_left (same f.gap g.gap) _ a) in
      let k : with_value f g.value ≡ g = rw (n, p) in
      rw (← k) (two_values_lem f g.value fs gs (fields_pair fs gs (and_right values (two_fields both fs gs) b)) (and_left values (two_fields both fs gs) b))

are_allowed_lem : (fs : List Field) → are_allowed fs ≡ true → IdentitiesAllowed fs
unfolding are_allowed
are_allowed_lem fs e = any_value.of_identities [] fs (eqb-true _ 0 e)

-- any of them withholds
unfoldable pub any_withholds : Option Column → List Field → Bool
any_withholds c [] = false
any_withholds c (f ∷ fs) =
    let others = any_withholds c fs in
    (eqb (number_of f.name) 16 && (not (ignored c 16) && restricts (canonical f.value))) || others

any_withholds_lem : (c : Option Column) (fs : List Field) → any_withholds c fs ≡ true → HoldsAny (Withholding c) fs
unfolding any_withholds
any_withholds_lem c [] e = never (cc)
any_withholds_lem c (f ∷ fs) e =
    go (eqb (number_of f.name) 16) (ignored c 16) (restricts (canonical f.value)) refl refl refl e (any_withholds_lem c fs)
  where
    go : (n i r : Bool) → eqb (number_of f.name) 16 ≡ n → ignored c 16 ≡ i → restricts (canonical f.value) ≡ r
        → ((n && (not i && r)) || any_withholds c fs) ≡ true → (any_withholds c fs ≡ true → HoldsAny (Withholding c) fs)
        → HoldsAny (Withholding c) (f ∷ fs)
    go true false true p q s e ih =
        let (ts, d, h) = restricts_sound (canonical f.value) s in
        here (record { a_privacy = eqb-true (number_of f.name) 16 p; not_ignored = q; priv_values = ts; derived = d; restricting = h })
    go true false false p q s e ih = later (ih e)
    go true true r p q s e ih = later (ih e)
    go false i r p q s e ih = later (ih e)

-- ---- the messages

unfoldable pub two_headers : RequestLine → Option Header → Option Header → Bool
two_headers l none o = false
two_headers l (some h) none = false
two_headers l (some h) (some k) =
    same h.rest k.rest
    && (two_fields (are_allowed h.fields && are_allowed k.fields) h.fields k.fields && any_withholds (message_column (request l) h.fields) h.fields)

unfoldable pub two_starts : List ℕ → List ℕ → Option Start → Bool
two_starts m m' none = false
two_starts m m' (some (response l)) = false
two_starts m m' (some (request l)) =
    let n = start_size (request l) in
    same l.method (text "INVITE") && (same (take n m) (take n m') && two_headers l (header 0 (drop n m)) (header 0 (drop n m')))

unfoldable pub are_two_callers : List ℕ → List ℕ → Bool
are_two_callers m m' = leb (length m) 8192 && (leb (length m') 8192 && two_starts m m' (start m))

module _ (m m' : List ℕ) (b : length m ≤ 8192) (b' : length m' ≤ 8192) where
  starts_pair : (o : Option Start) → start m ≡ o → two_starts m m' o ≡ true → TwoCallers m m'
  unfolding two_starts two_headers
  starts_pair none p e = never (cc)
  starts_pair (some (response l)) p e = never (cc)
  starts_pair (some (request l)) p e =
      let n = start_size (request l) in
      let a = and_right (same l.method (text "INVITE")) _ e in
      let i = same_eq l.method (text "INVITE") (and_left (same l.method (text "INVITE")) _ e) in
      let t = same_eq (take n m) (take n m') (and_left (same (take n m) (take n m')) _ a) in
      go i t (header 0 (drop n m)) (header 0 (drop n m')) refl refl (and_right (same (take n m) (take n m')) _ a)
    where
      go : l.method ≡ text "INVITE" → take (start_size (request l)) m ≡ take (start_size (request l)) m' → (o o' : Option Header)
          → header 0 (drop (start_size (request l)) m) ≡ o → header 0 (drop (start_size (request l)) m') ≡ o' → two_headers l o o' ≡ true
          → TwoCallers m m'
      go i t none o' q r c = never (cc)
      go i t (some h) none q r c = never (cc)
      go i t (some h) (some k) q r c =
          let d = and_right (same h.rest k.rest) _ c in
          let x = are_allowed h.fields in
          let y = are_allowed k.fields in
          pair_found m m' b b' l p i t h k q r (same_eq h.rest k.rest (and_left (same h.rest k.rest) _ c))
          (fields_pair (x && y) (λ e. (are_allowed_lem h.fields (and_left x y e), are_allowed_lem k.fields (and_right x y e))) h.fields k.fields
          (and_left (two_fields (x && y) h.fields k.fields) _ d))
          (any_withholds_lem (message_column (request l) h.fields) h.fields (and_right (two_fields (x && y) h.fields k.fields) _ d))

pub callers_found : (m m' : List ℕ) → are_two_callers m m' ≡ true → TwoCallers m m'
unfolding are_two_callers
callers_found m m' e =
    let a = and_right (leb (length m) 8192) _ e in
    starts_pair m m' (leb-true (length m) 8192 (and_left (leb (length m) 8192) _ e))
    (leb-true (length m') 8192 (and_left (leb (length m') 8192) _ a)) (start m) refl (and_right (leb (length m') 8192) _ a)

-- ---- the rows of worked pairs, each from what is computed of it

-- whether they are two callers, whether what is to differ is the same, and what each gives
record Found (A : Type 0) : Type 0 where
  callers : Bool
  same : Bool
  first : A
  second : A

abbrev found : {A : Type 0} → Bool → Bool → A → A → Found A
found c s a b = record { callers = c; same = s; first = a; second = b }

abbrev Computes : Pair → Type 0
Computes (alike m m' buffer gives) =
    found (are_two_callers m m') (same m m') (given (screened m 1 none_held buffer)) (given (screened m' 1 none_held buffer)) ≡ found true false gives gives
-- of pairs that are apart it is not asked whether they are two callers
Computes (apart m m' side buffer gives gives') =
    found true (same gives.buffer gives'.buffer) (given (screened m side none_held buffer)) (given (screened m' side none_held buffer))
    ≡ found true false gives gives'
Computes (handed_back hands m m' part part') =
    found (are_two_callers m m') (same part part') (hands m) (hands m') ≡ found true false part part'

pub data AllCompute : List Pair → Type 0 where
  no_more : AllCompute []
  next : {p : Pair} {ps : List Pair} → Computes p → AllCompute ps → AllCompute (p ∷ ps)

holds : (p : Pair) → Computes p → PairHolds p
holds (alike m m' buffer gives) e =
    record {
      two_callers = callers_found m m' (ap (λ (c : Found Given). c.callers) e);
      bytes_differ = differ m m' (ap (λ (c : Found Given). c.same) e);
      first_gives = ap (λ (c : Found Given). c.first) e;
      second_gives = ap (λ (c : Found Given). c.second) e;
    }
holds (apart m m' side buffer gives gives') e =
    record {
      first_gives = ap (λ (c : Found Given). c.first) e;
      second_gives = ap (λ (c : Found Given). c.second) e;
      buffers_differ = differ gives.buffer gives'.buffer (ap (λ (c : Found Given). c.same) e);
    }
holds (handed_back hands m m' part part') e =
    record {
      two_callers = callers_found m m' (ap (λ (c : Found (List ℕ)). c.callers) e);
      first_part = ap (λ (c : Found (List ℕ)). c.first) e;
      second_part = ap (λ (c : Found (List ℕ)). c.second) e;
      parts_differ = differ part part' (ap (λ (c : Found (List ℕ)). c.same) e);
    }

pub all_hold : {ps : List Pair} → AllCompute ps → PairsHold ps
all_hold no_more = no_pair
all_hold (next {p = p} c r) = pair (holds p c) (all_hold r)
