-- An accepted message is made of the lines that were read, it has a column, no field repeats that must not, every value is well formed, the
-- identities are allowed, and no mandatory field is missing.
use mathlib.Core.Path.{◌≡◌, refl}
use mathlib.Core.Bool.{Bool, true, false, not, cond, ◌&&◌}
use mathlib.Core.List.{List, [], ◌∷◌, ◌++◌, append-nil}
use mathlib.Core.Option.{Option, none, some}
use Prim.Native.Nat.{ℕ}
use lib.Dec.{eqb}
use lib.ListN.{drop}
use borrow.Author.Tests.{eqb-true}
use Rattle.sip.specs.declared.Column.{Column}
use Rattle.octets.specs.Classes.{within}
use Rattle.sip.specs.Lines.{RequestLine, StatusLine, Start, request, response}
use Rattle.sip.specs.Profile.{column_of}
use Rattle.sip.specs.Values.{allowed}
use Rattle.sip.specs.Refusals.{Answer, refusal, Entry, to_tagged, when, first_repeat, well_formed, brought, first_malformed}
use Rattle.sip.specs.Refusals.{reason7, reason8, reason9, reason10, reason11, reason12, first_of, reasons, response_reasons, Passed, passed, refused}
use Rattle.sip.specs.Refusals.{accepted, judged_request, first_cseq_method, status_of, response_column_of, judged_response, judged}
use Rattle.sip.proofs.Tests.{never}

none_first : (a : Option Answer) (rs : List (Option Answer)) → first_of (a ∷ rs) ≡ none → (a ≡ none) × (first_of rs ≡ none)
none_first none rs e = (refl, e)
none_first (some x) rs e = never (cc)

when_none : (n : ℕ) (a : Answer) → when (not (eqb n 0)) a ≡ none → n ≡ 0
when_none n a e = go (eqb n 0) refl e
  where
    go : (t : Bool) → eqb n 0 ≡ t → when (not t) a ≡ none → n ≡ 0
    go true p q = eqb-true n 0 p
    go false p q = never (cc)

none_repeats : (es : List Entry) → reason9 es ≡ none → first_repeat [] es ≡ 0
unfolding reason9
none_repeats es e = when_none (first_repeat [] es) (refusal 9 400 (first_repeat [] es) 0) e

none_malformed : (method : List ℕ) (es : List Entry) → reason10 method es ≡ none → first_malformed method [] es ≡ 0
unfolding reason10
none_malformed method es e = when_none (first_malformed method [] es) (refusal 10 400 (first_malformed method [] es) 0) e

-- the method of a message, with which its CSeq is judged
abbrev pub method_of : Start → List Entry → List ℕ
method_of (request l) es = l.method
method_of (response l) es = first_cseq_method es

-- the column of a message by its kept fields
abbrev pub column_in : Start → List Entry → Option Column
column_in (request l) es = column_of l.method (to_tagged es)
column_in (response l) es = response_column_of l es

pub record Accepted (l : Start) (es : List Entry) (rest : List ℕ) (r : Passed) : Type 0 where
  pub made : r ≡ passed l es rest
  pub column : Column
  pub has_column : column_in l es ≡ some column
  pub unrepeated : first_repeat [] es ≡ 0
  pub formed : first_malformed (method_of l es) [] es ≡ 0
  pub complete : reason12 column es rest ≡ none

-- no judgement is both
pub not_both : {A : Type 0} {a : Answer} {r : Passed} → refused a ≡ accepted r → A
not_both e = never (cc)

request_inv : (l : RequestLine) (es : List Entry) (rest : List ℕ) (r : Passed) → judged_request l es rest ≡ accepted r → Accepted (request l) es rest r
unfolding judged_request reasons
request_inv l es rest r e = go (column_of l.method (to_tagged es)) refl
  where
    next : (c : Column) → column_of l.method (to_tagged es) ≡ some c → (o : Option Answer) → first_of (reasons c l es rest) ≡ o
        → Accepted (request l) es rest r
    next c p none x =
        let z : accepted (passed (request l) es rest) ≡ accepted r = rw (p, judged_request, x) at e in
        let (_, x8) = none_first (reason7 l) (drop 1 (reasons c l es rest)) x in
        let (_, x9) = none_first (reason8 l) (drop 2 (reasons c l es rest)) x8 in
        let (n9, x10) = none_first (reason9 es) (drop 3 (reasons c l es rest)) x9 in
        let (n10, x11) = none_first (reason10 l.method es) (drop 4 (reasons c l es rest)) x10 in
        let (_, x12) = none_first (reason11 es rest) (drop 5 (reasons c l es rest)) x11 in
        let (n12, _) = none_first (reason12 c es rest) (drop 6 (reasons c l es rest)) x12 in
        record {
          made = cc;
          column = c;
          has_column = p;
          unrepeated = none_repeats es n9;
          formed = none_malformed l.method es n10;
          complete = n12;
        }
    next c p (some a) x = not_both (rw (p, judged_request, x) at e)

    go : (o : Option Column) → column_of l.method (to_tagged es) ≡ o → Accepted (request l) es rest r
    go none p = not_both (rw (p, judged_request) at e)
    go (some c) p = next c p (first_of (reasons c l es rest)) refl

response_inv :
    (l : StatusLine) (es : List Entry) (rest : List ℕ) (r : Passed) → judged_response l es rest ≡ accepted r → Accepted (response l) es rest r
unfolding judged_response response_reasons
response_inv l es rest r e = go (within 100 699 (status_of l)) (response_column_of l es) refl refl
  where
    method : List ℕ
    method = first_cseq_method es

    next : (c : Column) → within 100 699 (status_of l) ≡ true → response_column_of l es ≡ some c
        → (o : Option Answer) → first_of (response_reasons c (first_cseq_method es) es rest) ≡ o → Accepted (response l) es rest r
    next c t p none x =
        let z : accepted (passed (response l) es rest) ≡ accepted r = rw (t, p, judged_response, x) at e in
        let (n9, x10) = none_first (reason9 es) (drop 1 (response_reasons c (first_cseq_method es) es rest)) x in
        let (n10, x11) = none_first (reason10 (first_cseq_method es) es) (drop 2 (response_reasons c (first_cseq_method es) es rest)) x10 in
        let (_, x12) = none_first (reason11 es rest) (drop 3 (response_reasons c (first_cseq_method es) es rest)) x11 in
        let (n12, _) = none_first (reason12 c es rest) [] x12 in
        record {
          made = cc;
          column = c;
          has_column = p;
          unrepeated = none_repeats es n9;
          formed = none_malformed (first_cseq_method es) es n10;
          complete = n12;
        }
    next c t p (some a) x = not_both (rw (t, p, judged_response, x) at e)

    go : (t : Bool) (o : Option Column) → within 100 699 (status_of l) ≡ t → response_column_of l es ≡ o → Accepted (response l) es rest r
    go false o t p = not_both (rw (t, judged_response) at e)
    go true none t p = not_both (rw (t, p, judged_response) at e)
    go true (some c) t p = next c t p (first_of (response_reasons c (first_cseq_method es) es rest)) refl

pub judged_inv : (l : Start) (es : List Entry) (rest : List ℕ) (r : Passed) → judged l es rest ≡ accepted r → Accepted l es rest r
judged_inv (request l) es rest r e = request_inv l es rest r e
judged_inv (response l) es rest r e = response_inv l es rest r e

-- ---- so each value is well formed, and the identities are allowed

-- a field that is not listed has any value
unlisted_formed : (method v : List ℕ) → well_formed method 0 v ≡ true
unfolding well_formed
unlisted_formed method v = refl

-- and brings no identity
unlisted_brings : (e : Entry) → e.number ≡ 0 → brought e ≡ []
unfolding brought
unlisted_brings e q = rw q

module _ (method : List ℕ) (earlier : List Bool) (e : Entry) (es : List Entry) where
  pub record FirstFormed : Type 0 where
    pub is_formed : well_formed method e.number e.value ≡ true
    pub is_allowed : allowed (earlier ++ brought e) ≡ true
    pub others : first_malformed method (earlier ++ brought e) es ≡ 0

  pub first_formed : allowed earlier ≡ true → first_malformed method earlier (e ∷ es) ≡ 0 → FirstFormed
  unfolding first_malformed
  first_formed a h = go (well_formed method e.number e.value) (allowed (earlier ++ brought e)) refl refl h
    where
      go : (t u : Bool) → well_formed method e.number e.value ≡ t → allowed (earlier ++ brought e) ≡ u
          → cond (t && u) (first_malformed method (earlier ++ brought e) es) e.number ≡ 0 → FirstFormed
      go true true p q h = record { is_formed = p; is_allowed = q; others = h }
      go true false p q h =
          let z : allowed (earlier ++ []) ≡ false = rw (unlisted_brings e h) at q in
          never (cc (append-nil earlier))
      go false u p q h = let z : well_formed method 0 e.value ≡ false = rw h at p in never (cc (unlisted_formed method e.value))
