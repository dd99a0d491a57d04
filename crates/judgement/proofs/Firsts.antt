-- What the tally has of the first field of a number is what document 01's words say of the first value of that number.
use mathlib.Core.Path.{◌≡◌, refl, sym, ◌∙◌}
use mathlib.Core.Bool.{Bool, true, false, not, cond, ◌&&◌, ◌||◌}
use mathlib.Core.List.{List, [], ◌∷◌}
use mathlib.Core.Option.{Option, none, some}
use Prim.Native.Nat.{ℕ, suc, ◌+◌, ◌≤◌}
use native.Mathlib.Omega.{arith}
use lib.Dec.{eqb}
use lib.ListN.{length}
use borrow.Author.Tests.{eqb-true, ne_eqb}
use Rattle.octets.specs.Scans.{decimal}
use Rattle.sip.specs.declared.Span.{Span}
use Rattle.sip.specs.Profile.{once, find, rows}
use Rattle.sip.specs.Values.{party, is_tagged, tag_of, tokens, list_or, first_place, any_token, is_restricting, restricts, is_number, is_max_forwards}
use Rattle.sip.specs.Values.{is_content_length}
use Rattle.sip.specs.Refusals.{Entry, value_of, occurs, to_tagged, withheld, content_length, no_hops, first_repeat, well_formed}
use Rattle.sip.specs.Readings.{part}
use Rattle.sip.proofs.Once.{at_most_once}
use Rattle.values.specs.Answers.{whole_number, privacy_at}
use Rattle.judgement.specs.declared.Finding.{Finding}
use Rattle.judgement.specs.declared.Tally.{Tally}
use Rattle.judgement.specs.Sets.{has}
use Rattle.judgement.specs.Tallies.{finding, is_first, noted, no_tally, tallied}
use Rattle.judgement.proofs.Masks.{has_none}
use Rattle.judgement.proofs.Bounds.{party_within}
use Rattle.judgement.proofs.Each.{Each, each, WellFormed, of_first, Only, only}
use Rattle.judgement.proofs.Totals.{next, seen_next}

-- what f says of a value, d where there is none
abbrev of : {A : Type 0} → A → (List ℕ → A) → Option (List ℕ) → A
of d f none = d
of d f (some v) = f v

cond_same : {A : Type 0} (t : Bool) (a : A) → cond t a a ≡ a
cond_same true a = refl
cond_same false a = refl

-- a field `get` of the tally that keeps what the first field of number k says
module _ {A : Type 0} (method : List ℕ) (k : ℕ) (get : Tally → A) (says : Finding → A)
    (keeps : (t : Tally) (n : ℕ) (f : Finding) → get (noted t n f) ≡ cond (is_first t k n) (says f) (get t)) where
  first_is : (t : Tally) (es : List Entry)
      → get (tallied method t es) ≡ cond (has t.seen k) (get t) (of (get t) (λ (v : List ℕ). says (finding method k v)) (value_of k es))
  unfolding tallied value_of
  first_is t [] = sym (cond_same (has t.seen k) (get t))
  first_is t (e ∷ es) =
      first_is (next method t e) es
      ∙ rw (seen_next method t e k, keeps t e.number (finding method e.number e.value)) (go (eqb e.number k) (has t.seen k) refl)
    where
      go : (a b : Bool) → eqb e.number k ≡ a
          → cond (a || b) (cond (a && not b) (says (finding method e.number e.value)) (get t))
          (of (cond (a && not b) (says (finding method e.number e.value)) (get t)) (λ (v : List ℕ). says (finding method k v)) (value_of k es))
          ≡ cond b (get t) (of (get t) (λ (v : List ℕ). says (finding method k v)) (cond a (some e.value) (value_of k es)))
      go true true p = refl
      go true false p = rw (eqb-true e.number k p)
      go false true p = refl
      go false false p = refl

  pub first : (es : List Entry)
      → get (tallied method no_tally es) ≡ of (get no_tally) (λ (v : List ℕ). says (finding method k v)) (value_of k es)
  first es = first_is no_tally es ∙ rw (has_none k)

-- ---- the first Max-Forwards, To, Privacy, Content-Length and From

abbrev or_false : (List ℕ → Bool) → Option (List ℕ) → Bool
or_false p none = false
or_false p (some v) = p v

any_place : (p : List ℕ → Bool) (n : ℕ) (ts : List (List ℕ)) → not (eqb (first_place p n ts) 0) ≡ any_token p ts
unfolding first_place
any_place p n [] = refl
any_place p n (t ∷ ts) = go (p t) (any_place p (suc n) ts)
  where
    go : (b : Bool) → not (eqb (first_place p (suc n) ts) 0) ≡ any_token p ts
        → not (eqb (cond b (suc n) (first_place p (suc n) ts)) 0) ≡ (b || any_token p ts)
    go true q = rw (ne_eqb (suc n) 0 (λ z. omega arith))
    go false q = q

restricting_found : (v : List ℕ) → not (eqb (privacy_at v).first 0) ≡ restricts v
unfolding privacy_at restricts
restricting_found v = any_place is_restricting 0 (list_or (tokens 59 0 v))

number_said : (most bound : ℕ) (v : List ℕ) → is_number most bound v ≡ true → (whole_number most bound v).value ≡ decimal 0 v
unfolding whole_number
number_said most bound v h = rw h

has_value : (k : ℕ) (es : List Entry) → occurs k es ≡ of false (λ (v : List ℕ). true) (value_of k es)
unfolding occurs value_of
has_value k [] = refl
has_value k (e ∷ es) = go (eqb e.number k) (has_value k es)
  where
    go : (t : Bool) → occurs k es ≡ of false (λ (v : List ℕ). true) (value_of k es)
        → (t || occurs k es) ≡ of false (λ (v : List ℕ). true) (cond t (some e.value) (value_of k es))
    go true q = refl
    go false q = q

-- that is what a Max-Forwards says
abbrev pub HopsAre : ℕ → Entry → Type 0
HopsAre n e = e.number ≡ 2 → decimal 0 e.value ≡ n

-- that part of a From is its tag
abbrev pub TagIn : Span → Entry → Type 0
TagIn p e = e.number ≡ 3 → tag_of e.value ≡ part p e.value

abbrev pub TagWithin : Span → Entry → Type 0
TagWithin p e = e.number ≡ 3 → p.start + p.len ≤ length e.value

module _ (method : List ℕ) (es : List Entry) where
  pub total_tagged : not (eqb (tallied method no_tally es).tagged 0) ≡ to_tagged es
  unfolding noted finding to_tagged is_tagged
  total_tagged = rw (first method 4 (λ (t : Tally). t.tagged) (λ (f : Finding). f.len) (λ t n f. refl) es) (go (value_of 4 es))
    where
      go : (o : Option (List ℕ)) → not (eqb (of 0 (λ (v : List ℕ). (finding method 4 v).len) o) 0) ≡ or_false is_tagged o
      go none = refl
      go (some v) = refl

  pub total_withheld : not (eqb (tallied method no_tally es).withheld 0) ≡ withheld es
  unfolding noted finding withheld
  total_withheld = rw (first method 16 (λ (t : Tally). t.withheld) (λ (f : Finding). f.start) (λ t n f. refl) es) (go (value_of 16 es))
    where
      go : (o : Option (List ℕ)) → not (eqb (of 0 (λ (v : List ℕ). (finding method 16 v).start) o) 0) ≡ or_false restricts o
      go none = refl
      go (some v) = restricting_found v

  total_tag : (v : List ℕ) → value_of 3 es ≡ some v → (tallied method no_tally es).tag ≡ record { start = (party v).tag; len = (party v).len }
  unfolding noted finding
  total_tag v q =
      first method 3 (λ (t : Tally). t.tag) (λ (f : Finding). record { start = f.start; len = f.len }) (λ t n f. refl) es ∙ rw q

  module _ (formed : Each (WellFormed method) es) where
    pub total_hopless : no_hops es ≡ (occurs 2 es && eqb (tallied method no_tally es).hops 0)
    unfolding noted finding no_hops well_formed is_max_forwards
    total_hopless =
        sym (rw (has_value 2 es, first method 2 (λ (t : Tally). t.hops) (λ (f : Finding). f.len) (λ t n f. refl) es) (go (value_of 2 es) refl))
      where
        go : (o : Option (List ℕ)) → value_of 2 es ≡ o
            → (of false (λ (v : List ℕ). true) o && eqb (of 0 (λ (v : List ℕ). (finding method 2 v).len) o) 0)
            ≡ or_false (λ (v : List ℕ). eqb (decimal 0 v) 0) o
        go none q = refl
        go (some v) q =
            rw (number_said 3 255 v (of_first (WellFormed method) 2 es v formed q))

    total_hops : (v : List ℕ) → value_of 2 es ≡ some v → (tallied method no_tally es).hops ≡ decimal 0 v
    unfolding noted finding well_formed is_max_forwards
    total_hops v q =
        first method 2 (λ (t : Tally). t.hops) (λ (f : Finding). f.len) (λ t n f. refl) es
        ∙ rw q (number_said 3 255 v (of_first (WellFormed method) 2 es v formed q))

    -- Max-Forwards stands at most once
    pub hops_there : first_repeat [] es ≡ 0 → Each (HopsAre (tallied method no_tally es).hops) es
    unfolding once find rows
    hops_there h =
        each (Only 2 (value_of 2 es)) (HopsAre (tallied method no_tally es).hops) (λ e f q. sym (total_hops e.value (f q))) es
        (only 2 es (at_most_once 2 refl es h))

    pub total_length : content_length es ≡ cond (occurs 8 es) (some (tallied method no_tally es).length) none
    unfolding noted finding content_length well_formed is_content_length
    total_length =
        sym (rw (has_value 8 es, first method 8 (λ (t : Tally). t.length) (λ (f : Finding). f.len) (λ t n f. refl) es) (go (value_of 8 es) refl))
      where
        go : (o : Option (List ℕ)) → value_of 8 es ≡ o
            → cond (of false (λ (v : List ℕ). true) o) (some (of 0 (λ (v : List ℕ). (finding method 8 v).len) o)) none
            ≡ elim o [ none ↦ none | some v ↦ some (decimal 0 v) ]
        go none q = refl
        go (some v) q =
            rw (number_said 5 99999 v (of_first (WellFormed method) 8 es v formed q))

  -- From stands at most once
  pub tags_there : first_repeat [] es ≡ 0 → Each (TagIn (tallied method no_tally es).tag) es
  unfolding once find rows tag_of
  tags_there h =
      each (Only 3 (value_of 3 es)) (TagIn (tallied method no_tally es).tag) (λ e f q. rw (total_tag e.value (f q))) es
      (only 3 es (at_most_once 3 refl es h))

  pub tags_within : first_repeat [] es ≡ 0 → Each (TagWithin (tallied method no_tally es).tag) es
  unfolding once find rows
  tags_within h =
      each (Only 3 (value_of 3 es)) (TagWithin (tallied method no_tally es).tag) (λ e f q. rw (total_tag e.value (f q)) (party_within e.value)) es
      (only 3 es (at_most_once 3 refl es h))
