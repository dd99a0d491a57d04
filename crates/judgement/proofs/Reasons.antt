-- What is decided on the tally is what the pages' reasons say of the kept fields: reason by reason, where none before it applies.
use mathlib.Core.Path.{◌≡◌, refl, sym, ap, ◌∙◌}
use mathlib.Core.Bool.{Bool, true, false, not, cond, ◌&&◌}
use mathlib.Core.List.{List, [], ◌∷◌, ◌++◌}
use mathlib.Core.Option.{Option, none, some}
use Prim.Native.Nat.{ℕ, zero, suc, ◌≤◌}
use native.Mathlib.Omega.{arith}
use lib.Dec.{eqb, ltb}
use lib.ListN.{length, take}
use lib.Seq.{take-length}
use borrow.Author.Tests.{eqb-true, ne_eqb, ltb-false, not-false}
use Rattle.octets.specs.Scans.{same}
use Rattle.octets.specs.Classes.{text}
use Rattle.sip.specs.declared.Column.{Column}
use Rattle.sip.specs.declared.Column.TheVariants.{Invite, Reinvite, Ack, Bye, Cancel, Options}
use Rattle.sip.specs.Lines.{RequestLine}
use Rattle.sip.specs.Profile.{column_of, numbers}
use Rattle.sip.specs.Values.{is_empty, allowed}
use Rattle.sip.specs.Refusals.{Answer, refusal, when, first_of, Entry, content_length, body_of, exceeds, missing_of, head_or, first_repeat}
use Rattle.sip.specs.Refusals.{first_malformed, is_initial}
use Rattle.sip.specs.Refusals.{reason7, reason8, reason9, reason10, reason11, reason12, reason13, reason14, reason15, reasons, response_reasons}
use Rattle.sip.proofs.Tests.{never}
use Rattle.values.specs.Answers.{request_uri}
use Rattle.judgement.specs.declared.Tally.{Tally}
use Rattle.judgement.specs.Sets.{has, lack_of, lack_at}
use Rattle.judgement.specs.Tallies.{no_tally, tallied}
use Rattle.judgement.specs.Judged.{body_length, is_too_long, hopless, column_tagged, early, shared, late, decided}
use Rattle.judgement.proofs.Members.{lack_missing}
use Rattle.judgement.proofs.Each.{Each, Listed, WellFormed, is_well_formed}
use Rattle.judgement.proofs.Totals.{total_seen, total_again, total_malformed}
use Rattle.judgement.proofs.Firsts.{total_hopless, total_length}
use Rattle.judgement.proofs.Required.{total_lacking}

-- ---- two lists of reasons that have the same first

abbrev Alike : List (Option Answer) → List (Option Answer) → Type 0
Alike [] [] = Unit {0}
Alike [] (y ∷ ys) = ⊥
Alike (x ∷ xs) [] = ⊥
Alike (x ∷ xs) (y ∷ ys) = (x ≡ y) × (y ≡ none → Alike xs ys)

alike_first : (xs ys : List (Option Answer)) → Alike xs ys → first_of xs ≡ first_of ys
alike_first [] [] h = refl
alike_first [] (y ∷ ys) h = absurd h
alike_first (x ∷ xs) [] h = absurd h
alike_first (x ∷ xs) (none ∷ ys) h = rw h.0 (alike_first xs ys (h.1 refl))
alike_first (x ∷ xs) (some a ∷ ys) h = rw h.0

alike_append : (xs ys us vs : List (Option Answer)) → Alike xs ys → (first_of ys ≡ none → Alike us vs) → Alike (xs ++ us) (ys ++ vs)
alike_append [] [] us vs h k = k refl
alike_append [] (y ∷ ys) us vs h k = absurd h
alike_append (x ∷ xs) [] us vs h k = absurd h
alike_append (x ∷ xs) (y ∷ ys) us vs h k = (h.0, λ n. alike_append xs ys us vs (h.1 n) (λ q. k (rw n q)))

none_first : (a : Option Answer) (rs : List (Option Answer)) → first_of (a ∷ rs) ≡ none → (a ≡ none) × (first_of rs ≡ none)
none_first none rs q = (refl, q)
none_first (some a) rs q = never (cc)

none_front : (xs ys : List (Option Answer)) → first_of (xs ++ ys) ≡ none → first_of xs ≡ none
none_front [] ys q = refl
none_front (none ∷ xs) ys q = none_front xs ys q
none_front (some a ∷ xs) ys q = never (cc)

when_none : (b : Bool) (a : Answer) → when b a ≡ none → b ≡ false
when_none true a e = never (cc)
when_none false a e = refl

zero_when_none : (n : ℕ) (a : Answer) → when (not (eqb n 0)) a ≡ none → n ≡ 0
zero_when_none n a e = eqb-true n 0 (not-false (eqb n 0) (when_none (not (eqb n 0)) a e))

-- ---- empty or not

take_empty : (k : ℕ) (s : List ℕ) → k ≤ length s → eqb k 0 ≡ is_empty (take k s)
unfolding is_empty
take_empty zero s h = refl
take_empty (suc k) [] h = absurd (omega arith)
take_empty (suc k) (b ∷ s) h = ne_eqb (suc k) 0 (λ q. omega arith)

lacks_is : (ns : List ℕ)
    → when (not (eqb (length ns) 0)) (refusal 12 400 (head_or 0 ns) (length ns)) ≡ when (not (is_empty ns)) (refusal 12 400 (head_or 0 ns) (length ns))
unfolding is_empty
lacks_is [] = refl
lacks_is (n ∷ ns) = rw (ne_eqb (suc (length ns)) 0 (λ q. omega arith))

-- ---- the tally of the kept fields

module _ (method : List ℕ) (es : List Entry) (rest : List ℕ) where
  abbrev all : Tally
  all = tallied method no_tally es

  reason14_is : when (not (eqb all.lacking 0)) (refusal 14 420 all.lacking 0) ≡ reason14 es
  unfolding reason14
  reason14_is = rw (total_lacking method es)

  module _ (formed : Each (WellFormed method) es) where
    length_is : content_length es ≡ cond (has all.seen 8) (some all.length) none
    length_is = total_length method es formed ∙ rw (total_seen method es 8)

    too_long : is_too_long all (length rest) ≡ exceeds es rest
    unfolding is_too_long exceeds
    too_long = rw (exceeds, length_is) (go (has all.seen 8))
      where
        go : (b : Bool)
            → (b && ltb (length rest) all.length)
            ≡ elim (cond b (some all.length) none) [ none ↦ false | some n ↦ ltb (length rest) n ]
        go true = refl
        go false = refl

    reason13_is : when (hopless all) (refusal 13 483 0 0) ≡ reason13 es
    unfolding hopless reason13
    reason13_is = rw (total_seen method es 2, ← total_hopless method es formed)

    module _ (there : exceeds es rest ≡ false) where
      pub body_there : body_length all (length rest) ≤ length rest
      unfolding body_length is_too_long
      body_there = go (has all.seen 8) (too_long ∙ there)
        where
          go : (b : Bool) → (b && ltb (length rest) all.length) ≡ false → cond b all.length (length rest) ≤ length rest
          go true q = ltb-false (length rest) all.length q
          go false q = omega arith

      pub body_is : body_of es rest ≡ take (body_length all (length rest)) rest
      unfolding body_of body_length
      body_is = rw (body_of, length_is) (go (has all.seen 8))
        where
          go : (b : Bool)
              → ◌≡◌ {A = List ℕ} (elim (cond b (some all.length) none) [ none ↦ rest | some n ↦ take n rest ])
              (take (cond b all.length (length rest)) rest)
          go true = refl
          go false = sym (take-length rest)

      empty_is : eqb (body_length all (length rest)) 0 ≡ is_empty (body_of es rest)
      empty_is = take_empty (body_length all (length rest)) rest body_there ∙ ap is_empty (sym body_is)

      module _ (c : Column) where
        lack_is : lack_of c (eqb (body_length all (length rest)) 0) all.seen ≡ missing_of c (is_empty (body_of es rest)) es numbers
        lack_is = rw empty_is (lack_missing c (is_empty (body_of es rest)) all.seen es (total_seen method es))

        reason12_is : when (not (eqb (lack_at c (eqb (body_length all (length rest)) 0) all.seen).count 0))
            (refusal 12 400 (lack_at c (eqb (body_length all (length rest)) 0) all.seen).lowest
            (lack_at c (eqb (body_length all (length rest)) 0) all.seen).count)
            ≡ reason12 c es rest
        unfolding lack_at reason12
        reason12_is = rw lack_is (lacks_is (missing_of c (is_empty (body_of es rest)) es numbers))

  -- no field repeats, each value is well formed, the identities are allowed, and the body is there
  pub record Fine : Type 0 where
    pub unrepeated : first_repeat [] es ≡ 0
    pub unmalformed : first_malformed method [] es ≡ 0
    pub formed : Each (WellFormed method) es
    pub there : exceeds es rest ≡ false

  module _ (listed : Listed es) (c : Column) where
    unmalformed_of : reason10 method es ≡ none → first_malformed method [] es ≡ 0
    unfolding reason10
    unmalformed_of q = zero_when_none (first_malformed method [] es) (refusal 10 400 (first_malformed method [] es) 0) q

    formed_of : reason10 method es ≡ none → Each (WellFormed method) es
    unfolding allowed
    formed_of q = is_well_formed method [] es refl (unmalformed_of q)

    there_of : reason11 es rest ≡ none → exceeds es rest ≡ false
    unfolding reason11
    there_of q = when_none (exceeds es rest) (refusal 11 400 0 0) q

    reason9_is : when (not (eqb all.again 0)) (refusal 9 400 all.again 0) ≡ reason9 es
    unfolding reason9
    reason9_is = rw (total_again method es listed)

    reason10_is : when (not (eqb all.malformed 0)) (refusal 10 400 all.malformed 0) ≡ reason10 method es
    unfolding reason10
    reason10_is = rw (total_malformed method es listed)

    reason11_is : Each (WellFormed method) es → when (is_too_long all (length rest)) (refusal 11 400 0 0) ≡ reason11 es rest
    unfolding reason11
    reason11_is formed = rw (too_long formed)

    alike_shared : Alike (shared c all (length rest)) (response_reasons c method es rest)
    unfolding shared response_reasons
    alike_shared = (
      reason9_is,
      λ n9. (
        reason10_is,
        λ n10.
            let formed = formed_of n10 in
            (reason11_is formed, λ n11. (reason12_is formed (there_of n11) c, λ n12. tt)),
      ),
    )

    pub shared_is : first_of (shared c all (length rest)) ≡ first_of (response_reasons c method es rest)
    shared_is = alike_first (shared c all (length rest)) (response_reasons c method es rest) alike_shared

    pub fine : first_of (response_reasons c method es rest) ≡ none → Fine
    unfolding response_reasons reason9
    fine q =
        let (n9, q10) = none_first (reason9 es) (reason10 method es ∷ reason11 es rest ∷ reason12 c es rest ∷ []) q in
        let (n10, q11) = none_first (reason10 method es) (reason11 es rest ∷ reason12 c es rest ∷ []) q10 in
        let (n11, _) = none_first (reason11 es rest) (reason12 c es rest ∷ []) q11 in
        record {
          unrepeated = zero_when_none (first_repeat [] es) (refusal 9 400 (first_repeat [] es) 0) n9;
          unmalformed = unmalformed_of n10;
          formed = formed_of n10;
          there = there_of n11;
        }

-- ---- a request

module _ (l : RequestLine) (es : List Entry) (rest : List ℕ) (listed : Listed es) (c : Column) where
  abbrev t : Tally
  t = all l.method es rest

  abbrev column : Column
  column = column_tagged c (not (eqb t.tagged 0))

  reason15_is : when (is_initial column && not (request_uri l.uri).called) (refusal 15 484 0 0) ≡ reason15 column l
  unfolding reason15 request_uri
  reason15_is = refl

  abbrev last : List (Option Answer)
  last = reason13 es ∷ reason14 es ∷ reason15 column l ∷ []

  alike_late : first_of (response_reasons column l.method es rest) ≡ none → Alike (late column t (request_uri l.uri)) last
  unfolding late
  alike_late q =
      let formed = (fine l.method es rest listed column q).formed in
      (reason13_is l.method es rest formed, λ n13. (reason14_is l.method es rest, λ n14. (reason15_is, λ n15. tt)))

  alike : Alike (decided c t (request_uri l.uri) (length rest)) (reasons column l es rest)
  unfolding decided early reasons response_reasons reason7 reason8 request_uri
  alike = (
    refl,
    λ n7. (
      refl,
      λ n8.
          alike_append (shared column t (length rest)) (response_reasons column l.method es rest) (late column t (request_uri l.uri)) last
          (alike_shared l.method es rest listed column) alike_late,
    ),
  )

  pub decided_is : first_of (decided c t (request_uri l.uri) (length rest)) ≡ first_of (reasons column l es rest)
  decided_is = alike_first (decided c t (request_uri l.uri) (length rest)) (reasons column l es rest) alike

  pub request_fine : first_of (reasons column l es rest) ≡ none → Fine l.method es rest
  unfolding reasons response_reasons
  request_fine q =
      let both = response_reasons column l.method es rest in
      let (_, q8) = none_first (reason7 l) (reason8 l ∷ (both ++ last)) q in
      let (_, q9) = none_first (reason8 l) (both ++ last) q8 in
      fine l.method es rest listed column (none_front both last q9)

-- ---- the column

-- a column that was found without asking for the tag, by the tag
abbrev recolumned : Bool → Option Column → Option Column
recolumned t none = none
recolumned t (some c) = some (column_tagged c t)

pub column_is : (method : List ℕ) (t : Bool) → column_of method t ≡ recolumned t (column_of method false)
unfolding column_of
column_is method t =
    go (same (text "INVITE") method) (same (text "ACK") method) (same (text "BYE") method) (same (text "CANCEL") method) (same (text "OPTIONS") method)
  where
    chosen : Column → Bool → Bool → Bool → Bool → Bool → Option Column
    chosen c i a b k o = cond i (some c) (cond a (some Ack) (cond b (some Bye) (cond k (some Cancel) (cond o (some Options) none))))

    go : (i a b k o : Bool) → chosen (cond t Reinvite Invite) i a b k o ≡ recolumned t (chosen Invite i a b k o)
    go true a b k o = refl
    go false true b k o = refl
    go false false true k o = refl
    go false false false true o = refl
    go false false false false true = refl
    go false false false false false = refl
