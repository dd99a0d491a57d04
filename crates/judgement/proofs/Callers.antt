-- The tally's caller is the pages': an accepted field leaves at most two identities, of two one sip and one tel; all such lists are looked at.
use mathlib.Core.Path.{◌≡◌, refl, ap, ◌∙◌}
use mathlib.Core.Bool.{Bool, true, false, cond, ◌||◌}
use mathlib.Core.List.{List, [], ◌∷◌, ◌++◌, map, append-nil, append_assoc}
use Prim.Native.Nat.{ℕ, suc, ◌≤◌, ◌<◌}
use native.Mathlib.Omega.{arith}
use lib.Dec.{eqb}
use lib.ListN.{length, length-append}
use borrow.Author.Tests.{eqb-true, eqb-false}
use Rattle.sip.specs.declared.IdentityAt.{IdentityAt}
use Rattle.sip.specs.Values.{identities, schemes, allowed, is_asserted}
use Rattle.sip.specs.Refusals.{Entry, brought, first_malformed}
use Rattle.sip.specs.Readings.{Asserted, asserted_by, asserted, sip_or, preferred, caller_in}
use Rattle.sip.proofs.Accepted.{FirstFormed, first_formed}
use Rattle.sip.proofs.Tests.{never}
use Rattle.values.specs.Answers.{asserted_of}
use Rattle.judgement.specs.declared.Tally.{Tally}
use Rattle.std.specs.Prelude.{Option as RustOption, Some, IfSome}
use Rattle.sip.specs.declared.CallerAt.{CallerAt}
use Rattle.judgement.specs.declared.Finding.{Finding}
use Rattle.judgement.specs.Judges.{caller_found}
use Rattle.judgement.specs.Tallies.{found_asserted, finding, caller_after, noted, no_tally, tallied}
use Rattle.judgement.proofs.Schemes.{mask, asserted_of_lem}
use Rattle.judgement.proofs.Good.{is_asserted_lem}
use Rattle.judgement.proofs.Totals.{next, SoFar, next_schemes}

-- whether each is a tel URI
abbrev tels : List Asserted → List Bool
tels xs = map (λ (a : Asserted). a.identity.tel) xs

-- ---- one field more

module _ (k : ℕ) (v : List ℕ) where
  abbrev by : List IdentityAt → List Asserted
  by js = map (λ (i : IdentityAt). record { field = suc k; value = v; identity = i }) js

  length_by : (js : List IdentityAt) → length (by js) ≡ length js
  length_by [] = refl
  length_by (i ∷ js) = ap suc (length_by js)

  tels_by : (xs : List Asserted) (js : List IdentityAt) → tels (xs ++ by js) ≡ tels xs ++ map (λ (i : IdentityAt). i.tel) js
  tels_by [] [] = refl
  tels_by [] (i ∷ js) = ap (λ (ts : List Bool). i.tel ∷ ts) (tels_by [] js)
  tels_by (a ∷ xs) js = ap (λ (ts : List Bool). a.identity.tel ∷ ts) (tels_by xs js)

  abbrev Right : List Asserted → List IdentityAt → Type 0
  Right xs js = caller_after (mask (tels xs)) (caller_found (preferred xs)) (found_asserted (asserted_of js)) ≡ caller_found (preferred (xs ++ by js))

  -- the first field that asserts
  first_one : (i : IdentityAt) → k ≡ 0 → Right [] (i ∷ [])
  unfolding mask sip_or
  first_one i z = go i.tel refl
    where
      go : (b : Bool) → i.tel ≡ b → Right [] (i ∷ [])
      go true p = rw (p, z)
      go false p = rw (p, z)

  first_two : (i j : IdentityAt) → k ≡ 0 → allowed (i.tel ∷ j.tel ∷ []) ≡ true → Right [] (i ∷ j ∷ [])
  unfolding mask sip_or allowed
  first_two i j z a = go i.tel j.tel refl refl
    where
      go : (b c : Bool) → i.tel ≡ b → j.tel ≡ c → Right [] (i ∷ j ∷ [])
      go true true p q = let x : false ≡ true = rw (p, q) at a in never (cc)
      go true false p q = rw (p, q, z)
      go false true p q = rw (p, z)
      go false false p q = let x : false ≡ true = rw (p, q) at a in never (cc)

  -- the second
  second_one : (x : Asserted) (i : IdentityAt) → k ≡ 1 → allowed (x.identity.tel ∷ i.tel ∷ []) ≡ true → Right (x ∷ []) (i ∷ [])
  unfolding mask sip_or allowed
  second_one x i z a = go x.identity.tel i.tel refl refl
    where
      go : (b c : Bool) → x.identity.tel ≡ b → i.tel ≡ c → Right (x ∷ []) (i ∷ [])
      go true true p q = let y : false ≡ true = rw (p, q) at a in never (cc)
      go true false p q = rw (p, q, z)
      go false true p q = rw (p, q)
      go false false p q = let y : false ≡ true = rw (p, q) at a in never (cc)

  -- one field came before
  one_before : k ≤ 1 → (k ≡ 0 → ◌≡◌ {A = ℕ} 1 0) → k ≡ 1
  one_before l n = go (eqb k 0) refl
    where
      go : (b : Bool) → eqb k 0 ≡ b → k ≡ 1
      go true q = absurd (omega (arith, n (eqb-true k 0 q)))
      go false q = omega (arith, eqb-false k 0 q)

  right : (xs : List Asserted) (js : List IdentityAt) → k ≤ length xs → (k ≡ 0 → length xs ≡ 0) → 0 < length js
      → allowed (tels xs ++ map (λ (i : IdentityAt). i.tel) js) ≡ true → Right xs js
  unfolding allowed
  right [] [] few none_yet some_here a = absurd (omega arith)
  right [] (i ∷ []) few none_yet some_here a = first_one i (omega arith)
  right [] (i ∷ j ∷ []) few none_yet some_here a = first_two i j (omega arith) a
  right [] (i ∷ j ∷ h ∷ js) few none_yet some_here a = never (cc)
  right (x ∷ []) [] few none_yet some_here a = absurd (omega arith)
  right (x ∷ []) (i ∷ []) few none_yet some_here a = second_one x i (one_before few none_yet) a
  right (x ∷ []) (i ∷ j ∷ js) few none_yet some_here a = never (cc)
  right (x ∷ y ∷ []) [] few none_yet some_here a = absurd (omega arith)
  right (x ∷ y ∷ []) (i ∷ js) few none_yet some_here a = never (cc)
  right (x ∷ y ∷ z ∷ xs) js few none_yet some_here a = never (cc)

-- ---- the pass

module _ (method : List ℕ) where
  -- k P-Asserted-Identity fields came, and brought these identities, each one at least
  record Known (t : Tally) (k : ℕ) (xs : List Asserted) : Type 0 where
    so_far : SoFar method t (tels xs)
    told : t.caller ≡ caller_found (preferred xs)
    few : k ≤ length xs
    none_yet : k ≡ 0 → length xs ≡ 0

  module _ (t : Tally) (k : ℕ) (xs : List Asserted) (known : Known t k xs) (e : Entry) (es : List Entry) (f : FirstFormed method (tels xs) e es) where
    after : SoFar method (next method t e) (tels xs ++ brought e)
    after = next_schemes method t (tels xs) e known.so_far f.is_formed f.is_allowed

    -- a field that asserts nothing
    module _ (p : eqb e.number 15 ≡ false) where
      same_schemes : tels xs ++ brought e ≡ tels xs
      unfolding brought
      same_schemes = rw p (append-nil (tels xs))

      same_caller : (next method t e).caller ≡ t.caller
      unfolding noted
      same_caller = rw p

      passed_over : Known (next method t e) k xs
      passed_over =
          record { so_far = rw same_schemes at after; told = same_caller ∙ known.told; few = known.few; none_yet = known.none_yet }

    -- a P-Asserted-Identity
    module _ (p : eqb e.number 15 ≡ true) where
      abbrev here : List Asserted
      here = asserted_by (suc k) e.value

      asserts : is_asserted e.value ≡ true
      asserts = is_asserted_lem method e f.is_formed p

      all_schemes : tels (xs ++ here) ≡ tels xs ++ brought e
      unfolding brought schemes
      all_schemes = tels_by k e.value xs (identities e.value) ∙ rw p

      some_here : 0 < length (identities e.value)
      unfolding is_asserted schemes
      some_here = go (identities e.value) refl
        where
          go : (js : List IdentityAt) → identities e.value ≡ js → 0 < length js
          go [] q = let z : false ≡ true = rw q at asserts in never (cc)
          go (i ∷ js) q = omega arith

      right_here : Right k e.value xs (identities e.value)
      unfolding brought schemes
      right_here = right k e.value xs (identities e.value) known.few known.none_yet some_here (rw p at f.is_allowed)

      new_caller : (next method t e).caller ≡ caller_found (preferred (xs ++ here))
      unfolding noted finding
      new_caller =
          rw (eqb-true e.number 15 p, known.told, known.so_far.masked, asserted_of_lem e.value asserts) right_here

      taken_in : Known (next method t e) (suc k) (xs ++ here)
      taken_in =
          record {
            so_far = rw all_schemes after;
            told = new_caller;
            few = omega (arith, known.few, some_here, length-append xs here, length_by k e.value (identities e.value));
            none_yet = λ z. absurd (omega arith);
          }

  caller_is : (t : Tally) (k : ℕ) (xs : List Asserted) (es : List Entry) → Known t k xs → first_malformed method (tels xs) es ≡ 0
      → (tallied method t es).caller ≡ caller_found (preferred (xs ++ asserted k es))
  unfolding tallied asserted
  caller_is t k xs [] known h = known.told ∙ rw (append-nil xs)
  caller_is t k xs (e ∷ es) known h =
      go (first_formed method (tels xs) e es known.so_far.are_allowed h) (λ j ys. caller_is (next method t e) j ys es) (eqb e.number 15) refl
    where
      go : FirstFormed method (tels xs) e es
          → ((j : ℕ) (ys : List Asserted) → Known (next method t e) j ys → first_malformed method (tels ys) es ≡ 0
          → (tallied method (next method t e) es).caller ≡ caller_found (preferred (ys ++ asserted j es)))
          → (b : Bool) → eqb e.number 15 ≡ b
          → (tallied method (next method t e) es).caller
          ≡ caller_found (preferred (xs ++ cond b (asserted_by (suc k) e.value ++ asserted (suc k) es) (asserted k es)))
      go f others true p =
          others (suc k) (xs ++ asserted_by (suc k) e.value) (taken_in t k xs known e es f p) (rw (all_schemes t k xs known e es f p) f.others)
          ∙ rw (append_assoc xs (asserted_by (suc k) e.value) (asserted (suc k) es))
      go f others false p =
          others k xs (passed_over t k xs known e es f p) (rw (same_schemes t k xs known e es f p) at f.others)

  pub total_caller : (es : List Entry) → first_malformed method [] es ≡ 0 → (tallied method no_tally es).caller ≡ caller_found (caller_in es)
  unfolding allowed mask caller_in
  total_caller es h =
      caller_is no_tally 0 [] es
      (record { so_far = record { masked = refl; are_allowed = refl }; told = refl; few = omega arith; none_yet = λ z. refl })
      h

-- ---- the fields count from 1

abbrev Named : RustOption CallerAt → Type 0
Named o = IfSome o (λ (k : CallerAt). 1 ≤ k.field)

after_named : (schemes : ℕ) (o : RustOption CallerAt) (f : Finding) → Named o → Named (caller_after schemes o f)
after_named schemes o f h = go (eqb schemes 0) (eqb f.schemes 1)
  where
    go : (a b : Bool) → Named (cond (a || b) (Some (record { field = cond a 1 2; start = f.start; len = f.len })) o)
    go true b = omega arith
    go false true = omega arith
    go false false = h

module _ (method : List ℕ) where
  all_named : (t : Tally) (es : List Entry) → Named t.caller → Named (tallied method t es).caller
  unfolding tallied noted
  all_named t [] h = h
  all_named t (e ∷ es) h = all_named (next method t e) es (go (eqb e.number 15) (after_named t.schemes t.caller (finding method e.number e.value) h))
    where
      go : (b : Bool) → Named (caller_after t.schemes t.caller (finding method e.number e.value))
          → Named (cond b (caller_after t.schemes t.caller (finding method e.number e.value)) t.caller)
      go true k = k
      go false k = h

  pub total_named : (es : List Entry) → Named (tallied method no_tally es).caller
  total_named es = all_named no_tally es tt
