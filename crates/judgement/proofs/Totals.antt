-- What is seen, what came again and what is malformed at the end of the pass are what document 01's words say of the list.
use mathlib.Core.Path.{◌≡◌, refl, sym, ◌∙◌}
use mathlib.Core.Bool.{Bool, true, false, cond, ◌&&◌, ◌||◌, and-true}
use mathlib.Core.List.{List, [], ◌∷◌, ◌++◌, append-nil}
use Prim.Native.Nat.{ℕ, ◌<◌}
use lib.Bits.{bit_and, bit_or, or_zero_r}
use lib.Dec.{eqb}
use native.Mathlib.Omega.{arith}
use borrow.Author.Tests.{ne_eqb, eqb-true, eqb-false}
use Rattle.octets.specs.Classes.{among}
use Rattle.sip.specs.Profile.{once}
use Rattle.sip.specs.Values.{allowed}
use Rattle.sip.specs.Refusals.{Entry, occurs, first_repeat, well_formed, brought, first_malformed}
use Rattle.sip.proofs.Tests.{eqb_turned, and_left, and_right}
use Rattle.judgement.specs.declared.Finding.{Finding}
use Rattle.judgement.specs.declared.Tally.{Tally}
use Rattle.judgement.specs.Sets.{has}
use Rattle.judgement.specs.Tallies.{finding, or_else, fitting, noted, no_tally, tallied}
use Rattle.judgement.proofs.Masks.{has_none, has_with}
use Rattle.judgement.proofs.Schemes.{mask, allowed_disjoint, mask_append}
use Rattle.judgement.proofs.Good.{good, brought_allowed, found_schemes}
use Rattle.judgement.proofs.Each.{Listed}

-- ---- the first that is not 0

pub else_none : (a : ℕ) → or_else a 0 ≡ a
else_none a = go (eqb a 0) refl
  where
    go : (t : Bool) → eqb a 0 ≡ t → cond t 0 a ≡ a
    go true e = sym (eqb-true a 0 e)
    go false e = refl

pub else_assoc : (a b c : ℕ) → or_else (or_else a b) c ≡ or_else a (or_else b c)
else_assoc a b c = go (eqb a 0) refl
  where
    go : (t : Bool) → eqb a 0 ≡ t → or_else (cond t b a) c ≡ cond t (or_else b c) a
    go true e = refl
    go false e = rw e

else_first : (t : Bool) (n c : ℕ) → 0 < n → or_else (cond t n 0) c ≡ cond t n c
else_first true n c h = rw (ne_eqb n 0 (λ q. omega arith))
else_first false n c h = refl

else_later : (t : Bool) (n c : ℕ) → 0 < n → or_else (cond t 0 n) c ≡ cond t c n
else_later true n c h = refl
else_later false n c h = rw (ne_eqb n 0 (λ q. omega arith))

else_zero : (a b : ℕ) → or_else a b ≡ 0 → (a ≡ 0) × (b ≡ 0)
else_zero a b h = go (eqb a 0) refl h
  where
    go : (t : Bool) → eqb a 0 ≡ t → cond t b a ≡ 0 → (a ≡ 0) × (b ≡ 0)
    go true e q = (eqb-true a 0 e, q)
    go false e q = absurd (eqb-false a 0 e q)

else_under : (a : ℕ) {b c : ℕ} → (a ≡ 0 → b ≡ c) → or_else a b ≡ or_else a c
else_under a {b} {c} f = go (eqb a 0) refl
  where
    go : (t : Bool) → eqb a 0 ≡ t → cond t b a ≡ cond t c a
    go true e = f (eqb-true a 0 e)
    go false e = refl

kept_zero : (t : Bool) (n : ℕ) → 0 < n → cond t 0 n ≡ 0 → t ≡ true
kept_zero true n h q = refl
kept_zero false n h q = absurd (omega arith)

-- ---- one field more

or_swap : (a b c : Bool) → (a || (b || c)) ≡ ((b || a) || c)
or_swap true true c = refl
or_swap true false c = refl
or_swap false true c = refl
or_swap false false c = refl

or_none : (a : Bool) → (a || false) ≡ a
or_none true = refl
or_none false = refl

module _ (method : List ℕ) where
  -- the tally with one entry more
  abbrev pub next : Tally → Entry → Tally
  next t e = noted t e.number (finding method e.number e.value)

  pub seen_next : (t : Tally) (e : Entry) (k : ℕ) → has (next t e).seen k ≡ (eqb e.number k || has t.seen k)
  unfolding noted
  seen_next t e k = has_with t.seen e.number k

  seen_is : (t : Tally) (es : List Entry) (k : ℕ) → has (tallied method t es).seen k ≡ (occurs k es || has t.seen k)
  unfolding tallied occurs
  seen_is t [] k = refl
  seen_is t (e ∷ es) k =
      seen_is (next t e) es k ∙ rw (seen_next t e k) (or_swap (occurs k es) (eqb e.number k) (has t.seen k))

  again_is : (t : Tally) (earlier : List ℕ) (es : List Entry) → Listed es → ((k : ℕ) → has t.seen k ≡ among earlier k)
      → (tallied method t es).again ≡ or_else t.again (first_repeat earlier es)
  unfolding tallied first_repeat noted
  again_is t earlier [] n h = sym (else_none t.again)
  again_is t earlier (e ∷ es) n h =
      again_is (next t e) (e.number ∷ earlier) es n.1 (λ k. seen_next t e k ∙ rw (eqb_turned e.number k, h k))
      ∙ rw (h e.number) (else_assoc t.again (cond (once e.number && among earlier e.number) e.number 0) (first_repeat (e.number ∷ earlier) es)
      ∙ rw (else_first, n.0))

  -- the mask is that of the identities so far, and they are allowed
  pub record SoFar (t : Tally) (earlier : List Bool) : Type 0 where
    pub masked : t.schemes ≡ mask earlier
    pub are_allowed : allowed earlier ≡ true

  module _ (t : Tally) (earlier : List Bool) (e : Entry) where
    abbrev so_far : List Bool
    so_far = earlier ++ brought e

    abbrev formed : Bool
    formed = well_formed method e.number e.value

    abbrev f : Finding
    f = finding method e.number e.value

    abbrev fits : Bool
    fits = cond (eqb e.number 15) (fitting t.schemes f) f.good

    module _ (s : SoFar t earlier) where
      -- a P-Asserted-Identity
      fitting_is : eqb e.number 15 ≡ true → fitting t.schemes f ≡ (formed && allowed so_far)
      fitting_is p = rw (good method e.number e.value) (go formed refl)
        where
          go : (b : Bool) → formed ≡ b → (b && eqb (bit_and t.schemes f.schemes) 0) ≡ (b && allowed so_far)
          go true q =
              rw (s.masked, found_schemes method e q p) (sym (allowed_disjoint earlier (brought e) s.are_allowed (brought_allowed method e q p)))
          go false q = refl

      -- a field that brings no identity
      good_is : eqb e.number 15 ≡ false → f.good ≡ (formed && allowed so_far)
      unfolding brought
      good_is p =
          good method e.number e.value
          ∙ rw (p, append-nil earlier, s.are_allowed) (sym (and-true formed))

      fits_is : fits ≡ (formed && allowed so_far)
      fits_is = go (eqb e.number 15) refl
        where
          go : (b : Bool) → eqb e.number 15 ≡ b → cond b (fitting t.schemes f) f.good ≡ (formed && allowed so_far)
          go true p = fitting_is p
          go false p = good_is p

    pub next_schemes : SoFar t earlier → formed ≡ true → allowed so_far ≡ true → SoFar (next t e) so_far
    unfolding noted brought mask
    next_schemes s q a =
        record { masked = go (eqb e.number 15) refl (mask_append earlier (brought e) a); are_allowed = a }
      where
        go : (b : Bool) → eqb e.number 15 ≡ b → mask so_far ≡ bit_or (mask earlier) (mask (brought e))
            → cond b (bit_or t.schemes f.schemes) t.schemes ≡ mask so_far
        go true p m = rw (s.masked, found_schemes method e q p) (sym m)
        go false p m = s.masked ∙ sym (m ∙ rw p (or_zero_r (mask earlier)))

    module _ (listed : 0 < e.number) where
      still : (t.malformed ≡ 0 → SoFar t earlier) → (next t e).malformed ≡ 0 → SoFar (next t e) so_far
      unfolding noted
      still s z =
          let (y, x) = else_zero t.malformed (cond fits 0 e.number) z in
          let w : (formed && allowed so_far) ≡ true = sym (fits_is (s y)) ∙ kept_zero fits e.number listed x in
          next_schemes (s y) (and_left formed (allowed so_far) w) (and_right formed (allowed so_far) w)

      first_is : (t.malformed ≡ 0 → SoFar t earlier) → (es : List Entry)
          → or_else (next t e).malformed (first_malformed method so_far es) ≡ or_else t.malformed (first_malformed method earlier (e ∷ es))
      unfolding noted first_malformed
      first_is s es =
          else_assoc t.malformed (cond fits 0 e.number) (first_malformed method so_far es)
          ∙ else_under t.malformed (λ z. else_later fits e.number (first_malformed method so_far es) listed ∙ rw (fits_is (s z)))

  malformed_is : (t : Tally) (earlier : List Bool) (es : List Entry) → Listed es → (t.malformed ≡ 0 → SoFar t earlier)
      → (tallied method t es).malformed ≡ or_else t.malformed (first_malformed method earlier es)
  unfolding tallied first_malformed
  malformed_is t earlier [] n s = sym (else_none t.malformed)
  malformed_is t earlier (e ∷ es) n s =
      malformed_is (next t e) (earlier ++ brought e) es n.1 (still t earlier e n.0 s) ∙ first_is t earlier e n.0 s es

  -- ---- from the start

  module _ (es : List Entry) where
    pub total_seen : (k : ℕ) → has (tallied method no_tally es).seen k ≡ occurs k es
    total_seen k = seen_is no_tally es k ∙ rw (has_none k) (or_none (occurs k es))

    module _ (listed : Listed es) where
      pub total_again : (tallied method no_tally es).again ≡ first_repeat [] es
      total_again = again_is no_tally [] es listed has_none

      pub total_malformed : (tallied method no_tally es).malformed ≡ first_malformed method [] es
      unfolding allowed mask
      total_malformed = malformed_is no_tally [] es listed (λ z. record { masked = refl; are_allowed = refl })
