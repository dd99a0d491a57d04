-- A finding is good exactly where the value is well formed, and then its schemes are those of the identities that the field brings.
use mathlib.Core.Path.{◌≡◌, refl, ◌∙◌}
use mathlib.Core.Bool.{Bool, true, false, not, cond}
use mathlib.Core.List.{List}
use Prim.Native.Nat.{ℕ}
use lib.Dec.{eqb}
use lib.ListN.{length}
use borrow.Author.Tests.{eqb-true, eqb-false, ne_eqb, not-true}
use Rattle.octets.specs.Scans.{decimal, no_number, number}
use Rattle.sip.specs.Values.{is_number, is_max_forwards, is_content_length, is_to, is_tagged, is_from, is_privacy, is_require, allowed, is_asserted}
use Rattle.sip.specs.Refusals.{Entry, well_formed, brought}
use Rattle.sip.proofs.Identities.{asserted_allowed}
use Rattle.sip.proofs.Tests.{and_left, and_right}
use Rattle.values.specs.Answers.{whole_number, privacy_at, require_at}
use Rattle.judgement.specs.declared.Finding.{Finding}
use Rattle.judgement.specs.Tallies.{finding}
use Rattle.judgement.proofs.Schemes.{mask, asserted_mask, asserted_good}

good_cond : (b : Bool) (x y : Finding) → (cond b x y).good ≡ cond b x.good y.good
good_cond true x y = refl
good_cond false x y = refl

-- a number has a digit
number_size : (most bound : ℕ) (v : List ℕ) → is_number most bound v ≡ true → length v ≡ 0 → ⊥
unfolding is_number
number_size most bound v e q =
    let k = (number most bound v).size in
    let a : eqb k 0 ≡ false = not-true (eqb k 0) (and_left (not (eqb k 0)) (eqb k (length v)) e) in
    let b : k ≡ length v = eqb-true k (length v) (and_right (not (eqb k 0)) (eqb k (length v)) e) in
    eqb-false k 0 a (b ∙ q)

number_good : (most bound : ℕ) (v : List ℕ) → not (eqb (whole_number most bound v).size 0) ≡ is_number most bound v
unfolding whole_number
number_good most bound v = go (is_number most bound v) refl
  where
    go : (t : Bool) → is_number most bound v ≡ t → not (eqb (cond t (record { size = length v; value = decimal 0 v }) no_number).size 0) ≡ t
    go true e = rw (ne_eqb (length v) 0 (number_size most bound v e))
    go false e = refl

pub good : (method : List ℕ) (n : ℕ) (v : List ℕ) → (finding method n v).good ≡ well_formed method n v
unfolding finding well_formed is_max_forwards is_content_length is_to is_tagged is_from privacy_at require_at is_privacy is_require
good method n v = simp (good_cond, number_good, asserted_good)

-- ---- the identities that a field brings

module _ (method : List ℕ) (e : Entry) (formed : well_formed method e.number e.value ≡ true) where
  pub is_asserted_lem : eqb e.number 15 ≡ true → is_asserted e.value ≡ true
  unfolding well_formed
  is_asserted_lem q = rw (eqb-true e.number 15 q) at formed

  pub brought_allowed : eqb e.number 15 ≡ true → allowed (brought e) ≡ true
  unfolding brought
  brought_allowed q = rw q (asserted_allowed e.value (is_asserted_lem q))

  pub found_schemes : eqb e.number 15 ≡ true → (finding method e.number e.value).schemes ≡ mask (brought e)
  unfolding brought finding
  found_schemes q = rw (eqb-true e.number 15 q) (asserted_mask e.value (is_asserted_lem q))
