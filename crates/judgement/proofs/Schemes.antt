-- The schemes of asserted identities as a mask: the lists that are allowed are few, and each law is looked up list by list.
use mathlib.Core.Path.{◌≡◌, refl, sym, ap, ◌∙◌}
use mathlib.Core.Bool.{Bool, true, false, not, cond}
use mathlib.Core.List.{List, [], ◌∷◌, ◌++◌, map}
use Prim.Native.Nat.{ℕ}
use lib.Bits.{bit_and, bit_or, and_zero_l, or_zero_l}
use lib.Dec.{eqb}
use Rattle.sip.specs.declared.IdentityAt.{IdentityAt}
use Rattle.sip.specs.Values.{identities, schemes, allowed, is_asserted}
use Rattle.sip.proofs.Identities.{asserted_allowed}
use Rattle.sip.proofs.Tests.{never}
use Rattle.values.specs.Answers.{asserted_of, asserted_at}

-- 1 for sip, 2 for tel
unfoldable pub mask : List Bool → ℕ
mask [] = 0
mask (t ∷ []) = cond t 2 1
mask (t ∷ u ∷ ts) = 3

-- more are allowed where no scheme comes twice
pub allowed_disjoint : (xs ys : List Bool) → allowed xs ≡ true → allowed ys ≡ true → allowed (xs ++ ys) ≡ eqb (bit_and (mask xs) (mask ys)) 0
unfolding allowed mask
allowed_disjoint [] ys a b = b ∙ sym (ap (λ (x : ℕ). eqb x 0) (and_zero_l (mask ys)))
allowed_disjoint (true ∷ []) [] a b = refl
allowed_disjoint (false ∷ []) [] a b = refl
allowed_disjoint (true ∷ []) (true ∷ []) a b = refl
allowed_disjoint (true ∷ []) (false ∷ []) a b = refl
allowed_disjoint (false ∷ []) (true ∷ []) a b = refl
allowed_disjoint (false ∷ []) (false ∷ []) a b = refl
allowed_disjoint (true ∷ []) (u ∷ w ∷ ys) a b = refl
allowed_disjoint (false ∷ []) (u ∷ w ∷ ys) a b = refl
allowed_disjoint (t ∷ u ∷ []) [] a b = a
allowed_disjoint (t ∷ u ∷ []) (true ∷ []) a b = refl
allowed_disjoint (t ∷ u ∷ []) (false ∷ []) a b = refl
allowed_disjoint (t ∷ u ∷ []) (w ∷ x ∷ ys) a b = refl
allowed_disjoint (t ∷ u ∷ w ∷ xs) ys a b = never (cc)

-- and then their mask is that of both
pub mask_append : (xs ys : List Bool) → allowed (xs ++ ys) ≡ true → mask (xs ++ ys) ≡ bit_or (mask xs) (mask ys)
unfolding allowed mask
mask_append [] ys a = sym (or_zero_l (mask ys))
mask_append (true ∷ []) [] a = refl
mask_append (false ∷ []) [] a = refl
mask_append (true ∷ []) (true ∷ []) a = never (cc)
mask_append (true ∷ []) (false ∷ []) a = refl
mask_append (false ∷ []) (true ∷ []) a = refl
mask_append (false ∷ []) (false ∷ []) a = never (cc)
mask_append (t ∷ []) (u ∷ w ∷ ys) a = never (cc)
mask_append (t ∷ u ∷ []) [] a = refl
mask_append (t ∷ u ∷ []) (w ∷ ys) a = never (cc)
mask_append (t ∷ u ∷ w ∷ xs) ys a = never (cc)

-- ---- of one value

abbrev is_tel : IdentityAt → Bool
is_tel i = i.tel

of_mask : (is : List IdentityAt) → allowed (map is_tel is) ≡ true → (asserted_of is).schemes ≡ mask (map is_tel is)
unfolding allowed mask
of_mask [] a = refl
of_mask (i ∷ []) a = refl
of_mask (i ∷ j ∷ []) a = refl
of_mask (i ∷ j ∷ k ∷ is) a = never (cc)

module _ (v : List ℕ) where
  module _ (e : is_asserted v ≡ true) where
    pub asserted_of_lem : asserted_at v ≡ asserted_of (identities v)
    unfolding asserted_at
    asserted_of_lem = rw e

    pub asserted_mask : (asserted_at v).schemes ≡ mask (schemes v)
    unfolding schemes
    asserted_mask = rw asserted_of_lem (of_mask (identities v) (asserted_allowed v e))

    some_scheme : not (eqb (mask (schemes v)) 0) ≡ true
    unfolding is_asserted mask
    some_scheme = go (schemes v) refl
      where
        go : (ts : List Bool) → schemes v ≡ ts → not (eqb (mask ts) 0) ≡ true
        go [] q = let z : false ≡ true = rw q at e in never (cc)
        go (true ∷ []) q = refl
        go (false ∷ []) q = refl
        go (t ∷ u ∷ ts) q = refl

  malformed : is_asserted v ≡ false → (asserted_at v).schemes ≡ 0
  unfolding asserted_at
  malformed e = rw e

  -- a value that asserts has a scheme
  pub asserted_good : not (eqb (asserted_at v).schemes 0) ≡ is_asserted v
  asserted_good = go (is_asserted v) refl
    where
      go : (t : Bool) → is_asserted v ≡ t → not (eqb (asserted_at v).schemes 0) ≡ t
      go true e = rw (asserted_mask e) (some_scheme e)
      go false e = rw (malformed e)
