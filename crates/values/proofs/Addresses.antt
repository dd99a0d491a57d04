-- What is asserted, by the identities of a value.
use mathlib.Core.Path.{◌≡◌}
use mathlib.Core.List.{List, [], ◌∷◌}
use Prim.Native.Nat.{ℕ}
use Rattle.sip.specs.declared.IdentityAt.{IdentityAt}
use Rattle.sip.specs.Values.{identities, schemes, allowed, is_asserted}
use Rattle.values.specs.Answers.{no_asserted, alone, paired, asserted_at}

module _ (v : List ℕ) where
  pub no_identities : identities v ≡ [] → no_asserted ≡ asserted_at v
  unfolding asserted_at is_asserted schemes
  no_identities e = rw e

  pub one_identity : (i : IdentityAt) → identities v ≡ i ∷ [] → alone i ≡ asserted_at v
  unfolding asserted_at is_asserted schemes allowed
  one_identity i e = rw e

  pub two_identities : (i j : IdentityAt) → identities v ≡ i ∷ j ∷ [] → paired i j ≡ asserted_at v
  unfolding asserted_at is_asserted schemes paired
  two_identities i j e = rw e
