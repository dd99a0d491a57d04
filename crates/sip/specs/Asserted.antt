-- CR 6, the identities that a message asserts, by the grammar: those of all its P-Asserted-Identity fields (number 15), in their order.
use Rattle.std.specs.Prelude.{◌≡◌, List, [], ◌∷◌, ◌++◌, ℕ}
use Rattle.sip.specs.Lines.{Field, canonical}
use Rattle.sip.specs.Profile.{number_of}
use Rattle.sip.specs.Grammar.{UriParts, sip_parts, tel_parts, Identities, Allowed}

-- the fields of a message, and the URIs of its identities; each P-Asserted-Identity is derived, whatever its identities are
pub data Asserting : List Field → List UriParts → Type 0 where
  nothing_asserted : Asserting [] []
  other_field : {f : Field} {fs : List Field} {us : List UriParts} → (number_of f.name ≡ 15 → ⊥) → Asserting fs us → Asserting (f ∷ fs) us
  asserting_field :
      {f : Field} {fs : List Field} {ws us : List UriParts} → number_of f.name ≡ 15 → Identities (canonical f.value) ws → Asserting fs us
      → Asserting (f ∷ fs) (ws ++ us)

-- "Allow one or two ..: if two, one sip and one tel, each of the old form", of all the fields together
pub record IdentitiesAllowed (fs : List Field) : Type 0 where
  pub uris : List UriParts
  pub asserting : Asserting fs uris
  pub are_allowed : Allowed uris

-- "The calling number comes from the sip one (document 002, Table 5, note 1) in either order": the identities, and the one that it comes from
pub data Calling : List UriParts → UriParts → Type 0 where
  the_only_one : (u : UriParts) → Calling (u ∷ []) u
  sip_first :
      (user host port tail number t : List ℕ)
      → Calling (sip_parts user host port tail ∷ tel_parts number t ∷ []) (sip_parts user host port tail)
  sip_second :
      (number t user host port tail : List ℕ)
      → Calling (tel_parts number t ∷ sip_parts user host port tail ∷ []) (sip_parts user host port tail)
