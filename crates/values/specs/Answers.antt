-- What the value readers answer, by document 01's definitions.
use Rattle.std.specs.Prelude.{◌≡◌, Bool, true, false, cond, List, [], ◌∷◌, ℕ, ◌+◌, ◌≤◌, length, drop, Option, Some, None, unwrap_or, IfSome}
use Rattle.std.specs.Fn.{FnReturnsAt}
use denote.Param.Members.{Shared}
use denote.Ref.{Bor}
use Rattle.octets.specs.Classes.{is_user}
use Rattle.octets.specs.Scans.{starts, run_escaped, decimal, no_number}
use Rattle.octets.specs.declared.NumberAt.{NumberAt}
use Rattle.sip.specs.declared.UriAt.{UriAt}
use Rattle.sip.specs.declared.AddressAt.{AddressAt}
use Rattle.sip.specs.declared.ParamAt.{ParamAt}
use Rattle.sip.specs.declared.PartyAt.{PartyAt}
use Rattle.sip.specs.declared.Span.{Span}
use Rattle.sip.specs.declared.IdentityAt.{IdentityAt}
use Rattle.sip.specs.Values.{is_number, uri, person, no_party, is_called, identities, allowed, is_asserted}
use Rattle.sip.specs.Values.{tokens, list_or, is_list, first_place, is_restricting, is_lacking}
use Rattle.sip.specs.Refusals.{other_scheme, is_uri}
use Rattle.values.specs.declared.RequestUri.{RequestUri}
use Rattle.values.specs.declared.Tokens.{Tokens}
use Rattle.values.specs.declared.AssertedAt.{AssertedAt}

-- ---- what a reader says of something at the front of a text of n bytes, or of a whole text

-- a size that is told: of what stands at the front of s, n bytes; none where n is 0
abbrev pub IsSize : Option ℕ → ℕ → List ℕ → Type 0
IsSize told n s = (unwrap_or told 0 ≡ n) × IfSome told (λ k. (1 ≤ k) × (k ≤ length s))

-- what is told of a list of tokens: it has no more of them than bytes, and their places count from 1
abbrev pub TokensFit : List ℕ → Tokens → Type 0
TokensFit s t = (t.count ≤ length s) × IfSome t.first (λ n. 1 ≤ n)

-- the URI stands in n bytes, its tail at its end, and its user behind the four bytes of the scheme and before the tail
abbrev pub UriFits : UriAt → ℕ → Type 0
UriFits u n = (1 ≤ u.size) × (u.size ≤ n) × (u.tail ≤ u.size) × (u.user + 4 ≤ u.tail)

-- the address stands in n bytes, and its URI in it; the user, or a tel URI's number, stands in that behind four bytes
abbrev pub AddressFits : AddressAt → ℕ → Type 0
AddressFits a n = (1 ≤ a.size) × (a.size ≤ n) × (a.at + a.uri.size ≤ a.size) × (a.uri.user + 4 ≤ a.uri.size)

-- the parameter stands in n bytes, and its value in it
abbrev pub ParamFits : ParamAt → ℕ → Type 0
ParamFits p n = (1 ≤ p.size) × (p.size ≤ n) × (p.value + p.len ≤ p.size)

-- the party that is told
abbrev pub party_of : Option Span → PartyAt
party_of None = no_party
party_of (Some t) = record { good = true; tag = t.start; len = t.len }

-- ---- the answers

-- the number that is told of a value of so many bytes
abbrev pub number_of : ℕ → Option ℕ → NumberAt
number_of size None = no_number
number_of size (Some n) = record { size = size; value = n }

-- a value that is a number of 1 to `most` digits, at most `bound`; size 0 where it is none
unfoldable pub whole_number : ℕ → ℕ → List ℕ → NumberAt
whole_number most bound v = cond (is_number most bound v) (record { size = length v; value = decimal 0 v }) no_number

-- the user of a sip URI and its `@`; 0 where there is none
unfoldable pub userinfo : List ℕ → ℕ
userinfo s = let u = run_escaped is_user 0 s in cond (starts 64 (drop u s)) (u + 1) 0

unfoldable pub request_uri : List ℕ → RequestUri
request_uri u = record { other = other_scheme u; good = is_uri u; called = is_called (person (uri u) u) }

abbrev pub no_asserted : AssertedAt
no_asserted = record { schemes = 0; start = 0; len = 0 }

-- P-Asserted-Identity: the schemes of its identities, 1 for sip and 2 for tel, and where the number stands of the only one
abbrev pub alone : IdentityAt → AssertedAt
alone i = record { schemes = cond i.tel 2 1; start = i.start; len = i.len }

-- the same of two: where the number of the sip one stands
abbrev pub both : IdentityAt → IdentityAt → AssertedAt
both i j = let sip = cond i.tel j i in record { schemes = 3; start = sip.start; len = sip.len }

-- of two that fill a value: one has to be a sip URI and one a tel URI
unfoldable pub paired : IdentityAt → IdentityAt → AssertedAt
paired i j = cond (allowed (i.tel ∷ j.tel ∷ [])) (both i j) no_asserted

abbrev pub asserted_of : List IdentityAt → AssertedAt
asserted_of [] = no_asserted
asserted_of (i ∷ []) = alone i
asserted_of (i ∷ j ∷ []) = both i j
asserted_of (i ∷ j ∷ k ∷ others) = no_asserted

-- what a P-Asserted-Identity asserts; `no_asserted` where it is malformed
unfoldable pub asserted_at : List ℕ → AssertedAt
asserted_at v = cond (is_asserted v) (asserted_of (identities v)) no_asserted

-- a list of tokens: whether it is one, how many tokens it has, and the place, from 1, of the first that passes a test (0: none does)
pub record ListAt : Type 0 where
  pub good : Bool
  pub count : ℕ
  pub first : ℕ

abbrev pub no_list : ListAt
no_list = record { good = false; count = 0; first = 0 }

-- the list that is told
abbrev pub list_of : Option Tokens → ListAt
list_of None = no_list
list_of (Some t) = record { good = true; count = t.count; first = unwrap_or t.first 0 }

-- the test that is handed in answers at each text what p says of it
abbrev pub Tests : {F : Type 0} → Shared F (Bor (List ℕ) × Unit {0}) Bool → F → (List ℕ → Bool) → Type 0
Tests g test p = (t : List ℕ) (answer : Bool) → FnReturnsAt g test t answer → answer ≡ p t

abbrev pub list_at : ℕ → (List ℕ → Bool) → List ℕ → ListAt
list_at sep p v = let ts = tokens sep 0 v in record { good = is_list ts; count = length (list_or ts); first = first_place p 0 (list_or ts) }

-- Privacy: the first token by which the caller is withheld
unfoldable pub privacy_at : List ℕ → ListAt
privacy_at v = list_at 59 is_restricting v

-- Require: the first tag that we lack
unfoldable pub require_at : List ℕ → ListAt
require_at v = list_at 44 is_lacking v
