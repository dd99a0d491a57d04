-- Edge cases of the grammar, each settled by computing its reader: values that it derives, and values that it does not derive.
use mathlib.Core.Path.{◌≡◌, refl}
use mathlib.Core.Bool.{Bool, true, false, not, ◌&&◌}
use mathlib.Core.List.{List, [], ◌∷◌, map}
use mathlib.Core.Logic.{◌↔◌}
use Prim.Native.Nat.{ℕ}
use Prim.Native.String.{String}
use native.Mathlib.Omega.{arith}
use Rattle.octets.specs.Classes.{text, is_token, is_blank, is_digit, is_user, is_host, is_parameter, is_visible}
use Rattle.octets.specs.Scans.{run, all, starts, run_escaped, quoted, decimal, number, same, same_text}
use Rattle.sip.specs.Profile.{rows, find, name_of}
use Rattle.sip.specs.Values.{is_empty, is_number, is_max_forwards, is_content_length, is_cseq, is_call_id, host, port, host_port, tail, sip_from, sip}
use Rattle.sip.specs.Values.{tel, uri, display, bracketed, address, sign, param_value, param_rest, param, with_param, stops, params, party}
use Rattle.sip.specs.Values.{is_to, is_tagged, is_from, is_global, person, identity, identities, schemes, allowed, is_asserted, tokens}
use Rattle.sip.specs.Values.{is_privacy, is_require}
use Rattle.sip.specs.Refusals.{other_scheme, is_uri, well_formed}
use Rattle.sip.specs.Grammar.{Token, UriParts, Uri, OtherScheme, not_empty, Formed}
use Rattle.sip.proofs.Tests.{never, and_left, and_right}
use Rattle.sip.proofs.Grammar.Bytes.{each_all}
use Rattle.sip.proofs.Grammar.Promises.{scheme_read, uri_read, field_read}

-- ---- a table of texts, and what holds of each

-- a text, and the number of its field
pub record Row : Type 0 where
  pub number : ℕ
  pub value : String

abbrev row : ℕ → String → Row
row k s = record { number = k; value = s }

-- the relation R holds of each row
abbrev pub Every : (ℕ → List ℕ → Type 0) → List Row → Type 0
Every R [] = Unit {0}
Every R (r ∷ rs) = R r.number (text r.value) × Every R rs

abbrev pub No : (ℕ → List ℕ → Type 0) → List Row → Type 0
No R rs = Every (λ k s. R k s → ⊥) rs

-- the test p accepts each, or refuses each
abbrev every : (ℕ → List ℕ → Bool) → List Row → Bool
every p [] = true
every p (r ∷ rs) = p r.number (text r.value) && every p rs

abbrev none : (ℕ → List ℕ → Bool) → List Row → Bool
none p rs = every (λ k s. not (p k s)) rs

module _ (p : ℕ → List ℕ → Bool) (R : ℕ → List ℕ → Type 0) (read : (k : ℕ) (s : List ℕ) → (p k s ≡ true) ↔ R k s) where
  derived : (rs : List Row) → every p rs ≡ true → Every R rs
  derived [] e = tt
  derived (r ∷ rs) e = ((read r.number (text r.value)).0 (and_left _ _ e), derived rs (and_right (p r.number (text r.value)) _ e))

  refused : (k : ℕ) (s : List ℕ) → not (p k s) ≡ true → R k s → ⊥
  refused k s e d = go (p k s) e ((read k s).1 d)
    where
      go : (t : Bool) → not t ≡ true → t ≡ true → ⊥
      go true p q = never (cc)
      go false p q = never (cc)

  not_derived : (rs : List Row) → none p rs ≡ true → No R rs
  not_derived [] e = tt
  not_derived (r ∷ rs) e =
      (refused r.number (text r.value) (and_left _ _ e), not_derived rs (and_right (not (p r.number (text r.value))) _ e))

-- ---- the values of an INVITE's fields

abbrev good : List Row
good =
    row 2 "0" ∷ row 2 "255" ∷ row 2 "007"
    ∷ row 3 "<sip:+33187654321@relay.example>;tag=a1"
    ∷ row 4 "sip:a;b?c@d"
    ∷ row 4 "sip:h;x=\"a@b\""
    ∷ row 4 "sip:h:5060 ; tag = 7"
    ∷ row 4 "sip <sip:h>"
    ∷ row 4 "\"A\" <sip:h>"
    ∷ row 4 "A\tB <tel:+1;x=%2A>;x"
    ∷ row 4 "\"a\\\"<\"<sip:u%40v@h:1;lr;>;TAG=t"
    ∷ row 4 "tel:1;tag=0123456789012345678901234567890123456789012345678901234567890123"
    ∷ row 5 "9x@relay.example"
    ∷ row 6 "1 INVITE" ∷ row 6 "2147483647\t INVITE"
    ∷ row 7 "*"
    ∷ row 8 "00000"
    ∷ row 12 ""
    ∷ row 14 "100rel , timer"
    ∷ row 15 "tel:+1234567" ∷ row 15 "A <sip:+123456789012345@h;x>"
    ∷ row 15 "<sip:+33187654321@h>,<tel:+33187654321>"
    ∷ row 15 "tel:+33187654321 , sip:+4930123456@h"
    ∷ row 15 "\"Doe, J\" <sip:+33187654321@h>\t,\ttel:+4930123456"
    ∷ row 16 "none ; ID"
    ∷ []

abbrev bad : List Row
bad =
    row 2 "" ∷ row 2 "256" ∷ row 2 "0255" ∷ row 2 "1 "
    ∷ row 3 "<sip:h>" ∷ row 3 "<sip:+33187654321@relay.example;tag=a1>"
    ∷ row 4 "<sip:h>;tag=a;Tag=b"
    ∷ row 4 "<sip:h>;tag"
    ∷ row 4 "<sip:h>;tag=\"a\""
    ∷ row 4 "tel:1;tag=01234567890123456789012345678901234567890123456789012345678901234"
    ∷ row 4 "sip:h:0"
    ∷ row 4 "sip:@h"
    ∷ row 4 "sip:h;x=a@b@c"
    ∷ row 4 "sip:a@b;x?y"
    ∷ row 4 "\"a <sip:h>"
    ∷ row 4 " <sip:h>"
    ∷ row 4 "<sip:h> "
    ∷ row 4 "<sip:h>;"
    ∷ row 5 "" ∷ row 5 "a b"
    ∷ row 6 "2147483648 INVITE" ∷ row 6 "1INVITE" ∷ row 6 "1 invite" ∷ row 6 "1 INVITE "
    ∷ row 7 ""
    ∷ row 8 "100000"
    ∷ row 14 "100rel," ∷ row 14 "a;b"
    ∷ row 15 "tel:+1234567;x" ∷ row 15 "<sip:+0234567@h>" ∷ row 15 "<sip:+123456@h>" ∷ row 15 "<sip:+1234567@h>;x"
    ∷ row 15 "<sip:+33187654321@h>,<sip:+4930123456@h>"
    ∷ row 15 "tel:+33187654321,tel:+4930123456"
    ∷ row 15 "<sip:+33187654321@h>,<tel:+33187654321>,<sip:+4930123456@h>"
    ∷ row 15 ",<tel:+33187654321>" ∷ row 15 "<sip:+33187654321@h>," ∷ row 15 ","
    ∷ row 15 "<sip:+33187654321@h> <tel:+33187654321>"
    ∷ row 15 "<sip:+33187654321@h>;x,<tel:+33187654321>"
    ∷ row 15 "<sip:+33187654321@h>,<tel:+0187654321>"
    ∷ row 16 "" ∷ row 16 "id;" ∷ row 16 "id,x"
    ∷ []

readings : (every (well_formed (text "INVITE")) good ≡ true) × (none (well_formed (text "INVITE")) bad ≡ true)
unfolding text well_formed is_empty is_number is_max_forwards is_content_length is_cseq is_call_id is_to is_tagged is_from is_global person identity
    identities schemes allowed is_asserted tokens is_privacy is_require party address display bracketed uri sip tel sip_from host_port host port
    tail params stops with_param param param_rest param_value sign run all starts run_escaped quoted decimal number same same_text is_token is_blank
    is_digit is_user is_host is_parameter is_visible
readings = (refl, refl)

invite : Token (text "INVITE")
unfolding text is_token all
invite = record { some = omega arith; bytes = each_all refl }

pub value_edges : Every (Formed (text "INVITE")) good × No (Formed (text "INVITE")) bad
value_edges = (
  derived (well_formed (text "INVITE")) (Formed (text "INVITE")) (field_read (text "INVITE") invite) good readings.0,
  not_derived (well_formed (text "INVITE")) (Formed (text "INVITE")) (field_read (text "INVITE") invite) bad readings.1,
)

-- ---- Request-URI: another scheme; neither a URI nor another scheme. It has no field number, 0 stands for it

abbrev other_schemes : List Row
other_schemes = row 0 "sips:a@b" ∷ row 0 "http:x" ∷ row 0 "gw.example:5060" ∷ row 0 "sip.:x" ∷ []

abbrev malformed : List Row
malformed = row 0 "*" ∷ row 0 ":x" ∷ row 0 "a b:x" ∷ row 0 "SIP:" ∷ row 0 "tel:" ∷ row 0 "sip:h:65536" ∷ []

uri_readings : (every (λ k. other_scheme) other_schemes ≡ true) × (none (λ k. other_scheme) malformed ≡ true) × (none (λ k. is_uri) malformed ≡ true)
unfolding text other_scheme is_uri uri sip tel sip_from host_port host port tail is_empty all run starts run_escaped number same_text is_token is_user
    is_host is_parameter
uri_readings = (refl, refl, refl)

abbrev pub IsUri : List ℕ → Type 0
IsUri s = (u : UriParts) × Uri s u

pub scheme_edges : Every (λ k. OtherScheme) other_schemes × No (λ k. OtherScheme) malformed × No (λ k. IsUri) malformed
scheme_edges = (
  derived (λ k. other_scheme) (λ k. OtherScheme) (λ k. scheme_read) other_schemes uri_readings.0,
  not_derived (λ k. other_scheme) (λ k. OtherScheme) (λ k. scheme_read) malformed uri_readings.1,
  not_derived (λ k. is_uri) (λ k. IsUri) (λ k. uri_read) malformed uri_readings.2,
)

-- ---- the fields that the grammar tells by their numbers

pub not_empty_names : map name_of not_empty ≡ map text ("Via" ∷ "Contact" ∷ "Content-Type" ∷ "Route" ∷ "Reason" ∷ "Record-Route" ∷ [])
unfolding name_of find rows text
not_empty_names = refl

pub read_names : map name_of (2 ∷ 3 ∷ 4 ∷ 5 ∷ 6 ∷ 8 ∷ 14 ∷ 15 ∷ 16 ∷ [])
    ≡ map text ("Max-Forwards" ∷ "From" ∷ "To" ∷ "Call-ID" ∷ "CSeq" ∷ "Content-Length" ∷ "Require" ∷ "P-Asserted-Identity" ∷ "Privacy" ∷ [])
unfolding name_of find rows text
read_names = refl
