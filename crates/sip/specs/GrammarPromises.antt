-- The promises over the grammar, as statements; their proofs are in proofs/Grammar/. Each holds for every list of bytes (`FieldRead` and
-- `CSeqMethodRead` for every method that is a token): a value is accepted exactly if the grammar derives it, what is found in it is the
-- derivation's part, and no two derivations of a value give it different parts (of an identity: another scheme or number). These are the
-- tests that `Refusals.antt` asks of a message: `other_scheme`, `is_uri` and `is_called` of its Request-URI (reasons 7, 8 and 15), `well_formed`
-- of the canonical value of each kept field, with the method of the message, and `allowed` of the identities up to it (reason 10),
-- `cseq_method` of the first CSeq of a response (reason 6), `is_tagged` of To ("re"), `restricts` of a Privacy that is not ignored, `is_lacking`
-- of each required tag (reason 14). `NothingLifts` and `OthersChangeNothing` compare two values of Privacy; `WithheldRead` is of every message
-- that no reason but 1, 16 and 18 refuses.
use Rattle.std.specs.Prelude.{◌≡◌, true, false, cond, List, [], ◌∷◌, ◌++◌, map, ◌↔◌, ℕ}
use Rattle.std.proofs.Math.Option.{Option, some}
use Rattle.sip.specs.declared.Column.{Column}
use Rattle.sip.specs.Values.{cseq_method, uri, person, is_to, is_tagged, is_from, tag_of, schemes, numbers_in, allowed, is_asserted, tokens}
use Rattle.sip.specs.Values.{list_or, is_privacy}
use Rattle.sip.specs.Values.{restricts, is_require, required_tags, is_lacking, is_called}
use Rattle.sip.specs.Lines.{RequestLine, StatusLine, Start, request, Field, Header, canonical}
use Rattle.sip.specs.Profile.{number_of, ignored}
use Rattle.sip.specs.Refusals.{lines, read, Entry, withheld, other_scheme, is_uri, well_formed, first_cseq_method, response_column_of}
use Rattle.sip.specs.Refusals.{message_column, Passed, judgement, accepted}
use Rattle.sip.specs.Grammar.{Token, Tokens, Restricting, HoldsAny, Among, OurOptionTag, CSeq, UriParts, Uri, is_tel_uri, person_of}
use Rattle.sip.specs.Grammar.{Party, Identities, Allowed, Called, OtherScheme, Formed}

-- ---- Request-URI

-- the test for reason 7 holds exactly if the text before the first colon is a token, and neither sip nor tel in any case
abbrev pub SchemeRead : Type 0
SchemeRead = (s : List ℕ) → (other_scheme s ≡ true) ↔ OtherScheme s

-- a text is taken for a URI exactly if the grammar derives it (else, where it has no other scheme, it is reason 8)
abbrev pub UriRead : Type 0
UriRead = (s : List ℕ) → (is_uri s ≡ true) ↔ ((u : UriParts) × Uri s u)

-- a text that the grammar derives never has another scheme: reason 7 refuses no URI
abbrev pub NoOther : Type 0
NoOther = (s : List ℕ) (u : UriParts) → Uri s u → OtherScheme s → ⊥

-- no URI has two readings: user, host, port and tail, or number and tail, are fixed by its bytes
abbrev pub OneUri : Type 0
OneUri = (s : List ℕ) (u w : UriParts) → Uri s u → Uri s w → u ≡ w

-- the sip user, or the tel text after the colon, that is found in a URI is that of its derivation
abbrev pub PersonRead : Type 0
PersonRead = (s : List ℕ) (u : UriParts) → Uri s u → person (uri s) s ≡ person_of u

-- the sip user, or the tel text, is taken for a called number exactly if the grammar derives one (else, in an initial INVITE, it is reason
-- 15)
abbrev pub CalledRead : Type 0
CalledRead = (s : List ℕ) (u : UriParts) → Uri s u → (is_called (person (uri s) s) ≡ true) ↔ Called (person_of u)

-- ---- From and To

-- a value is good for To exactly if the grammar derives it
abbrev pub ToRead : Type 0
ToRead = (v : List ℕ) → (is_to v ≡ true) ↔ ((u : UriParts) × (ts : List (List ℕ)) × Party v u ts)

-- a value is good for From, with the tag t, exactly if the grammar derives it with that tag
abbrev pub FromRead : Type 0
FromRead = (v t : List ℕ) → ((is_from v ≡ true) × (tag_of v ≡ t)) ↔ ((u : UriParts) × Party v u (t ∷ []))

-- a value is found to have a tag, the test for "re", exactly if the grammar derives it with one
abbrev pub TaggedRead : Type 0
TaggedRead = (v : List ℕ) → (is_tagged v ≡ true) ↔ ((t : List ℕ) × (u : UriParts) × Party v u (t ∷ []))

-- the tags that are found are those of the derivation: none, or the one
abbrev pub TagsRead : Type 0
TagsRead = (v : List ℕ) (u : UriParts) (ts : List (List ℕ)) → Party v u ts → cond (is_tagged v) (tag_of v ∷ []) [] ≡ ts

-- no value of From or To has two readings
abbrev pub OneParty : Type 0
OneParty = (v : List ℕ) (u w : UriParts) (ts us : List (List ℕ)) → Party v u ts → Party v w us → (u ≡ w) × (ts ≡ us)

-- ---- P-Asserted-Identity, Privacy, Require

-- CR 6: a value is good for P-Asserted-Identity exactly if the grammar derives it with identities that are allowed
abbrev pub AssertedRead : Type 0
AssertedRead = (v : List ℕ) → (is_asserted v ≡ true) ↔ ((us : List UriParts) × Identities v us × Allowed us)

-- what is found in a value is what the derivation has: the scheme and the number of each identity, in their order. So no two derivations of
-- a value differ in these
pub record FoundIn (v : List ℕ) (us : List UriParts) : Type 0 where
  pub schemes_are : schemes v ≡ map is_tel_uri us
  pub numbers_are : numbers_in v ≡ map person_of us

abbrev pub IdentitiesFound : Type 0
IdentitiesFound = (v : List ℕ) (us : List UriParts) → Identities v us → FoundIn v us

-- identities are allowed by their schemes exactly if the grammar has them allowed
abbrev pub AllowedRead : Type 0
AllowedRead = (us : List UriParts) → (allowed (map is_tel_uri us) ≡ true) ↔ Allowed us

-- a value is good for Privacy, with the tokens ts, exactly if the grammar derives it with these; so it has one list of tokens
abbrev pub PrivacyRead : Type 0
PrivacyRead = (v : List ℕ) (ts : List (List ℕ)) → ((is_privacy v ≡ true) × (list_or (tokens 59 0 v) ≡ ts)) ↔ Tokens 59 v ts

-- CR 2: a value restricts exactly if the grammar derives it with tokens of which one is `header`, `user` or `id` in any letter case
abbrev pub RestrictsRead : Type 0
RestrictsRead = (v : List ℕ) → (restricts v ≡ true) ↔ ((ts : List (List ℕ)) × Tokens 59 v ts × HoldsAny Restricting ts)

-- CR 2: "`none` together with `id` is still restricted": with any further tokens, and in any order, a value that restricts still restricts
abbrev pub NothingLifts : Type 0
NothingLifts =
    (v w : List ℕ) (ts us : List (List ℕ)) → Tokens 59 v ts → Tokens 59 w us
    → ((t : List ℕ) → Among t ts → Among t us) → restricts v ≡ true → restricts w ≡ true

-- CR 2: a further token that is not one of the three, for instance `none`, changes nothing, wherever it stands
abbrev pub OthersChangeNothing : Type 0
OthersChangeNothing =
    (v w t : List ℕ) (before after : List (List ℕ)) → Tokens 59 v (before ++ after) → Tokens 59 w (before ++ (t ∷ after))
    → (Restricting t → ⊥) → restricts w ≡ restricts v

-- CR 2: "Privacy is not ignored and holds any of the three", of a field of a message with this column
pub record Withholding (column : Option Column) (f : Field) : Type 0 where
  pub a_privacy : number_of f.name ≡ 16
  pub not_ignored : ignored column 16 ≡ false
  pub priv_values : List (List ℕ)
  pub derived : Tokens 59 (canonical f.value) priv_values
  pub restricting : HoldsAny Restricting priv_values

-- a message that no reason but 1, 16 and 18 refuses is withheld exactly if one of its fields is such a Privacy
abbrev pub WithheldRead : Type 0
WithheldRead =
    (m : List ℕ) (l : Start) (h : Header) (r : Passed) → lines m ≡ read l h → judgement m ≡ accepted r
    → (withheld r.fields ≡ true) ↔ HoldsAny (Withholding (message_column l h.fields)) h.fields

-- a value is good for Require, with the tags ts, exactly if the grammar derives it with these; so it has one list of tags
abbrev pub RequireRead : Type 0
RequireRead = (v : List ℕ) (ts : List (List ℕ)) → ((is_require v ≡ true) × (required_tags v ≡ ts)) ↔ Tokens 44 v ts

-- we lack a required tag exactly if it is not one that we have
abbrev pub LackingRead : Type 0
LackingRead = (t : List ℕ) → (is_lacking t ≡ true) ↔ (OurOptionTag t → ⊥)

-- ---- every field

-- the value of any field is well formed exactly if the grammar derives it (reason 10), in a message whose method is a token
abbrev pub FieldRead : Type 0
FieldRead = (method : List ℕ) → Token method → (k : ℕ) (v : List ℕ) → (well_formed method k v ≡ true) ↔ Formed method k v

-- the method of a request is a token in every message whose lines read
abbrev pub MethodToken : Type 0
MethodToken = (m : List ℕ) (l : RequestLine) (h : Header) → lines m ≡ read (request l) h → Token l.method

-- CR 1: the method of a response is a token wherever it has a column
abbrev pub ResponseMethodToken : Type 0
ResponseMethodToken = (l : StatusLine) (es : List Entry) (c : Column) → response_column_of l es ≡ some c → Token (first_cseq_method es)

-- CR 1: a value names the method exactly if the grammar derives it as a CSeq with this method
abbrev pub CSeqMethodRead : Type 0
CSeqMethodRead = (method v : List ℕ) → Token method → (cseq_method v ≡ method) ↔ CSeq method v

-- CR 1: a value names none, and is malformed, exactly if the grammar derives it as a CSeq with no token
abbrev pub NoCSeqMethodRead : Type 0
NoCSeqMethodRead = (v : List ℕ) → (cseq_method v ≡ []) ↔ ((method : List ℕ) → Token method → CSeq method v → ⊥)
