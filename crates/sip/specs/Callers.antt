-- CR 5, "The digits cannot show": two INVITEs that differ in their caller alone. `DigitsHidden` says that on side 1 they have one answer and one
-- outgoing message: where no such value is malformed, nothing there depends on the values of P-Asserted-Identity, or on From but for its tag.
-- What the other fields, the tag and the body say is not hidden, whatever digits stand in them.
use Rattle.std.specs.Prelude.{◌≡◌, List, [], ◌∷◌, ◌++◌, ℕ, ◌≤◌, length}
use Rattle.octets.specs.Classes.{text}
use Rattle.sip.specs.Lines.{RequestLine, request, start_bytes, Field, canonical}
use Rattle.sip.specs.Profile.{number_of}
use Rattle.sip.specs.Refusals.{message_column}
use Rattle.sip.specs.Change.{RequestShaped, AllShaped, header_bytes}
use Rattle.sip.specs.Grammar.{UriParts, Party, HoldsAny}
use Rattle.sip.specs.GrammarPromises.{Withholding}
use Rattle.sip.specs.Asserted.{IdentitiesAllowed}

-- the field with another value; its name and the blanks before the colon stay
abbrev pub with_value : Field → List ℕ → Field
with_value f v = record { name = f.name; gap = f.gap; value = v }

-- The fields of the two messages, one to one and in order: "equal except for the values of P-Asserted-Identity and the part of From outside
-- its tag parameter"; "these two values are well formed with the same tag". From has the number 3, P-Asserted-Identity the number 15. Of
-- From's two values the tag t alone has to be the same; the URIs u and u' may be any. So display names, URIs, other parameters, line breaks
-- and outer blanks are free, and so is how the tag is written: `tag` in any letter case, blanks around its `;` and `=`, its place among the
-- parameters. CR 6 of P-Asserted-Identity: "over all P-Asserted-Identity fields, with their number and places equal and the identities
-- allowed here in both messages". Where any such value differs, `BothAllowed` is asked for; in `TwoCallers` it says that all of them are
-- derived, and allowed together, in each of the messages. So the two may have other identities, and more or fewer of them in a field. Where
-- both have the same bytes only the shape is asked: an equal From, or P-Asserted-Identity fields that are all equal, may be malformed
pub data OtherCaller (BothAllowed : Type 0) : List Field → List Field → Type 0 where
  no_fields : OtherCaller BothAllowed [] []
  equal : {f : Field} {fs gs : List Field} → OtherCaller BothAllowed fs gs → OtherCaller BothAllowed (f ∷ fs) (f ∷ gs)
  other_from :
      {f : Field} {v t : List ℕ} {u u' : UriParts} {fs gs : List Field} → number_of f.name ≡ 3 → Party (canonical f.value) u (t ∷ [])
      → Party (canonical v) u' (t ∷ []) → OtherCaller BothAllowed fs gs → OtherCaller BothAllowed (f ∷ fs) (with_value f v ∷ gs)
  other_identity :
      {f : Field} {v : List ℕ} {fs gs : List Field} → number_of f.name ≡ 15 → BothAllowed → OtherCaller BothAllowed fs gs
      → OtherCaller BothAllowed (f ∷ fs) (with_value f v ∷ gs)

-- "Take two INVITEs .. both withheld, equal except for" these; "Both messages keep to 8,192 bytes and well-shaped fields". Each is the same
-- start line, its fields, the empty line, and the same bytes after it. (Where the start line has a bad shape, or no empty line ends the
-- fields, both are refused alike, with 3 or 4.) They are withheld where any field of the first is a Privacy that is not ignored and holds
-- any of the three (CR 2); it is equal in both. How many fields they have is not asked: over 96, both are refused with 5
pub record TwoCallers (m m' : List ℕ) : Type 0 where
  pub line : RequestLine
  pub version : List ℕ
  pub fields : List Field
  pub fields' : List Field
  pub rest : List ℕ
  pub an_invite : line.method ≡ text "INVITE"
  pub start_shaped : RequestShaped line version
  pub all_shaped : AllShaped fields
  pub all_shaped' : AllShaped fields'
  pub other_caller : OtherCaller (IdentitiesAllowed fields × IdentitiesAllowed fields') fields fields'
  pub first : m ≡ start_bytes (request line) version ++ header_bytes fields rest
  pub second : m' ≡ start_bytes (request line) version ++ header_bytes fields' rest
  pub within_bytes : length m ≤ 8192
  pub within_bytes' : length m' ≤ 8192
  pub is_withheld : HoldsAny (Withholding (message_column (request line) fields)) fields
