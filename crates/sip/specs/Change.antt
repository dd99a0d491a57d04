-- Document 01, "What demand 3 compares", for requests and (CR 1) responses.
use Rattle.std.specs.Prelude.{◌≡◌, Bool, true, List, [], ◌∷◌, ◌++◌, ℕ, ◌≤◌, ◌<◌, length}
use Rattle.std.proofs.Math.Option.{some}
use Rattle.octets.specs.Classes.{is_token, is_digit, is_blank, is_value, is_visible}
use Rattle.octets.specs.Scans.{all}
use Rattle.sip.specs.Lines.{RequestLine, StatusLine, Start, request, response, is_version, is_version_first, start_bytes, value_size, Field}
use Rattle.sip.specs.Lines.{crlf, bytes}
use Rattle.sip.specs.Profile.{number_of, ignored}
use Rattle.sip.specs.Refusals.{message_column}

-- "Lines are well shaped where the start line, every field and the empty line are as under Lines."

pub record RequestShaped (l : RequestLine) (version : List ℕ) : Type 0 where
  pub method_long : 0 < length l.method
  pub method_short : length l.method ≤ 32
  pub method_token : all is_token l.method ≡ true
  pub uri_long : 0 < length l.uri
  pub uri_short : length l.uri ≤ 256
  pub uri_visible : all is_visible l.uri ≡ true
  pub version_written : is_version version ≡ true

pub record StatusShaped (l : StatusLine) (version : List ℕ) : Type 0 where
  pub version_written : is_version_first version ≡ true
  pub code_long : length l.code ≡ 3
  pub code_digits : all is_digit l.code ≡ true
  pub phrase_values : all is_value l.phrase ≡ true

abbrev pub StartShaped : Start → List ℕ → Type 0
StartShaped (request l) version = RequestShaped l version
StartShaped (response l) version = StatusShaped l version

pub record WellShaped (f : Field) : Type 0 where
  pub name_long : 0 < length f.name
  pub name_token : all is_token f.name ≡ true
  pub gap_blank : all is_blank f.gap ≡ true
  pub value_ends : value_size 0 (f.value ++ crlf) ≡ some (length f.value)

pub data AllShaped : List Field → Type 0 where
  none_left : AllShaped []
  one_more : {f : Field} {fs : List Field} → WellShaped f → AllShaped fs → AllShaped (f ∷ fs)

-- whole fields in their order, the empty line, and all bytes after it
abbrev pub header_bytes : List Field → List ℕ → List ℕ
header_bytes [] rest = crlf ++ rest
header_bytes (f ∷ fs) rest = bytes f ++ header_bytes fs rest

-- gs is fs with ignored well-shaped fields added anywhere and listed names written in another form or case; "Each original field keeps
-- every byte after its name." Any number of each together, none included
pub data Varied (is_ignored : ℕ → Bool) : List Field → List Field → Type 0 where
  no_fields : Varied is_ignored [] []
  unchanged : {f : Field} {fs gs : List Field} → Varied is_ignored fs gs → Varied is_ignored (f ∷ fs) (f ∷ gs)
  added :
      {f : Field} {fs gs : List Field} → WellShaped f → is_ignored (number_of f.name) ≡ true → Varied is_ignored fs gs
      → Varied is_ignored fs (f ∷ gs)
  renamed :
      {f : Field} {n : List ℕ} {fs gs : List Field} → 0 < number_of f.name → number_of n ≡ number_of f.name
      → Varied is_ignored fs gs → Varied is_ignored (f ∷ fs) (record { name = n; gap = f.gap; value = f.value } ∷ gs)

-- The ignored fields are those of the message's column. Where a response has a status for reason 17 it is still the column that its first
-- CSeq names; where that names none, as where a request's method has no column, names not listed are ignored.
-- "The changed message is the original's start line, its whole fields in their order with the added ones anywhere among them, then the
-- original's empty line and all bytes after it." m is the original, m' the changed message
pub record Changed (m m' : List ℕ) : Type 0 where
  pub line : Start
  pub version : List ℕ
  pub fields : List Field
  pub fields' : List Field
  pub rest : List ℕ
  pub start_shaped : StartShaped line version
  pub all_shaped : AllShaped fields
  pub varied : Varied (ignored (message_column line fields)) fields fields'
  pub original : m ≡ start_bytes line version ++ header_bytes fields rest
  pub changed : m' ≡ start_bytes line version ++ header_bytes fields' rest
  pub within_bytes : length m ≤ 8192
  pub within_bytes' : length m' ≤ 8192
  pub within_fields : length fields ≤ 96
  pub within_fields' : length fields' ≤ 96
