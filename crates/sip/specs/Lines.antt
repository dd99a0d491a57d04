-- Document 01, "Lines", and the status line of CR 1.
use Rattle.std.specs.Prelude.{Bool, false, not, cond, ◌&&◌, List, [], ◌∷◌, ◌++◌, ℕ, zero, suc, ◌+◌, ◌-◌, eqb, ltb, length, take, drop}
use Rattle.std.proofs.Math.Option.{Option, none, some}
use Rattle.octets.specs.Classes.{text, within, is_token, is_digit, is_blank, is_break, is_gap, is_value, is_visible}
use Rattle.octets.specs.Scans.{run, any, starts, same_text}

abbrev pub crlf : List ℕ
crlf = 13 ∷ 10 ∷ []

-- ---- "Start line: method (token, 1 to 32 bytes), one space, Request-URI (1 to 256 bytes, each 33 to 126), one space, `Sip/2.0`
-- (letters in either case, written in capitals), CRLF."

pub record RequestLine : Type 0 where
  pub method : List ℕ
  pub uri : List ℕ

-- one space, `Sip/2.0` in either case, CRLF
unfoldable pub is_version : List ℕ → Bool
is_version s = same_text (text " SIP/2.0\r\n") s

-- the request line at the front of a message; none where its shape is bad
unfoldable pub request_line : List ℕ → Option RequestLine
request_line s =
    let m = run is_token s in
    let u = run is_visible (drop (m + 1) s) in
    let found : Option RequestLine = some (record { method = take m s; uri = take u (drop (m + 1) s) }) in
    cond (within 1 32 m && (starts 32 (drop m s) && (within 1 256 u && is_version (take 10 (drop (m + 1 + u) s))))) found none

-- ---- CR 1: "`Sip/2.0` as before, a space, three digits, a space, a phrase of value bytes (maybe none), CRLF."

-- RFC 3261's Status-Code and Reason-Phrase
pub record StatusLine : Type 0 where
  pub code : List ℕ
  pub phrase : List ℕ

-- `Sip/2.0` in either case, and a space
unfoldable pub is_version_first : List ℕ → Bool
is_version_first s = same_text (text "SIP/2.0 ") s

-- a CRLF stands at the front
unfoldable pub starts_crlf : List ℕ → Bool
starts_crlf [] = false
starts_crlf (a ∷ []) = false
starts_crlf (a ∷ b ∷ s) = eqb a 13 && eqb b 10

-- the status line at the front of a message; none where its shape is bad
unfoldable pub status_line : List ℕ → Option StatusLine
status_line s =
    let c = run is_digit (drop 8 s) in
    let p = run is_value (drop 12 s) in
    let found : Option StatusLine = some (record { code = take 3 (drop 8 s); phrase = take p (drop 12 s) }) in
    cond (is_version_first (take 8 s) && (eqb c 3 && (starts 32 (drop 11 s) && starts_crlf (drop (12 + p) s)))) found none

-- ---- the start line of a request or of a response

pub data Start : Type 0 where
  request : RequestLine → Start
  response : StatusLine → Start

abbrev pub start_of : Option RequestLine → Option StatusLine → Option Start
start_of (some l) a = some (request l)
start_of none (some a) = some (response a)
start_of none none = none

-- the start line at the front of a message; none where its shape is bad. No text is both: a method holds no `/`
unfoldable pub start : List ℕ → Option Start
start s = start_of (request_line s) (status_line s)

-- the bytes of a start line. `version` are the ten bytes, a space, `Sip/2.0` and CRLF, that end a request line, or the eight bytes,
-- `Sip/2.0` and a space, that begin a status line, in the letters that they have
abbrev pub start_bytes : Start → List ℕ → List ℕ
start_bytes (request l) version = l.method ++ 32 ∷ (l.uri ++ version)
start_bytes (response l) version = version ++ (l.code ++ 32 ∷ (l.phrase ++ crlf))

-- how many they are
abbrev pub start_size : Start → ℕ
start_size (request l) = length l.method + 1 + length l.uri + 10
start_size (response l) = 8 + length l.code + 1 + length l.phrase + 2

-- ---- "Field: name (token), any spaces or tabs, colon, value, CRLF."

-- a space or tab stands at the front
unfoldable pub starts_blank : List ℕ → Bool
starts_blank [] = false
starts_blank (b ∷ s) = is_blank b

-- a size with one byte more, where there is one
abbrev pub one_longer : Option ℕ → Option ℕ
one_longer none = none
one_longer (some n) = some (suc n)

-- How many bytes the value at the front has, up to the CRLF that ends it; none where its shape is bad. "A CRLF followed by space or tab
-- continues the value. Value bytes are tab, 32 to 126 and 128 to 255. A lone CR or LF is bad shape". The first k bytes belong to a
-- CRLF and its blank that began before them.
unfoldable pub value_size : ℕ → List ℕ → Option ℕ
value_size k [] = none
value_size (suc k) (b ∷ s) = one_longer (value_size k s)
value_size zero (b ∷ s) =
    let continued = one_longer (value_size 2 s) in
    let next = one_longer (value_size zero s) in
    cond (starts_crlf (b ∷ s)) (cond (starts_blank (drop 2 (b ∷ s))) continued (some zero)) (cond (is_value b) next none)

-- the parts of a field as lengths: its name, the spaces or tabs before the colon, and the value without its last CRLF
pub record Shape : Type 0 where
  pub name : ℕ
  pub gap : ℕ
  pub value : ℕ

abbrev pub shape_of : ℕ → ℕ → Option ℕ → Option Shape
shape_of n g none = none
shape_of n g (some v) = some (record { name = n; gap = g; value = v })

-- the field at the front; none where its shape is bad
unfoldable pub shape : List ℕ → Option Shape
shape s =
    let n = run is_token s in
    let g = run is_blank (drop n s) in
    let found = shape_of n g (value_size zero (drop (n + g + 1) s)) in
    cond (not (eqb n 0) && starts 58 (drop (n + g) s)) found none

-- "A whole field runs from its name's first byte to past its last CRLF": its name, gap, colon, value and CRLF
abbrev pub size : Shape → ℕ
size f = f.name + f.gap + 1 + f.value + 2

-- a field as texts
pub record Field : Type 0 where
  pub name : List ℕ
  pub gap : List ℕ
  pub value : List ℕ

-- the whole field
abbrev pub bytes : Field → List ℕ
bytes f = f.name ++ (f.gap ++ 58 ∷ (f.value ++ crlf))

-- the field of this shape at the front
abbrev pub field_of : Shape → List ℕ → Field
field_of f s =
    record {
      name = take f.name s;
      gap = take f.gap (drop f.name s);
      value = take f.value (drop (f.name + f.gap + 1) s);
    }

-- ---- "An empty line ends the fields, of which there may be none."

-- the fields, and all bytes after the empty line
pub record Header : Type 0 where
  pub fields : List Field
  pub rest : List ℕ

abbrev pub with_field : Field → Option Header → Option Header
with_field f none = none
with_field f (some h) = some (record { fields = f ∷ h.fields; rest = h.rest })

-- the fields at the front up to the empty line; none where a field's shape is bad or there is no empty line. The first k bytes belong
-- to a field that was read before them
unfoldable pub header : ℕ → List ℕ → Option Header
header k [] = none
header (suc k) (b ∷ s) = header k s
header zero (b ∷ s) =
    let done : Option Header = some (record { fields = []; rest = drop 2 (b ∷ s) }) in
    let next : Option Header = elim (shape (b ∷ s)) [ none ↦ none | some f ↦ with_field (field_of f (b ∷ s)) (header (size f - 1) s) ] in
    cond (starts_crlf (b ∷ s)) done next

-- ---- "Canonical value: each maximal run of spaces, tabs and CRLFs that holds a CRLF becomes one space; then spaces and tabs go from
-- both ends." In a value a CR or LF stands only in a CRLF.

-- one maximal run
unfoldable pub joined : List ℕ → List ℕ
joined g = cond (any is_break g) (32 ∷ []) g

-- every maximal run; the first k bytes belong to a run that was joined before them
unfoldable pub folded : ℕ → List ℕ → List ℕ
folded k [] = []
folded (suc k) (b ∷ s) = folded k s
folded zero (b ∷ s) =
    let g = run is_gap (b ∷ s) in
    let gap = joined (take g (b ∷ s)) ++ folded (g - 1) s in
    let other = b ∷ folded zero s in
    cond (is_gap b) gap other

-- where the k-th byte, from 0, of the value so folded stands in the value; the first n bytes belong to a run that was joined before them
unfoldable pub unfolded_at : ℕ → ℕ → List ℕ → ℕ
unfolded_at k n [] = 0
unfolded_at k (suc n) (b ∷ s) = suc (unfolded_at k n s)
unfolded_at k zero (b ∷ s) =
    let g = run is_gap (b ∷ s) in
    let j = length (joined (take g (b ∷ s))) in
    let gap = suc (unfolded_at (k - j) (g - 1) s) in
    let other = suc (unfolded_at (k - 1) zero s) in
    cond (is_gap b) (cond (ltb k j) k gap) (cond (eqb k 0) 0 other)

abbrev pub unless_last : (ℕ → Bool) → ℕ → List ℕ → List ℕ
unless_last p b [] = cond (p b) [] (b ∷ [])
unless_last p b (c ∷ s) = b ∷ c ∷ s

-- without the bytes of the class at the end
unfoldable pub trim_end : (ℕ → Bool) → List ℕ → List ℕ
trim_end p [] = []
trim_end p (b ∷ s) = unless_last p b (trim_end p s)

-- without the bytes of the class at both ends
unfoldable pub trim : (ℕ → Bool) → List ℕ → List ℕ
trim p s = trim_end p (drop (run p s) s)

unfoldable pub canonical : List ℕ → List ℕ
canonical v = trim is_blank (folded zero v)
