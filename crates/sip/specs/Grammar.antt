-- Document 01, "Values that are read", as a grammar: what a value is made of, in the page's words and RFC 3261's names. "These speak of
-- canonical values." A value is put together from its parts by `++`, and no rule looks ahead: a part ends where its own definition lets it
-- end. A relation speaks of a text; a list or `UriParts` after the text is what is found in it; a word, separator, method or field number
-- before it is given. The readers of `Values.antt` find exactly this: `GrammarPromises.antt` says so.
use Rattle.std.specs.Prelude.{◌≡◌, Bool, true, false, List, [], ◌∷◌, ◌++◌, ℕ, ◌+◌, ◌≤◌, ◌<◌, length}
use Rattle.octets.specs.Classes.{text, among, is_token, is_blank, is_digit, is_hex, is_user, is_parameter, is_host, is_visible}
use Rattle.octets.specs.Scans.{decimal}

-- Bytes are written by their numbers: 34 is `"`, 37 `%`, 43 `+`, 44 `,`, 58 `:`, 59 `;`, 60 `<`, 61 `=`, 62 `>`, 64 `@`, 92 a backslash;
-- 49 to 57 are the digits 1 to 9, 65 to 90 the capitals, which stand 32 before their small letters.
-- `decimal 0 d` is the number that the digits d write.

-- ---- bytes

-- each byte is of the class
pub data Each (p : ℕ → Bool) : List ℕ → Type 0 where
  each_end : Each p []
  each_byte : {b : ℕ} {s : List ℕ} → p b ≡ true → Each p s → Each p (b ∷ s)

-- as in "1 to 64 bytes", "1 to 15 digits": lo to hi of them
pub record Long (lo hi : ℕ) (s : List ℕ) : Type 0 where
  pub least : lo ≤ length s
  pub most : length s ≤ hi

-- the word "in any case": it is given in small letters, and the text has each of them as it is or as a capital
pub data AnyCase : List ℕ → List ℕ → Type 0 where
  case_end : AnyCase [] []
  as_it_is : {b : ℕ} {word s : List ℕ} → AnyCase word s → AnyCase (b ∷ word) (b ∷ s)
  as_capital : {b : ℕ} {word s : List ℕ} → 65 ≤ b → b ≤ 90 → AnyCase word s → AnyCase ((b + 32) ∷ word) (b ∷ s)

-- bytes of the class, "or `%` and two hex digits", any number of them
pub data BytesOrEscapes (p : ℕ → Bool) : List ℕ → Type 0 where
  no_bytes : BytesOrEscapes p []
  one_byte : {b : ℕ} {s : List ℕ} → p b ≡ true → BytesOrEscapes p s → BytesOrEscapes p (b ∷ s)
  one_escape : {h l : ℕ} {s : List ℕ} → is_hex h ≡ true → is_hex l ≡ true → BytesOrEscapes p s → BytesOrEscapes p (37 ∷ h ∷ l ∷ s)

-- RFC 3261's token: one or more token bytes
pub record Token (s : List ℕ) : Type 0 where
  pub some : 1 ≤ length s
  pub bytes : Each is_token s

-- "A quoted string closes at the first `"` that no backslash escapes.": what stands after its first `"`. A backslash escapes the one byte
-- after it, another backslash too. The page sets no other limit to the bytes, so this is wider than RFC 3261's qdtext and quoted-pair
pub data QuotedRest : List ℕ → Type 0 where
  close_quote : QuotedRest (34 ∷ [])
  qdtext : {b : ℕ} {s : List ℕ} → (b ≡ 34 → ⊥) → (b ≡ 92 → ⊥) → QuotedRest s → QuotedRest (b ∷ s)
  quoted_pair : {b : ℕ} {s : List ℕ} → QuotedRest s → QuotedRest (92 ∷ b ∷ s)

pub data QuotedString : List ℕ → Type 0 where
  quoted_string : {s : List ℕ} → QuotedRest s → QuotedString (34 ∷ s)

-- the byte b with "spaces or tabs free around it" (Privacy), "around them" (Require), "around `;` and `=`" (parameters): RFC 3261's SEMI,
-- COMMA and EQUAL
pub data Separator (b : ℕ) : List ℕ → Type 0 where
  blanks_around : {x y : List ℕ} → Each is_blank x → Each is_blank y → Separator b (x ++ (b ∷ y))

-- ---- "Max-Forwards: 1 to 3 digits, at most 255. Content-Length: 1 to 5 digits."

pub record MaxForwards (v : List ℕ) : Type 0 where
  pub digits : Each is_digit v
  pub long : Long 1 3 v
  pub bound : decimal 0 v ≤ 255

pub record ContentLength (v : List ℕ) : Type 0 where
  pub digits : Each is_digit v
  pub long : Long 1 5 v

-- ---- "CSeq: 1 to 10 digits, below 2,147,483,648, then one or more spaces or tabs, then the method of the start line." CR 1,
-- of a response: "The method is the token that ends the CSeq value."

pub data CSeq (method : List ℕ) : List ℕ → Type 0 where
  cseq_of :
      {d b : List ℕ} → Each is_digit d → Long 1 10 d → decimal 0 d < 2147483648 → Each is_blank b → 1 ≤ length b
      → CSeq method (d ++ (b ++ method))

-- ---- "Call-ID: 1 to 128 bytes, each 33 to 126."

pub record CallId (v : List ℕ) : Type 0 where
  pub long : Long 1 128 v
  pub bytes : Each is_visible v

-- ---- URI

-- "optionally user (1 to 64 bytes) and `@`"; "User bytes are RFC 3261's unreserved and user-unreserved, or `%` and two hex digits.": the
-- text, and the user. An escape counts as its three bytes
pub data Userinfo : List ℕ → List ℕ → Type 0 where
  no_user : Userinfo [] []
  user_at : {u : List ℕ} → BytesOrEscapes is_user u → Long 1 64 u → Userinfo (u ++ (64 ∷ [])) u

-- "host (1 to 253 letters, digits, `-`, `.`)"
pub record Host (s : List ℕ) : Type 0 where
  pub bytes : Each is_host s
  pub long : Long 1 253 s

-- "optionally `:` and a port of 1 to 5 digits, 1 to 65,535": the text, and the port's digits
pub data Port : List ℕ → List ℕ → Type 0 where
  no_port : Port [] []
  port_of : {d : List ℕ} → Each is_digit d → Long 1 5 d → 1 ≤ decimal 0 d → decimal 0 d ≤ 65535 → Port (58 ∷ d) d

-- "optionally a tail"; "A tail is `;` and any number of parameter bytes: RFC 3261's paramchar set, `;`, `=`, or `%` and two hex digits."
pub data Tail : List ℕ → Type 0 where
  no_tail : Tail []
  tail_of : {s : List ℕ} → BytesOrEscapes is_parameter s → Tail (59 ∷ s)

-- "optional `+`, 1 to 15 digits"
pub data TelNumber : List ℕ → Type 0 where
  digits_alone : {d : List ℕ} → Each is_digit d → Long 1 15 d → TelNumber d
  plus_digits : {d : List ℕ} → Each is_digit d → Long 1 15 d → TelNumber (43 ∷ d)

-- what a URI is made of; a part that is left out is empty
pub data UriParts : Type 0 where
  sip_parts : (user host port tail : List ℕ) → UriParts
  tel_parts : (number tail : List ℕ) → UriParts

-- "URI: `sip:` or `tel:` in any case. sip: optionally user .. and `@`; host ..; optionally `:` and a port ..; optionally a tail. tel:
-- optional `+`, 1 to 15 digits, optionally a tail.": the text, and its parts
pub data Uri : List ℕ → UriParts → Type 0 where
  sip_uri :
      {k a u h q d t : List ℕ} → AnyCase (text "sip:") k → Userinfo a u → Host h → Port q d → Tail t
      → Uri (k ++ (a ++ (h ++ (q ++ t)))) (sip_parts u h d t)
  tel_uri : {k n t : List ℕ} → AnyCase (text "tel:") k → TelNumber n → Tail t → Uri (k ++ (n ++ t)) (tel_parts n t)

-- the tail, empty where there is none
abbrev pub tail_text : UriParts → List ℕ
tail_text (sip_parts u h d t) = t
tail_text (tel_parts n t) = t

-- its scheme is tel, and not sip
abbrev pub is_tel_uri : UriParts → Bool
is_tel_uri (sip_parts u h d t) = false
is_tel_uri (tel_parts n t) = true

-- "The sip user, or all of a tel URI after its colon"; of the called number "the sip user, or the tel text after its colon". Empty for a sip
-- URI without a user
abbrev pub person_of : UriParts → List ℕ
person_of (sip_parts u h d t) = u
person_of (tel_parts n t) = n ++ t

-- ---- "Address (From, To): either an optional display name .., `<`, URI, `>`; or a bare URI without a tail."

-- "tokens with spaces or tabs between"
pub data Words : List ℕ → Type 0 where
  last_word : {t : List ℕ} → Token t → Words t
  word_and : {t b s : List ℕ} → Token t → Each is_blank b → 1 ≤ length b → Words s → Words (t ++ (b ++ s))

-- "an optional display name (a quoted string, or tokens with spaces or tabs between, then any spaces or tabs)"
pub data DisplayName : List ℕ → Type 0 where
  no_name : DisplayName []
  quoted_name : {q b : List ℕ} → QuotedString q → Each is_blank b → DisplayName (q ++ b)
  words_name : {w b : List ℕ} → Words w → Each is_blank b → DisplayName (w ++ b)

-- RFC 3261's name-addr, or a bare addr-spec: the text, and the parts of its URI
pub data Address : List ℕ → UriParts → Type 0 where
  name_addr : {d s : List ℕ} {u : UriParts} → DisplayName d → Uri s u → Address (d ++ (60 ∷ (s ++ (62 ∷ [])))) u
  addr_spec : {s : List ℕ} {u : UriParts} → Uri s u → tail_text u ≡ [] → Address s u

-- ---- "Then any number of parameters: `;`, token, optionally `=` and a token or quoted string, with spaces or tabs free around `;` and
-- `=`. .. `tag` (any case) stands at most once, its value a token of 1 to 64 bytes. From needs it."

-- "a token or quoted string"
pub data GenValue : List ℕ → Type 0 where
  token_value : {v : List ℕ} → Token v → GenValue v
  string_value : {v : List ℕ} → QuotedString v → GenValue v

-- the name of a parameter that is not `tag`
pub record OtherName (n : List ℕ) : Type 0 where
  pub token : Token n
  pub other : AnyCase (text "tag") n → ⊥

-- one parameter: its text, and the tags that it states
pub data Param : List ℕ → List (List ℕ) → Type 0 where
  name_alone : {c n : List ℕ} → Separator 59 c → OtherName n → Param (c ++ n) []
  name_value : {c n e v : List ℕ} → Separator 59 c → OtherName n → Separator 61 e → GenValue v → Param (c ++ (n ++ (e ++ v))) []
  tag_value :
      {c n e v : List ℕ} → Separator 59 c → AnyCase (text "tag") n → Separator 61 e → Token v → Long 1 64 v
      → Param (c ++ (n ++ (e ++ v))) (v ∷ [])

-- "any number of parameters": the text, and all the tags in it
pub data Params : List ℕ → List (List ℕ) → Type 0 where
  no_params : Params [] []
  param_and : {p s : List ℕ} {t ts : List (List ℕ)} → Param p t → Params s ts → Params (p ++ s) (t ++ ts)

-- From or To: the value, the parts of its URI, and its tags, of which there is at most one. That From needs one stands in
-- `from_value`
pub data Party : List ℕ → UriParts → List (List ℕ) → Type 0 where
  party_of : {a p : List ℕ} {u : UriParts} {ts : List (List ℕ)} → Address a u → Params p ts → length ts ≤ 1 → Party (a ++ p) u ts

-- ---- "P-Asserted-Identity: an address without parameters after it. The sip user, or all of a tel URI after its colon, is `+`, a digit
-- 1 to 9, then 6 to 14 digits."

pub data GlobalNumber : List ℕ → Type 0 where
  global_number : {d : ℕ} {ds : List ℕ} → 49 ≤ d → d ≤ 57 → Each is_digit ds → Long 6 14 ds → GlobalNumber (43 ∷ d ∷ ds)

-- the text, and the parts of its URI
pub data Identity : List ℕ → UriParts → Type 0 where
  identity_of : {s : List ℕ} {u : UriParts} → Address s u → GlobalNumber (person_of u) → Identity s u

-- ---- CR 6: "Allow one or two, in one field parted by a comma (spaces or tabs free around it) or in two fields: if two, one sip and one tel,
-- each of the old form."

-- in one field: the value, and the URIs of its identities
pub data Identities : List ℕ → List UriParts → Type 0 where
  one_identity : {s : List ℕ} {u : UriParts} → Identity s u → Identities s (u ∷ [])
  two_identities :
      {s c t : List ℕ} {u w : UriParts} → Identity s u → Separator 44 c → Identity t w → Identities (s ++ (c ++ t)) (u ∷ w ∷ [])

-- "if two, one sip and one tel": of the identities of one field, or of all fields of a message, in their order. None are allowed too: an INVITE
-- whose To has a tag may lack the field, and to an initial one without it reason 12 applies
pub data Allowed : List UriParts → Type 0 where
  none_asserted : Allowed []
  one_asserted : (u : UriParts) → Allowed (u ∷ [])
  sip_and_tel : (user host port tail number t : List ℕ) → Allowed (sip_parts user host port tail ∷ tel_parts number t ∷ [])
  tel_and_sip : (number t user host port tail : List ℕ) → Allowed (tel_parts number t ∷ sip_parts user host port tail ∷ [])

-- ---- "Privacy: one or more tokens parted by `;`, spaces or tabs free around it."; "Require: one or more tokens parted by commas, spaces
-- or tabs free around them."

-- parted by the byte b: the text, and the tokens
pub data Tokens (b : ℕ) : List ℕ → List (List ℕ) → Type 0 where
  last_token : {t : List ℕ} → Token t → Tokens b t (t ∷ [])
  token_and : {t c s : List ℕ} {ts : List (List ℕ)} → Token t → Separator b c → Tokens b s ts → Tokens b (t ++ (c ++ s)) (t ∷ ts)

-- CR 2: "restricts on `header`, `user` and `id`", "letter case free"
pub data Restricting : List ℕ → Type 0 where
  by_header : {t : List ℕ} → AnyCase (text "header") t → Restricting t
  by_user : {t : List ℕ} → AnyCase (text "user") t → Restricting t
  by_id : {t : List ℕ} → AnyCase (text "id") t → Restricting t

-- some element of a list has the property P, as in "holds any of the three"
pub data HoldsAny {A : Type 0} (P : A → Type 0) : List A → Type 0 where
  here : {x : A} {xs : List A} → P x → HoldsAny P (x ∷ xs)
  later : {x : A} {xs : List A} → HoldsAny P xs → HoldsAny P (x ∷ xs)

-- the token is one of these
abbrev pub Among : List ℕ → List (List ℕ) → Type 0
Among t ts = HoldsAny (λ (s : List ℕ). t ≡ s) ts

-- "We have `100rel` and `timer` (any case)."
pub data OurOptionTag : List ℕ → Type 0 where
  our_100rel : {t : List ℕ} → AnyCase (text "100rel") t → OurOptionTag t
  our_timer : {t : List ℕ} → AnyCase (text "timer") t → OurOptionTag t

-- ---- "Called number (initial INVITE only): the sip user, or the tel text after its colon, is a number alone or a number, `;` and any
-- bytes or none. A number has the form of P-Asserted-Identity's, or is 2 to 6 digits."

pub data Number : List ℕ → Type 0 where
  long_number : {n : List ℕ} → GlobalNumber n → Number n
  short_number : {n : List ℕ} → Each is_digit n → Long 2 6 n → Number n

pub data Called : List ℕ → Type 0 where
  number_alone : {n : List ℕ} → Number n → Called n
  number_and : {n : List ℕ} → Number n → (r : List ℕ) → Called (n ++ (59 ∷ r))

-- ---- reason 7: "Request-URI scheme (all before the first colon) is a token but neither sip nor tel in any case"

-- the text, and all before its first colon. A text without a colon has no scheme: one that is no URI either is "Request-URI otherwise
-- malformed" (reason 8)
pub data Scheme : List ℕ → List ℕ → Type 0 where
  at_colon : (r : List ℕ) → Scheme (58 ∷ r) []
  before_colon : {b : ℕ} {s k : List ℕ} → (b ≡ 58 → ⊥) → Scheme s k → Scheme (b ∷ s) (b ∷ k)

pub data OtherScheme : List ℕ → Type 0 where
  of_other_scheme :
      {s k : List ℕ} → Scheme s k → Token k → (AnyCase (text "sip") k → ⊥) → (AnyCase (text "tel") k → ⊥) → OtherScheme s

-- ---- reason 10: the value v of the field with the number k is well formed, in a message with this method

-- "Not empty: Via, Contact, Content-Type, Route, Reason, Record-Route."
abbrev pub not_empty : List ℕ
not_empty = 1 ∷ 7 ∷ 9 ∷ 10 ∷ 11 ∷ 18 ∷ []

-- the fields whose value can be malformed. Of Allow (12), Supported (13) and Accept (17) any value is good: "Supported, Accept and Allow
-- may be empty."
abbrev pub read_fields : List ℕ
read_fields = not_empty ++ (2 ∷ 3 ∷ 4 ∷ 5 ∷ 6 ∷ 8 ∷ 14 ∷ 15 ∷ 16 ∷ [])

pub data Formed (method : List ℕ) : ℕ → List ℕ → Type 0 where
  some_value : {k : ℕ} {v : List ℕ} → among not_empty k ≡ true → 1 ≤ length v → Formed method k v
  max_forwards_value : {v : List ℕ} → MaxForwards v → Formed method 2 v
  from_value : {v t : List ℕ} {u : UriParts} → Party v u (t ∷ []) → Formed method 3 v
  to_value : {v : List ℕ} {u : UriParts} {ts : List (List ℕ)} → Party v u ts → Formed method 4 v
  call_id_value : {v : List ℕ} → CallId v → Formed method 5 v
  cseq_value : {v : List ℕ} → CSeq method v → Formed method 6 v
  content_length_value : {v : List ℕ} → ContentLength v → Formed method 8 v
  require_value : {v : List ℕ} {ts : List (List ℕ)} → Tokens 44 v ts → Formed method 14 v
  identity_value : {v : List ℕ} {us : List UriParts} → Identities v us → Allowed us → Formed method 15 v
  privacy_value : {v : List ℕ} {ts : List (List ℕ)} → Tokens 59 v ts → Formed method 16 v
  any_value : {k : ℕ} → among read_fields k ≡ false → (v : List ℕ) → Formed method k v
