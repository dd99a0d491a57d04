-- Document 01, "Values that are read". "These speak of canonical values." A reader looks at the front of a text and says how many bytes
-- it read there, its size, and what it found; the size is 0 where what it looks for does not stand there.
use Rattle.std.specs.Prelude.{Bool, true, false, not, cond, ◌&&◌, ◌||◌, List, [], ◌∷◌, map, ℕ, zero, suc, ◌+◌, ◌-◌, eqb, length, take, drop}
use Rattle.std.proofs.Math.Option.{Option, none, some}
use Rattle.octets.specs.Classes.{text, within, bit, is_token, is_blank, is_digit, is_user, is_parameter, is_host, is_visible}
use Rattle.octets.specs.Scans.{run, all, starts, run_escaped, quoted, number, same, same_text}
use Rattle.sip.specs.declared.UriAt.{UriAt}
use Rattle.sip.specs.declared.AddressAt.{AddressAt}
use Rattle.sip.specs.declared.ParamAt.{ParamAt}
use Rattle.sip.specs.declared.ParamsAt.{ParamsAt}
use Rattle.sip.specs.declared.PartyAt.{PartyAt}
use Rattle.sip.specs.declared.IdentityAt.{IdentityAt}

-- ---- "Not empty"

unfoldable pub is_empty : List ℕ → Bool
is_empty [] = true
is_empty (b ∷ s) = false

-- ---- "Max-Forwards: 1 to 3 digits, at most 255. Content-Length: 1 to 5 digits."

-- the whole value is a number of 1 to `most` digits, at most `bound`
unfoldable pub is_number : ℕ → ℕ → List ℕ → Bool
is_number most bound v = let n = number most bound v in not (eqb n.size 0) && eqb n.size (length v)

unfoldable pub is_max_forwards : List ℕ → Bool
is_max_forwards v = is_number 3 255 v

unfoldable pub is_content_length : List ℕ → Bool
is_content_length v = is_number 5 99999 v

-- ---- "CSeq: 1 to 10 digits, below 2,147,483,648, then one or more spaces or tabs, then the method of the start line."

unfoldable pub is_cseq : List ℕ → List ℕ → Bool
is_cseq method v =
    let n = (number 10 2147483647 v).size in
    let b = run is_blank (drop n v) in
    not (eqb n 0) && (not (eqb b 0) && same method (drop (n + b) v))

-- CR 1: "The method is the token that ends the CSeq value": what stands after the number and the spaces or tabs. Empty where the value
-- is malformed
unfoldable pub cseq_method : List ℕ → List ℕ
cseq_method v =
    let n = (number 10 2147483647 v).size in
    let b = run is_blank (drop n v) in
    let token = drop (n + b) v in
    cond (not (eqb n 0) && (not (eqb b 0) && all is_token token)) token []

-- ---- "Call-ID: 1 to 128 bytes, each 33 to 126."

unfoldable pub is_call_id : List ℕ → Bool
is_call_id v = within 1 128 (length v) && all is_visible v

-- ---- "URI: `sip:` or `tel:` in any case."

abbrev pub no_uri : UriAt
no_uri = record { size = 0; tel = false; user = 0; tail = 0 }

-- "host (1 to 253 letters, digits, `-`, `.`)"
unfoldable pub host : List ℕ → ℕ
host s = let n = run is_host s in cond (within 1 253 n) n 0

-- "`:` and a port of 1 to 5 digits, 1 to 65,535"
unfoldable pub port : List ℕ → ℕ
port s =
    let n = number 5 65535 (drop 1 s) in
    cond (starts 58 s && (not (eqb n.size 0) && not (eqb n.value 0))) (n.size + 1) 0

-- host, and "optionally `:` and a port": where a colon follows, so does a port
unfoldable pub host_port : List ℕ → ℕ
host_port s =
    let h = host s in
    let p = port (drop h s) in
    cond (eqb h 0) 0 (cond (starts 58 (drop h s)) (cond (eqb p 0) 0 (h + p)) h)

-- "A tail is `;` and any number of parameter bytes: RFC 3261's paramchar set, `;`, `=`, or `%` and two hex digits." 0 where there is none
unfoldable pub tail : List ℕ → ℕ
tail s = let n = run_escaped is_parameter 0 (drop 1 s) in cond (starts 59 s) (n + 1) 0

-- host, port and tail: n bytes of the URI stand before them, u of which are the user
unfoldable pub sip_from : ℕ → ℕ → List ℕ → UriAt
sip_from n u s =
    let h = host_port s in
    cond (eqb h 0) no_uri (record { size = n + h + tail (drop h s); tel = false; user = u; tail = n + h })

-- after `sip:`: "optionally user (1 to 64 bytes) and `@`; host ..; optionally `:` and a port ..; optionally a tail. User bytes are
-- RFC 3261's unreserved and user-unreserved, or `%` and two hex digits."
unfoldable pub sip : List ℕ → UriAt
sip s =
    let u = run_escaped is_user 0 s in
    cond (starts 64 (drop u s)) (cond (within 1 64 u) (sip_from (u + 5) u (drop (u + 1) s)) no_uri) (sip_from 4 0 s)

-- after `tel:`: "optional `+`, 1 to 15 digits, optionally a tail"
unfoldable pub tel : List ℕ → UriAt
tel s =
    let p = bit (starts 43 s) in
    let n = run is_digit (drop p s) in
    let t = tail (drop (p + n) s) in
    cond (within 1 15 n) (record { size = 4 + p + n + t; tel = true; user = 0; tail = 4 + p + n }) no_uri

unfoldable pub uri : List ℕ → UriAt
uri s =
    let p = sip (drop 4 s) in
    let t = tel (drop 4 s) in
    cond (same_text (text "sip:") (take 4 s)) p (cond (same_text (text "tel:") (take 4 s)) t no_uri)

-- ---- "Address (From, To): either an optional display name .., `<`, URI, `>`; or a bare URI without a tail."

-- "a quoted string, or tokens with spaces or tabs between, then any spaces or tabs"; 0 where there is no display name
unfoldable pub display : List ℕ → ℕ
display s =
    let q = quoted s in
    let b = run is_blank (drop q s) in
    let n = run (λ (c : ℕ). is_token c || is_blank c) s in
    cond (eqb q 0) (cond (eqb (run is_token s) 0) 0 n) (q + b)

abbrev pub no_address : AddressAt
no_address = record { size = 0; at = 0; uri = no_uri }

-- "URI, `>`", after d bytes and `<`
unfoldable pub bracketed : ℕ → List ℕ → AddressAt
bracketed d s =
    let u = uri s in
    cond (eqb u.size 0) no_address
    (cond (starts 62 (drop u.size s)) (record { size = d + u.size + 2; at = d + 1; uri = u }) no_address)

-- a URI "without a tail"
abbrev pub bare : UriAt → UriAt
bare u = record { size = u.tail; tel = u.tel; user = u.user; tail = u.tail }

unfoldable pub address : List ℕ → AddressAt
address s =
    let d = display s in
    let a = bracketed d (drop (d + 1) s) in
    let u = uri s in
    cond (starts 60 (drop d s)) a (cond (eqb u.size 0) no_address (record { size = u.tail; at = 0; uri = bare u }))

-- ---- "Then any number of parameters: `;`, token, optionally `=` and a token or quoted string, with spaces or tabs free around `;` and
-- `=`. .. `tag` (any case) stands at most once, its value a token of 1 to 64 bytes."

abbrev pub no_param : ParamAt
no_param = record { size = 0; tag = false; value = 0; len = 0 }

-- the byte b "with spaces or tabs free around" it
unfoldable pub sign : ℕ → List ℕ → ℕ
sign b s =
    let n = run is_blank s in
    let m = run is_blank (drop (n + 1) s) in
    cond (starts b (drop n s)) (n + 1 + m) 0

-- a parameter's value: "a token or quoted string"; that of a tag is "a token of 1 to 64 bytes"
unfoldable pub param_value : Bool → List ℕ → ℕ
param_value is_tag s =
    let t = run is_token s in
    let q = quoted s in
    cond is_tag (cond (within 1 64 t) t 0) (cond (eqb t 0) q t)

-- "optionally `=` and" a value, after n bytes of the parameter; a tag has one
unfoldable pub param_rest : ℕ → Bool → List ℕ → ParamAt
param_rest n is_tag s =
    let e = sign 61 s in
    let l = param_value is_tag (drop e s) in
    cond (eqb e 0)
    (cond is_tag no_param (record { size = n; tag = false; value = n; len = 0 }))
    (cond (eqb l 0) no_param (record { size = n + e + l; tag = is_tag; value = n + e; len = l }))

-- one parameter
unfoldable pub param : List ℕ → ParamAt
param s =
    let c = sign 59 s in
    let n = drop c s in
    let t = run is_token n in
    let p = param_rest (c + t) (same_text (text "tag") (take t n)) (drop t n) in
    cond (eqb c 0 || eqb t 0) no_param p

abbrev pub no_params : ParamsAt
no_params = record { size = 0; tag = 0; len = 0 }

-- the parameters read so far, and p
unfoldable pub with_param : ParamsAt → ParamAt → ParamsAt
with_param got p =
    cond p.tag (record { size = got.size + p.size; tag = got.size + p.value; len = p.len })
    (record { size = got.size + p.size; tag = got.tag; len = got.len })

-- no parameter, or a second tag
unfoldable pub stops : ParamsAt → ParamAt → Bool
stops got p = eqb p.size 0 || (p.tag && not (eqb got.len 0))

-- the parameters at the front, after those read so far; the first k bytes belong to the last of these
unfoldable pub params : ParamsAt → ℕ → List ℕ → ParamsAt
params got k [] = got
params got (suc k) (b ∷ s) = params got k s
params got zero (b ∷ s) =
    let p = param (b ∷ s) in
    let r = params (with_param got p) (p.size - 1) s in
    cond (stops got p) got r

-- ---- From and To: an address and parameters, and nothing after them

abbrev pub no_party : PartyAt
no_party = record { good = false; tag = 0; len = 0 }

unfoldable pub party : List ℕ → PartyAt
party v =
    let a = address v in
    let p = params no_params 0 (drop a.size v) in
    cond (not (eqb a.size 0) && eqb (a.size + p.size) (length v))
    (record { good = true; tag = a.size + p.tag; len = p.len })
    no_party

unfoldable pub is_to : List ℕ → Bool
is_to v = (party v).good

-- it has a tag
unfoldable pub is_tagged : List ℕ → Bool
is_tagged v = not (eqb (party v).len 0)

-- "From needs it."
unfoldable pub is_from : List ℕ → Bool
is_from v = is_to v && is_tagged v

-- the value of the tag
unfoldable pub tag_of : List ℕ → List ℕ
tag_of v = let p = party v in take p.len (drop p.tag v)

-- ---- "P-Asserted-Identity: an address without parameters after it. The sip user, or all of a tel URI after its colon, is `+`, a digit
-- 1 to 9, then 6 to 14 digits."

unfoldable pub is_global : List ℕ → Bool
is_global s =
    let n = run is_digit (drop 1 s) in
    starts 43 s && (not (starts 48 (drop 1 s)) && (within 7 15 n && eqb (n + 1) (length s)))

-- how many bytes the sip user has, or the tel URI after its colon; they stand behind the four of `sip:` or `tel:`
abbrev pub person_size : UriAt → ℕ
person_size u = cond u.tel (u.size - 4) u.user

-- the sip user, or all of a tel URI after its colon; s starts with the URI
unfoldable pub person : UriAt → List ℕ → List ℕ
person u s = take (person_size u) (drop 4 s)

abbrev pub no_identity : IdentityAt
no_identity = record { size = 0; tel = false; start = 0; len = 0 }

-- an address with such a number in it, and where the number stands
unfoldable pub identity : List ℕ → IdentityAt
identity s =
    let a = address s in
    cond (not (eqb a.size 0) && is_global (person a.uri (drop a.at s)))
    (record { size = a.size; tel = a.uri.tel; start = a.at + 4; len = person_size a.uri })
    no_identity

-- ---- CR 6: "Allow one or two, in one field parted by a comma (spaces or tabs free around it) or in two fields: if two, one sip and one tel,
-- each of the old form."

-- an identity that stands after n bytes of the value
abbrev pub after : ℕ → IdentityAt → IdentityAt
after n i = record { size = i.size; tel = i.tel; start = n + i.start; len = i.len }

-- the identities that make up a value: an identity, or an identity, a comma and an identity. None where it is not made so
unfoldable pub identities : List ℕ → List IdentityAt
identities v =
    let a = identity v in
    let c = sign 44 (drop a.size v) in
    let n = a.size + c in
    let b = identity (drop n v) in
    cond (eqb a.size 0) []
    (cond (eqb a.size (length v)) (a ∷ [])
    (cond (eqb c 0 || eqb b.size 0) []
    (cond (eqb (n + b.size) (length v)) (a ∷ after n b ∷ []) [])))

-- whether each of them is a tel URI; the others are sip URIs
unfoldable pub schemes : List ℕ → List Bool
schemes v = map (λ (i : IdentityAt). i.tel) (identities v)

-- the number of an identity of the value v, and those of all
abbrev pub number_in : List ℕ → IdentityAt → List ℕ
number_in v i = take i.len (drop i.start v)

unfoldable pub numbers_in : List ℕ → List (List ℕ)
numbers_in v = map (number_in v) (identities v)

-- "one or two .. if two, one sip and one tel", by whether each is a tel URI; none is allowed too, where no field stands
unfoldable pub allowed : List Bool → Bool
allowed [] = true
allowed (t ∷ []) = true
allowed (t ∷ u ∷ []) = cond t (not u) u
allowed (t ∷ u ∷ w ∷ ts) = false

abbrev pub is_none : List Bool → Bool
is_none [] = true
is_none (t ∷ ts) = false

-- a P-Asserted-Identity by itself: it has identities, and they are allowed
unfoldable pub is_asserted : List ℕ → Bool
is_asserted v = not (is_none (schemes v)) && allowed (schemes v)

-- ---- "one or more tokens parted by" a byte, "spaces or tabs free around it"

abbrev pub with_token : List ℕ → Option (List (List ℕ)) → Option (List (List ℕ))
with_token t none = none
with_token t (some ts) = some (t ∷ ts)

-- the tokens that make up a text; none where it is no such list. The first k bytes belong to a token and sign that were read before them
unfoldable pub tokens : ℕ → ℕ → List ℕ → Option (List (List ℕ))
tokens sep k [] = none
tokens sep (suc k) (b ∷ s) = tokens sep k s
tokens sep zero (b ∷ s) =
    let n = run is_token (b ∷ s) in
    let e = sign sep (drop n (b ∷ s)) in
    let t = take n (b ∷ s) in
    let last : Option (List (List ℕ)) = some (t ∷ []) in
    let next = with_token t (tokens sep (n + e - 1) s) in
    cond (eqb n 0) none (cond (is_empty (drop n (b ∷ s))) last (cond (eqb e 0) none next))

abbrev pub list_or : Option (List (List ℕ)) → List (List ℕ)
list_or none = []
list_or (some ts) = ts

abbrev pub is_list : Option (List (List ℕ)) → Bool
is_list none = false
is_list (some ts) = true

-- the place of the first token that passes the test, from 1; n stand before. 0: none does
unfoldable pub first_place : (List ℕ → Bool) → ℕ → List (List ℕ) → ℕ
first_place p n [] = 0
first_place p n (t ∷ ts) = let later = first_place p (suc n) ts in cond (p t) (suc n) later

-- ---- "Privacy: one or more tokens parted by `;`"

unfoldable pub is_privacy : List ℕ → Bool
is_privacy v = is_list (tokens 59 0 v)

-- one token passes the test
abbrev pub any_token : (List ℕ → Bool) → List (List ℕ) → Bool
any_token p [] = false
any_token p (t ∷ ts) = p t || any_token p ts

-- CR 2: "restricts on `header`, `user` and `id`", "letter case free"
unfoldable pub is_restricting : List ℕ → Bool
is_restricting t = same_text (text "header") t || (same_text (text "user") t || same_text (text "id") t)

-- "holds any of the three"
unfoldable pub restricts : List ℕ → Bool
restricts v = any_token is_restricting (list_or (tokens 59 0 v))

-- ---- "Require: one or more tokens parted by commas"

unfoldable pub is_require : List ℕ → Bool
is_require v = is_list (tokens 44 0 v)

unfoldable pub required_tags : List ℕ → List (List ℕ)
required_tags v = list_or (tokens 44 0 v)

-- "We have `100rel` and `timer` (any case)."
unfoldable pub is_lacking : List ℕ → Bool
is_lacking t = not (same_text (text "100rel") t || same_text (text "timer") t)

-- ---- "Called number .. : the sip user, or the tel text after its colon, is a number alone or a number, `;` and any bytes or none. A number
-- has the form of P-Asserted-Identity's, or is 2 to 6 digits."

unfoldable pub is_short : List ℕ → Bool
is_short s = within 2 6 (length s) && all is_digit s

unfoldable pub is_called : List ℕ → Bool
is_called s = let n = take (run (λ (b : ℕ). not (eqb b 59)) s) s in is_global n || is_short n
