-- No value has two readings: a function of the bytes alone gives the parts of every derivation.
use mathlib.Core.Path.{◌≡◌, refl, ◌∙◌, sym, ap}
use mathlib.Core.Bool.{cond}
use mathlib.Core.List.{List, [], ◌∷◌, ◌++◌, append_assoc, append-nil}
use Prim.Native.Nat.{ℕ, ◌+◌, ◌-◌}
use native.Mathlib.Omega.{arith}
use lib.ListN.{length, take, drop, length-append}
use lib.Seq.{take-append_seam, drop-append_seam, drop-append-add, take_at, drop_at}
use Rattle.octets.specs.Classes.{is_host}
use Rattle.octets.specs.Scans.{run}
use Rattle.sip.specs.declared.UriAt.{UriAt}
use Rattle.sip.specs.Values.{uri, address, person}
use Rattle.sip.specs.Grammar.{Userinfo, no_user, user_at, Host, Port, no_port, port_of, UriParts, sip_parts, tel_parts, Uri}
use Rattle.sip.specs.Grammar.{sip_uri, tel_uri, tail_text, Address, name_addr, addr_spec, person_of, Party, party_of}
use Rattle.sip.proofs.Grammar.Bytes.{Ends, end, run_of, stop}
use Rattle.sip.proofs.Grammar.Schemes.{Clear}
use Rattle.sip.proofs.Grammar.Uris.{UriFound, found, four_sip, four_tel, person_at, person_size_lem, take_user}
use Rattle.sip.proofs.Grammar.Follows.{params_clear, tail_le, uri_found}
use Rattle.sip.proofs.Grammar.Addresses.{bare_of, bracketed_of}
use Rattle.sip.proofs.Grammar.Parties.{tags_found}

-- a user and its `@`
abbrev with_at : List ℕ → List ℕ
with_at [] = []
with_at (b ∷ u) = b ∷ (u ++ (64 ∷ []))

user_text : {a u : List ℕ} → Userinfo a u → a ≡ with_at u
user_text no_user = refl
user_text (user_at {u = []} d l) = absurd (omega (arith, l.least))
user_text (user_at {u = b ∷ u} d l) = refl

-- host and port of h
abbrev host_in : List ℕ → List ℕ
host_in h = take (run is_host h) h

abbrev port_in : List ℕ → List ℕ
port_in h = drop (run is_host h + 1) h

-- the parts of the URI s, by what `uri` found
pub parts_of : List ℕ → UriParts
parts_of s =
    let r = uri s in
    let u = take r.user (drop 4 s) in
    let h = drop (4 + length (with_at u)) (take r.tail s) in
    cond r.tel (tel_parts (take (r.tail - 4) (drop 4 s)) (drop r.tail s)) (sip_parts u (host_in h) (port_in h) (drop r.tail s))

host_port : {h q d : List ℕ} → Host h → Port q d → (host_in (h ++ q) ≡ h) × (port_in (h ++ q) ≡ d)
unfolding is_host
host_port {h} e no_port =
    let n : run is_host (h ++ []) ≡ length h = run_of e.bytes end in
    (rw (n, take-append_seam h []), rw (n, drop-append-add h [] 1))
host_port {h} e (port_of {d} a l x y) =
    let f : Ends is_host (58 ∷ d) = stop refl in
    let n : run is_host (h ++ (58 ∷ d)) ≡ length h = run_of e.bytes f in
    (rw (n, take-append_seam h (58 ∷ d)), rw (n, drop-append-add h (58 ∷ d) 1))

pub uri_parts : {s : List ℕ} {u : UriParts} → Uri s u → parts_of s ≡ u
unfolding parts_of
uri_parts (sip_uri {k} {a} {u} {h} {q} {d} {t} e us hs ps ts) =
    let s : List ℕ = k ++ (a ++ (h ++ (q ++ t))) in
    let f : List ℕ = k ++ (a ++ (h ++ q)) in
    let r : uri s ≡ found (sip_parts u h d t) (length s - length t) (length t) = uri_found (sip_uri e us hs ps ts) in
    let w : s ≡ f ++ t = simp append_assoc in
    let n : length f ≡ length s - length t = omega (arith, ap length w ∙ length-append f t) in
    let x : take (length s - length t) s ≡ f = ap (take (length s - length t)) w ∙ take_at f t (length s - length t) n in
    let y : drop (length s - length t) s ≡ t = ap (drop (length s - length t)) w ∙ drop_at f t (length s - length t) n in
    let z : take (length u) (drop 4 s) ≡ u = rw (drop_at k (a ++ (h ++ (q ++ t))) 4 (four_sip e)) (take_user us (h ++ (q ++ t))) in
    let c : 4 + length (with_at u) ≡ length k + length a = rw (← user_text us) (omega (arith, four_sip e)) in
    let m : drop (4 + length (with_at u)) f ≡ h ++ q = rw c (drop-append-add k (a ++ (h ++ q)) (length a) ∙ drop-append_seam a (h ++ q)) in
    let (i, j) = host_port hs ps in
    rw (r, z, x, y, m, i, j)
uri_parts (tel_uri {k} {n} {t} e ds ts) =
    let s : List ℕ = k ++ (n ++ t) in
    let r : uri s ≡ found (tel_parts n t) (length s - length t) (length t) = uri_found (tel_uri e ds ts) in
    let l : length (k ++ n) ≡ length s - length t = omega (arith, length-append k n, length-append k (n ++ t), length-append n t) in
    let m : length n ≡ length s - length t - 4 = omega (arith, four_tel e, length-append k n) in
    let w : s ≡ (k ++ n) ++ t = sym (append_assoc k n t) in
    let x : drop (length s - length t) s ≡ t = ap (drop (length s - length t)) w ∙ drop_at (k ++ n) t (length s - length t) l in
    let y : take (length s - length t - 4) (drop 4 s) ≡ n = rw (drop_at k (n ++ t) 4 (four_tel e)) (take_at n t (length s - length t - 4) m) in
    rw (r, x, y)

pub uri_unique : {s : List ℕ} {u w : UriParts} → Uri s u → Uri s w → u ≡ w
uri_unique d e = sym (uri_parts d) ∙ uri_parts e

-- the parts of the URI in a value that begins with an address
pub uri_in : List ℕ → UriParts
uri_in v = let a = address v in parts_of (take a.uri.size (drop a.at v))

pub address_parts : {x : List ℕ} {u : UriParts} → Address x u → (r : List ℕ) → Clear r → uri_in (x ++ r) ≡ u
unfolding uri_in
address_parts (name_addr {d} {s} {u} dd us) r c =
    let split : (d ++ (60 ∷ (s ++ (62 ∷ [])))) ++ r ≡ d ++ (60 ∷ (s ++ (62 ∷ r))) = simp append_assoc in
    let l : length s - length (tail_text u) + length (tail_text u) ≡ length s = omega (arith, tail_le us) in
    rw (bracketed_of dd us r, split, drop-append-add d (60 ∷ (s ++ (62 ∷ r))) 1, l, take-append_seam s (62 ∷ r)) (uri_parts us)
address_parts (addr_spec {s} {u} us e) r c = rw (bare_of us e r c, take-append_seam s r) (uri_parts us)

pub party_parts : {v : List ℕ} {u : UriParts} {ts : List (List ℕ)} → Party v u ts → uri_in v ≡ u
party_parts (party_of {a} {p} d ps l) = address_parts d p (params_clear ps)

pub party_unique : {v : List ℕ} {u w : UriParts} {ts us : List (List ℕ)} → Party v u ts → Party v w us → (u ≡ w) × (ts ≡ us)
party_unique d e = (sym (party_parts d) ∙ party_parts e, sym (tags_found d) ∙ tags_found e)

-- the sip user, or the tel text after the colon, of a Request-URI
pub person_found : {s : List ℕ} {u : UriParts} → Uri s u → person (uri s) s ≡ person_of u
unfolding person
person_found {s} {u} d =
    let p : UriAt = found u (length s - length (tail_text u)) (length (tail_text u)) in
    let f : UriFound p s u = record { tel_is = refl; user_is = refl; size_is = omega (arith, tail_le d) } in
    rw (uri_found d, person_size_lem d f) (rw append-nil at (person_at d []))
