-- Addresses: `address` reads at the front of a text exactly what the grammar derives there, and finds its URI.
use mathlib.Core.Path.{◌≡◌, refl, ◌∙◌, sym}
use mathlib.Core.Bool.{Bool, true, false, cond}
use mathlib.Core.List.{List, [], ◌∷◌, ◌++◌, append_assoc, append-nil}
use Prim.Native.Nat.{ℕ, ◌+◌, ◌≤◌, ◌-◌}
use native.Mathlib.Omega.{arith}
use lib.Dec.{eqb}
use lib.ListN.{length, take, drop, length-append}
use lib.Seq.{drop-append_seam, drop-append-add}
use Rattle.octets.specs.Scans.{starts}
use Rattle.sip.specs.declared.AddressAt.{AddressAt}
use Rattle.sip.specs.declared.UriAt.{UriAt}
use Rattle.sip.specs.Values.{tail, uri, display, no_address, bracketed, bare, address, person_size}
use Rattle.sip.specs.Grammar.{each_end, UriParts, sip_parts, tel_parts, Uri, tail_text, is_tel_uri, person_of, last_word, DisplayName}
use Rattle.sip.specs.Grammar.{words_name, Address, name_addr, addr_spec}
use Rattle.sip.proofs.Tests.{byte_start}
use Rattle.sip.proofs.Grammar.Bytes.{some_no}
use Rattle.sip.proofs.Grammar.Schemes.{Clear}
use Rattle.sip.proofs.Grammar.Uris.{Begins, UriFound, UriView, begins, found, front_bare, front_some, front_uri, join, without_uri}
use Rattle.sip.proofs.Grammar.Uris.{person_at, person_size_lem, uri_here, uri_view, with_tail}
use Rattle.sip.proofs.Grammar.Follows.{closed_bracket, tail_le, uri_before, uri_front}
use Rattle.sip.proofs.Grammar.DisplayNames.{DisplayView, display_here, display_of, display_view, ending_bracket, ending_colon}

-- ---- an address that is read is one

-- what is read of the address x with a URI of these parts, at the front of s
pub record AddressFound (s x : List ℕ) (u : UriParts) (a : AddressAt) : Type 0 where
  pub size_is : a.size ≡ length x
  pub tel_is : a.uri.tel ≡ is_tel_uri u
  pub person_long : person_size a.uri ≡ length (person_of u)
  pub person_there : take (length (person_of u)) (drop (a.at + 4) s) ≡ person_of u

bare_found : {s : List ℕ} {u : UriParts} {p : UriAt} → Uri s u → UriFound p s u → (r : List ℕ)
    → AddressFound (s ++ r) s u (record { size = length s; at = 0; uri = p })
bare_found d f r = record { size_is = refl; tel_is = f.tel_is; person_long = person_size_lem d f; person_there = person_at d r }

bracketed_found : (d : List ℕ) {s : List ℕ} {u : UriParts} {p : UriAt} → Uri s u → UriFound p s u → (r : List ℕ)
    → AddressFound ((d ++ (60 ∷ (s ++ (62 ∷ [])))) ++ r) (d ++ (60 ∷ (s ++ (62 ∷ [])))) u
    (record { size = length (d ++ (60 ∷ (s ++ (62 ∷ [])))); at = length d + 1; uri = p })
bracketed_found d {s} {u} us f r =
    let w : List ℕ = s ++ (62 ∷ r) in
    let split : (d ++ (60 ∷ (s ++ (62 ∷ [])))) ++ r ≡ d ++ (60 ∷ w) = simp append_assoc in
    let k : length d + 1 + 4 ≡ length d + 5 = omega arith in
    record {
      size_is = refl;
      tel_is = f.tel_is;
      person_long = person_size_lem us f;
      person_there = rw (k, split, drop-append-add d (60 ∷ w) 5) (person_at us (62 ∷ r));
    }

pub data AddressView : List ℕ → AddressAt → Type 0 where
  address_here : {x : List ℕ} {u : UriParts} {a : AddressAt} → Address x u → (r : List ℕ) → AddressFound (x ++ r) x u a → AddressView (x ++ r) a
  without_address : {s : List ℕ} {a : AddressAt} → a.size ≡ 0 → AddressView s a

bare_view : (s : List ℕ) (p : UriAt) → UriView s p
    → AddressView s (cond (eqb p.size 0) no_address (record { size = p.tail; at = 0; uri = bare p }))
bare_view _ _ (uri_here {f} {t} {u} d e r) =
    let p : UriAt = bare (found u (length f) (length t)) in
    let g : UriFound p f u = record { tel_is = refl; user_is = refl; size_is = refl } in
    let a : AddressFound (f ++ (t ++ r)) f u (record { size = length f; at = 0; uri = p }) = bare_found (front_uri d) g (t ++ r) in
    rw (some_no (length f + length t) (omega (arith, front_some d))) (address_here (addr_spec (front_uri d) (front_bare d)) (t ++ r) a)
bare_view s _ without_uri = without_address refl

found_join : (u : UriParts) (f t : List ℕ) → UriFound (found u (length f) (length t)) (f ++ t) (with_tail u t)
found_join (sip_parts u h d x) f t = record { tel_is = refl; user_is = refl; size_is = sym (length-append f t) }
found_join (tel_parts n x) f t = record { tel_is = refl; user_is = refl; size_is = sym (length-append f t) }

bracketed_view : {d : List ℕ} → DisplayName d → (s : List ℕ) (p : UriAt) → UriView s p
    → AddressView (d ++ (60 ∷ s)) (cond (eqb p.size 0) no_address
    (cond (starts 62 (drop p.size s)) (record { size = length d + p.size + 2; at = length d + 1; uri = p }) no_address))
bracketed_view {d} dd _ _ (uri_here {f} {t} {u} g e r) =
    let seam : drop (length f + length t) (f ++ (t ++ r)) ≡ r = drop-append-add f (t ++ r) (length t) ∙ drop-append_seam t r in
    rw (some_no (length f + length t) (omega (arith, front_some g)), seam) (go (starts 62 r) refl)
  where
    go : (x : Bool) → starts 62 r ≡ x
        → AddressView (d ++ (60 ∷ (f ++ (t ++ r)))) (cond x (record { size = length d + (length f + length t) + 2; at = length d + 1; uri = found u (length f) (length t) }) no_address)
    go true q =
        let x : List ℕ = d ++ (60 ∷ ((f ++ t) ++ (62 ∷ []))) in
        let k : length d + (length f + length t) + 2 ≡ length x = simp length-append (omega arith) in
        let s : x ++ drop 1 r ≡ d ++ (60 ∷ (f ++ (t ++ (62 ∷ drop 1 r)))) = simp append_assoc in
        let a = bracketed_found d (join g e) (found_join u f t) (drop 1 r) in
        rw (byte_start 62 r q, k, ← s) (address_here (name_addr dd (join g e)) (drop 1 r) a)
    go false q = without_address refl
bracketed_view dd s _ without_uri = without_address refl

pub address_view : (s : List ℕ) → AddressView s (address s)
unfolding address bracketed
address_view s = go s (display s) (display_view s)
  where
    at : {d : List ℕ} → DisplayName d → (r : List ℕ) (t : Bool) → starts 60 r ≡ t
        → AddressView (d ++ r) (cond t (bracketed (length d) (drop 1 r))
        (cond (eqb (uri (d ++ r)).size 0) no_address (record { size = (uri (d ++ r)).tail; at = 0; uri = bare (uri (d ++ r)) })))
    at dd r true e = rw (byte_start 60 r e) (bracketed_view dd (drop 1 r) (uri (drop 1 r)) (uri_view (drop 1 r)))
    at {d} dd r false e = bare_view (d ++ r) (uri (d ++ r)) (uri_view (d ++ r))

    go : (s : List ℕ) (d : ℕ) → DisplayView s d
        → AddressView s (cond (starts 60 (drop d s)) (bracketed d (drop (d + 1) s))
        (cond (eqb (uri s).size 0) no_address (record { size = (uri s).tail; at = 0; uri = bare (uri s) })))
    go _ _ (display_here {d} dd r) = rw (drop-append_seam d r, drop-append-add d r 1) (at dd r (starts 60 r) refl)

-- ---- a bare URI is not taken for a display name: its scheme is a token, and a colon stands after it

no_bracket : (s : List ℕ) → Begins s → starts 60 (drop (display s) s) ≡ false
unfolding starts
no_bracket s c =
    let n : List ℕ = c.name in
    let e : display (n ++ (58 ∷ c.others)) ≡ length n
    = rw append-nil at (display_of (words_name {b = []} (last_word c.is_token_lem) each_end) 58 c.others ending_colon) in
    rw (c.made, e, drop-append_seam n (58 ∷ c.others))

-- ---- an address is read

pub bracketed_of : {d s : List ℕ} {u : UriParts} → DisplayName d → Uri s u → (r : List ℕ)
    → address ((d ++ (60 ∷ (s ++ (62 ∷ [])))) ++ r) ≡ record {
      size = length (d ++ (60 ∷ (s ++ (62 ∷ []))));
      at = length d + 1;
      uri = found u (length s - length (tail_text u)) (length (tail_text u));
    }
unfolding address bracketed starts
bracketed_of {d} {s} {u} dd us r =
    let w : List ℕ = s ++ (62 ∷ r) in
    let split : (d ++ (60 ∷ (s ++ (62 ∷ [])))) ++ r ≡ d ++ (60 ∷ w) = simp append_assoc in
    let l : length s - length (tail_text u) + length (tail_text u) ≡ length s = omega (arith, tail_le us) in
    let some : 1 ≤ length s = omega (arith, tail_le us) in
    let k : length d + length s + 2 ≡ length (d ++ (60 ∷ (s ++ (62 ∷ [])))) = simp length-append (omega arith) in
    rw (
      split,
      display_of dd 60 w ending_bracket,
      drop-append_seam d (60 ∷ w),
      drop-append-add d (60 ∷ w) 1,
      uri_before us (62 ∷ r) (closed_bracket r),
      l,
      some_no (length s) some,
      drop-append_seam s (62 ∷ r),
      k,
    )

pub bare_of : {s : List ℕ} {u : UriParts} → Uri s u → tail_text u ≡ [] → (r : List ℕ) → Clear r
    → address (s ++ r) ≡ record { size = length s; at = 0; uri = bare (found u (length s) (tail r)) }
unfolding address
bare_of {s} {u} us e r c =
    let l : length s - length (tail_text u) ≡ length s = rw e (omega arith) in
    let f : uri (s ++ r) ≡ found u (length s) (tail r) = uri_front us r c ∙ rw (l, e) in
    let some : 1 ≤ length s = omega (arith, tail_le us) in
    rw (no_bracket (s ++ r) (begins us r), f, some_no (length s + tail r) (omega arith))

-- every address before what a value goes on with
pub address_of : {x : List ℕ} {u : UriParts} → Address x u → (r : List ℕ) → Clear r → AddressFound (x ++ r) x u (address (x ++ r))
address_of (name_addr {d} {s} {u} dd us) r c =
    let p : UriAt = found u (length s - length (tail_text u)) (length (tail_text u)) in
    let f : UriFound p s u = record { tel_is = refl; user_is = refl; size_is = omega (arith, tail_le us) } in
    rw (bracketed_of dd us r) (bracketed_found d us f r)
address_of (addr_spec {s} {u} us e) r c =
    let p : UriAt = bare (found u (length s) (tail r)) in
    let f : UriFound p s u = record { tel_is = refl; user_is = refl; size_is = refl } in
    rw (bare_of us e r c) (bare_found us f r)

pub address_some : {x : List ℕ} {u : UriParts} → Address x u → 1 ≤ length x
address_some (name_addr {d} {s} dd us) = omega (arith, length-append d (60 ∷ (s ++ (62 ∷ []))))
address_some (addr_spec us e) = omega (arith, tail_le us)
