-- What may follow a URI does not change how it is read: the end, `>`, every derivation of parameters, and a comma and an address.
use mathlib.Core.Path.{◌≡◌, refl, ◌∙◌, sym, ap}
use mathlib.Core.Bool.{Bool, true, false, not, ◌||◌}
use mathlib.Core.List.{List, [], ◌∷◌, ◌++◌, append_assoc, append-nil}
use Prim.Native.Nat.{ℕ, ◌+◌, ◌-◌, ◌<◌}
use native.Mathlib.Omega.{arith}
use lib.Dec.{eqb}
use lib.ListN.{length, length-append}
use borrow.Author.Tests.{eq-eqb, ne_eqb, eqb-true, eqb-false, not-true}
use Rattle.octets.specs.Classes.{is_blank, is_digit, is_hex, is_token, is_user, is_parameter, is_host}
use Rattle.octets.specs.Scans.{starts}
use Rattle.sip.specs.declared.UriAt.{UriAt}
use Rattle.sip.specs.Values.{tail, uri}
use Rattle.sip.specs.Refusals.{is_uri}
use Rattle.sip.specs.Grammar.{Separator, blanks_around, BytesOrEscapes, no_bytes, one_byte, one_escape, quoted_string, Token, GenValue}
use Rattle.sip.specs.Grammar.{token_value, string_value, Param, name_alone, name_value, tag_value, Params, no_params, param_and}
use Rattle.sip.specs.Grammar.{Tail, no_tail, tail_of, UriParts, sip_parts, tel_parts, Uri, tail_text, Words, last_word, word_and}
use Rattle.sip.specs.Grammar.{DisplayName, no_name, quoted_name, words_name, Address, name_addr, addr_spec}
use Rattle.sip.proofs.Tests.{never, and_left, and_right, all_first}
use Rattle.sip.proofs.Grammar.Bytes.{all_of, end, some_no, stop}
use Rattle.sip.proofs.Grammar.Separators.{sign_stops}
use Rattle.sip.proofs.Grammar.Escapes.{EscapedEnds, escaped_end, escaped_stop}
use Rattle.sip.proofs.Grammar.Param.{tag_token}
use Rattle.sip.proofs.Grammar.Hosts.{NoAt, Past, at_end, at_stop, escape_not, no_at_before, not_at, tail_exact}
use Rattle.sip.proofs.Grammar.Schemes.{Clear}
use Rattle.sip.proofs.Grammar.Uris.{Begins, UriView, begins, cut, found, front_complete, front_some, join, without_uri, uri_here, uri_view}
use Rattle.sip.proofs.Grammar.Uris.{with_tail, without}

-- ---- what follows a URI

past_byte : {b : ℕ} {s : List ℕ} → is_host b ≡ false → is_digit b ≡ false → (b ≡ 58 → ⊥) → Past (b ∷ s)
unfolding starts
past_byte {b} e f g = record { no_host = stop e; no_digit = stop f; no_colon = ne_eqb b 58 g }

pub clear_end : Clear []
unfolding starts
clear_end = record { past = record { no_host = end; no_digit = end; no_colon = refl }; no_at = at_end }

-- `>`
pub clear_close : (r : List ℕ) → Clear (62 ∷ r)
unfolding is_host is_user is_hex
clear_close r = record { past = past_byte {b = 62} refl refl (λ q. omega arith); no_at = at_stop {b = 62} r refl refl (λ q. omega arith) (λ q. omega arith) }

hex_at : (b : ℕ) → is_hex b ≡ true → b ≡ 64 → ⊥
unfolding is_hex
hex_at b e q = let z : true ≡ false = sym e ∙ ap is_hex q in never (cc)

escaped_no_at : {s : List ℕ} → BytesOrEscapes is_parameter s → (r : List ℕ) → NoAt r → NoAt (s ++ r)
unfolding is_parameter
escaped_no_at no_bytes r n = n
escaped_no_at (one_byte {b} e d) r n = not_at {b = b} (λ q. let z : true ≡ false = sym e ∙ ap is_parameter q in never (cc)) (escaped_no_at d r n)
escaped_no_at (one_escape {h} {l} e f d) r n = not_at {b = 37} (λ q. omega arith) (not_at (hex_at h e) (not_at (hex_at l f) (escaped_no_at d r n)))

pub clear_tail : {t : List ℕ} → Tail t → (r : List ℕ) → Clear r → Clear (t ++ r)
unfolding is_host
clear_tail no_tail r c = c
clear_tail (tail_of d) r c =
    record { past = past_byte {b = 59} refl refl (λ q. omega arith); no_at = not_at {b = 59} (λ q. omega arith) (escaped_no_at d r c.no_at) }

-- a blank is a space or a tab: what holds of both
blank_both : (p : ℕ → Bool) → p 32 ≡ false → p 9 ≡ false → (b : ℕ) → is_blank b ≡ true → p b ≡ false
unfolding is_blank
blank_both p x y b e = go (eqb b 32) refl (eqb b 9) refl e
  where
    go : (t : Bool) → eqb b 32 ≡ t → (u : Bool) → eqb b 9 ≡ u → (t || u) ≡ true → p b ≡ false
    go true q u r e = ap p (eqb-true b 32 q) ∙ x
    go false q true r e = ap p (eqb-true b 9 r) ∙ y
    go false q false r e = never (cc)

pub blank_digit : (b : ℕ) → is_blank b ≡ true → is_digit b ≡ false
unfolding is_digit
blank_digit b e = blank_both is_digit refl refl b e

sign_past : {b : ℕ} {c : List ℕ} → is_host b ≡ false → is_digit b ≡ false → (b ≡ 58 → ⊥) → Separator b c → (r : List ℕ) → Past (c ++ r)
unfolding is_host is_blank starts
sign_past {b} {c} h d n sc r =
    record { no_host = sign_stops is_host (blank_both is_host refl refl) h sc r; no_digit = sign_stops is_digit blank_digit d sc r; no_colon = go sc }
  where
    go : {c : List ℕ} → Separator b c → starts 58 (c ++ r) ≡ false
    go (blanks_around {x = []} e f) = ne_eqb b 58 n
    go (blanks_around {x = a ∷ x} e f) =
        ne_eqb a 58 (λ q. let z : true ≡ false = sym (all_first is_blank a x (all_of e)) ∙ ap is_blank q in never (cc))

semicolon_past : {c : List ℕ} → Separator 59 c → (r : List ℕ) → Past (c ++ r)
unfolding is_host
semicolon_past sc r = sign_past refl refl (λ q. omega arith) sc r

sign_no_at : {b : ℕ} {c : List ℕ} → (b ≡ 64 → ⊥) → Separator b c → (r : List ℕ) → NoAt r → NoAt (c ++ r)
unfolding is_blank
sign_no_at {b} h (blanks_around {x} {y} e f) r n =
    rw (append_assoc x (b ∷ y) r) (no_at_before is_blank refl x (b ∷ (y ++ r)) (all_of e) (not_at h (no_at_before is_blank refl y r (all_of f) n)))

token_no_at : {t : List ℕ} → Token t → (r : List ℕ) → NoAt r → NoAt (t ++ r)
unfolding is_token
token_no_at {t} h r n = no_at_before is_token refl t r (all_of h.bytes) n

value_no_at : {v : List ℕ} → GenValue v → (r : List ℕ) → NoAt r → NoAt (v ++ r)
unfolding is_user is_hex
value_no_at (token_value h) r n = token_no_at h r n
value_no_at (string_value (quoted_string {s} d)) r n = at_stop {b = 34} (s ++ r) refl refl (λ q. omega arith) (λ q. omega arith)

param_clear : {x : List ℕ} {ts : List (List ℕ)} → Param x ts → (r : List ℕ) → NoAt r → Clear (x ++ r)
param_clear (name_alone {c} {n} sc o) r m =
    rw (append_assoc c n r) (record { past = semicolon_past sc (n ++ r); no_at = sign_no_at (λ q. omega arith) sc (n ++ r) (token_no_at o.token r m) })
param_clear (name_value {c} {n} {e} {v} sc o se d) r m =
    let s : (c ++ (n ++ (e ++ v))) ++ r ≡ c ++ (n ++ (e ++ (v ++ r))) = simp append_assoc in
    let a : NoAt (e ++ (v ++ r)) = sign_no_at (λ q. omega arith) se (v ++ r) (value_no_at d r m) in
    rw s (record { past = semicolon_past sc (n ++ (e ++ (v ++ r))); no_at = sign_no_at (λ q. omega arith) sc (n ++ (e ++ (v ++ r))) (token_no_at o.token (e ++ (v ++ r)) a) })
param_clear (tag_value {c} {n} {e} {v} sc o se d l) r m =
    let s : (c ++ (n ++ (e ++ v))) ++ r ≡ c ++ (n ++ (e ++ (v ++ r))) = simp append_assoc in
    let a : NoAt (e ++ (v ++ r)) = sign_no_at (λ q. omega arith) se (v ++ r) (token_no_at d r m) in
    rw s (record { past = semicolon_past sc (n ++ (e ++ (v ++ r))); no_at = sign_no_at (λ q. omega arith) sc (n ++ (e ++ (v ++ r))) (token_no_at (tag_token o) (e ++ (v ++ r)) a) })

pub params_clear : {s : List ℕ} {ts : List (List ℕ)} → Params s ts → Clear s
params_clear no_params = clear_end
params_clear (param_and {s = s} d ds) = param_clear d s (params_clear ds).no_at

-- a comma, and what holds no `@` of a user
pub comma_clear : {c : List ℕ} → Separator 44 c → (r : List ℕ) → NoAt r → Clear (c ++ r)
unfolding is_host
comma_clear sc r n = record { past = sign_past refl refl (λ q. omega arith) sc r; no_at = sign_no_at (λ q. omega arith) sc r n }

words_no_at : {w : List ℕ} → Words w → (r : List ℕ) → NoAt r → NoAt (w ++ r)
unfolding is_blank
words_no_at (last_word h) r n = token_no_at h r n
words_no_at (word_and {t} {b} {s} h e l d) r n =
    let split : (t ++ (b ++ s)) ++ r ≡ t ++ (b ++ (s ++ r)) = simp append_assoc in
    rw split (token_no_at h (b ++ (s ++ r)) (no_at_before is_blank refl b (s ++ r) (all_of e) (words_no_at d r n)))

name_no_at : {d : List ℕ} → DisplayName d → (r : List ℕ) → NoAt r → NoAt (d ++ r)
unfolding is_blank is_user is_hex
name_no_at no_name r n = n
name_no_at (quoted_name {b} (quoted_string {s} d) e) r n = at_stop {b = 34} ((s ++ b) ++ r) refl refl (λ q. omega arith) (λ q. omega arith)
name_no_at (words_name {w} {b} d e) r n =
    rw (append_assoc w b r) (words_no_at d (b ++ r) (no_at_before is_blank refl b r (all_of e) n))

-- no user begins where an address does
pub address_no_at : {x : List ℕ} {u : UriParts} → Address x u → NoAt x
unfolding is_user is_hex
address_no_at (name_addr {d} {s} dd us) =
    name_no_at dd (60 ∷ (s ++ (62 ∷ []))) (at_stop {b = 60} (s ++ (62 ∷ [])) refl refl (λ q. omega arith) (λ q. omega arith))
address_no_at (addr_spec {s} us e) =
    let b : Begins s = rw append-nil at (begins us []) in
    rw b.made (token_no_at b.is_token_lem (58 ∷ b.others) (at_stop {b = 58} b.others refl refl (λ q. omega arith) (λ q. omega arith)))

-- ---- a URI that stands at the front is read

found_without : (u : UriParts) (f t : ℕ) → found (without u) f t ≡ found u f t
found_without (sip_parts u h d x) f t = refl
found_without (tel_parts n x) f t = refl

-- up to its tail, whatever follows
pub uri_front : {s : List ℕ} {u : UriParts} → Uri s u → (r : List ℕ) → Clear r
    → uri (s ++ r) ≡ found u (length s - length (tail_text u)) (tail (tail_text u ++ r))
uri_front {s} {u} d r c =
    let k = cut d in
    let t : List ℕ = tail_text u in
    let e : s ++ r ≡ k.front ++ (t ++ r) = ap (λ (x : List ℕ). x ++ r) k.made ∙ append_assoc k.front t r in
    let n : length k.front ≡ length s - length t = omega (arith, ap length k.made ∙ length-append k.front t) in
    ap uri e ∙ front_complete k.is_front (t ++ r) (clear_tail k.is_tail r c) ∙ rw n (found_without u (length s - length t) (tail (t ++ r)))

-- what follows does not continue a URI with its tail
pub record Closed (r : List ℕ) : Type 0 where
  pub clear : Clear r
  pub no_tail : starts 59 r ≡ false
  pub no_parameter : EscapedEnds is_parameter r

pub uri_before : {s : List ℕ} {u : UriParts} → Uri s u → (r : List ℕ) → Closed r → uri (s ++ r) ≡ found u (length s - length (tail_text u)) (length (tail_text u))
uri_before {s} {u} d r c =
    uri_front d r c.clear ∙ ap (found u (length s - length (tail_text u))) (tail_exact (cut d).is_tail r c.no_tail c.no_parameter)

pub closed_end : Closed []
unfolding starts
closed_end = record { clear = clear_end; no_tail = refl; no_parameter = escaped_end is_parameter }

pub closed_bracket : (r : List ℕ) → Closed (62 ∷ r)
unfolding starts is_parameter
closed_bracket r = record { clear = clear_close r; no_tail = refl; no_parameter = escaped_stop is_parameter refl (escape_not 62 r refl) }

pub tail_le : {s : List ℕ} {u : UriParts} → Uri s u → length (tail_text u) < length s
tail_le {s} {u} d = let k = cut d in omega (arith, front_some k.is_front, ap length k.made ∙ length-append k.front (tail_text u))

-- ---- URI: all of a text

-- what `uri` finds in a URI: its size, its kind, how long its user is and where its tail begins
pub uri_found : {s : List ℕ} {u : UriParts} → Uri s u → uri s ≡ found u (length s - length (tail_text u)) (length (tail_text u))
uri_found {s} d = rw append-nil at (uri_before d [] closed_end)

pub uri_complete : {s : List ℕ} {u : UriParts} → Uri s u → is_uri s ≡ true
unfolding is_uri
uri_complete {s} {u} d =
    let l : length s - length (tail_text u) + length (tail_text u) ≡ length s = omega (arith, tail_le d) in
    rw (uri_found d, l, some_no (length s) (omega (arith, tail_le d))) (eq-eqb (length s) (length s) refl)

pub uri_sound : (s : List ℕ) → is_uri s ≡ true → (u : UriParts) × Uri s u
unfolding is_uri
uri_sound s e =
    let n : ((uri s).size ≡ 0 → ⊥) = eqb-false (uri s).size 0 (not-true _ (and_left _ _ e)) in
    go s (uri s) (uri_view s) n (eqb-true _ (length s) (and_right (not (eqb (uri s).size 0)) _ e))
  where
    all_of_it : (s r : List ℕ) → length s ≡ length (s ++ r) → r ≡ []
    all_of_it s [] e = refl
    all_of_it s (b ∷ r) e = absurd (omega (arith, length-append s (b ∷ r)))

    go : (s : List ℕ) (p : UriAt) → UriView s p → (p.size ≡ 0 → ⊥) → p.size ≡ length s → (u : UriParts) × Uri s u
    go _ _ (uri_here {f} {t} {u} d e r) l q =
        let k : r ≡ [] = all_of_it (f ++ t) r (rw (length-append f t, append_assoc f t r) q) in
        (with_tail u t, rw (k, append-nil) (join d e))
    go s _ without_uri l q = absurd (l refl)
