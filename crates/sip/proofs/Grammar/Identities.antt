-- P-Asserted-Identity: an identity is read at the front of a text, with what may follow it there, so that two parted by a comma are both read.
use mathlib.Core.Path.{◌≡◌, refl, ◌∙◌, sym}
use mathlib.Core.Bool.{Bool, true, false, not, cond, ◌&&◌}
use mathlib.Core.List.{List, [], ◌∷◌, ◌++◌, append_assoc, append-nil, map}
use Prim.Native.Nat.{ℕ, ◌+◌, ◌≤◌}
use native.Mathlib.Omega.{arith}
use lib.Dec.{eqb}
use lib.ListN.{length, drop, length-append}
use lib.Seq.{drop-append_seam, drop-append-add, drop-drop}
use borrow.Author.Tests.{eq-eqb, ne_eqb}
use Rattle.octets.specs.Classes.{is_blank}
use Rattle.sip.specs.declared.AddressAt.{AddressAt}
use Rattle.sip.specs.declared.IdentityAt.{IdentityAt}
use Rattle.sip.specs.Values.{address, sign, is_global, person_size, person, no_identity, identity, after, identities, schemes, number_in}
use Rattle.sip.specs.Values.{numbers_in, allowed, is_asserted}
use Rattle.sip.specs.Grammar.{Separator, quoted_string, UriParts, sip_parts, tel_parts, is_tel_uri, person_of, Words, last_word, word_and}
use Rattle.sip.specs.Grammar.{no_name, quoted_name, words_name, Address, name_addr, addr_spec, Identity, identity_of, Identities}
use Rattle.sip.specs.Grammar.{one_identity, two_identities, Allowed, none_asserted, one_asserted, sip_and_tel, tel_and_sip}
use Rattle.sip.specs.GrammarPromises.{FoundIn}
use Rattle.sip.proofs.Identities.{comma, Found, nothing_found, one_found, two_found, found_in_value, asserted_allowed}
use Rattle.sip.proofs.Tests.{never}
use Rattle.sip.proofs.Grammar.Bytes.{Ends, some_no, stop}
use Rattle.sip.proofs.Grammar.Separators.{SignView, sign_exact, sign_some, sign_view, signed, token_no_blank, unsigned}
use Rattle.sip.proofs.Grammar.Numbers.{global_complete, global_sound}
use Rattle.sip.proofs.Grammar.Schemes.{Clear}
use Rattle.sip.proofs.Grammar.Uris.{Begins, begins}
use Rattle.sip.proofs.Grammar.Follows.{address_no_at, clear_end, comma_clear}
use Rattle.sip.proofs.Grammar.Addresses.{AddressFound, AddressView, address_here, address_of, address_some, address_view, without_address}

-- ---- an address begins with no blank

words_no_blank : {w : List ℕ} → Words w → (r : List ℕ) → Ends is_blank (w ++ r)
words_no_blank (last_word {t} h) r = token_no_blank t r h
words_no_blank (word_and {t} {b} {s} h e l d) r = rw (append_assoc t (b ++ s) r) (token_no_blank t ((b ++ s) ++ r) h)

address_no_blank : {x : List ℕ} {u : UriParts} → Address x u → Ends is_blank x
unfolding is_blank
address_no_blank (name_addr no_name us) = stop refl
address_no_blank (name_addr (quoted_name (quoted_string d) e) us) = stop refl
address_no_blank (name_addr {s = s} (words_name {w} {b} d e) us) =
    let r : List ℕ = 60 ∷ (s ++ (62 ∷ [])) in
    rw (append_assoc w b r) (words_no_blank d (b ++ r))
address_no_blank (addr_spec {s} us e) =
    let b : Begins s = rw append-nil at (begins us []) in
    rw b.made (token_no_blank b.name (58 ∷ b.others) b.is_token_lem)

-- ---- an identity at the front of a text

-- what is read of the identity x with a URI of these parts, at the front of s
record IdentityFound (s x : List ℕ) (u : UriParts) (i : IdentityAt) : Type 0 where
  size_is : i.size ≡ length x
  tel_is : i.tel ≡ is_tel_uri u
  number_is : number_in s i ≡ person_of u

person_in : {s x : List ℕ} {u : UriParts} {a : AddressAt} → AddressFound s x u a → person a.uri (drop a.at s) ≡ person_of u
unfolding person
person_in {s} {a = a} f = rw (f.person_long, drop-drop 4 a.at s) f.person_there

identity_found : {x : List ℕ} {u : UriParts} → Identity x u → (r : List ℕ) → Clear r → IdentityFound (x ++ r) x u (identity (x ++ r))
unfolding identity
identity_found (identity_of {s = x} {u} d g) r c =
    let f = address_of d r c in
    let n : number_in (x ++ r) (record { size = length x; tel = is_tel_uri u; start = (address (x ++ r)).at + 4; len = length (person_of u) }) ≡ person_of u
    = f.person_there in
    rw (f.size_is, some_no (length x) (address_some d), person_in f, global_complete g, f.person_long, f.tel_is)
    (record { size_is = refl; tel_is = refl; number_is = n })

data IdentityView : List ℕ → IdentityAt → Type 0 where
  identity_here : {x : List ℕ} {u : UriParts} {i : IdentityAt} → Identity x u → (r : List ℕ) → i.size ≡ length x → IdentityView (x ++ r) i
  without_identity : {s : List ℕ} {i : IdentityAt} → i.size ≡ 0 → IdentityView s i

identity_view : (s : List ℕ) → IdentityView s (identity s)
unfolding identity
identity_view s = go s (address s) (address_view s)
  where
    at : {x : List ℕ} {u : UriParts} → Address x u → (r : List ℕ) (i : IdentityAt) → i.size ≡ length x → (t : Bool) → is_global (person_of u) ≡ t
        → IdentityView (x ++ r) (cond t i no_identity)
    at {u = u} d r i k true e = identity_here (identity_of d (global_sound (person_of u) e)) r k
    at d r i k false e = without_identity refl

    go : (s : List ℕ) (a : AddressAt) → AddressView s a
        → IdentityView s (cond (not (eqb a.size 0) && is_global (person a.uri (drop a.at s)))
        (record { size = a.size; tel = a.uri.tel; start = a.at + 4; len = person_size a.uri }) no_identity)
    go _ a (address_here {x} {u} d r f) =
        let i : IdentityAt = record { size = length x; tel = a.uri.tel; start = a.at + 4; len = person_size a.uri } in
        rw (f.size_is, some_no (length x) (address_some d), person_in f) (at d r i refl (is_global (person_of u)) refl)
    go s a (without_address k) = rw k (without_identity refl)

identity_some : {x : List ℕ} {u : UriParts} → Identity x u → 1 ≤ length x
identity_some (identity_of d g) = address_some d

-- an identity and nothing after it
whole_found : {s : List ℕ} {u : UriParts} → Identity s u → IdentityFound s s u (identity s)
whole_found d = rw append-nil at (identity_found d [] clear_end)

whole_there : (v : List ℕ) → ((identity v).size ≡ 0 → ⊥) → (identity v).size ≡ length v → (u : UriParts) × Identity v u
whole_there v n q = go v (identity v) (identity_view v) n q
  where
    go : (v : List ℕ) (i : IdentityAt) → IdentityView v i → (i.size ≡ 0 → ⊥) → i.size ≡ length v → (u : UriParts) × Identity v u
    go _ i (identity_here {x} {u} d [] k) n q = (u, rw append-nil d)
    go _ i (identity_here {x} {u} d (b ∷ r) k) n q = absurd (omega (arith, length-append x (b ∷ r)))
    go v i (without_identity k) n q = absurd (n k)

-- ---- the identities of a value are read

one_read : {s : List ℕ} {u : UriParts} → Identity s u → identities s ≡ identity s ∷ []
unfolding identities
one_read {s} d = rw ((whole_found d).size_is, some_no (length s) (identity_some d), eq-eqb (length s) (length s) refl)

-- the first of two
first_found : {s c t : List ℕ} {u w : UriParts} → Identity s u → Separator 44 c → Identity t w
    → IdentityFound (s ++ (c ++ t)) s u (identity (s ++ (c ++ t)))
first_found {c = c} {t} d sc (identity_of e g) = identity_found d (c ++ t) (comma_clear sc t (address_no_at e))

comma_read : {c t : List ℕ} {w : UriParts} → Separator 44 c → Identity t w → sign 44 (c ++ t) ≡ length c
unfolding is_blank
comma_read sc (identity_of e g) = sign_exact 44 refl sc (address_no_blank e)

past_both : (s c t : List ℕ) → drop (length s + length c) (s ++ (c ++ t)) ≡ t
past_both s c t = drop-append-add s (c ++ t) (length c) ∙ drop-append_seam c t

two_read : {s c t : List ℕ} {u w : UriParts} → Identity s u → Separator 44 c → Identity t w
    → identities (s ++ (c ++ t)) ≡ identity (s ++ (c ++ t)) ∷ after (length s + length c) (identity t) ∷ []
unfolding identities
two_read {s} {c} {t} d sc e =
    let v : List ℕ = s ++ (c ++ t) in
    let k : length s + length c + length t ≡ length v = simp length-append (omega arith) in
    let more : eqb (length s) (length v) ≡ false = ne_eqb (length s) (length v) (λ q. omega (arith, k, sign_some sc)) in
    rw (
      (first_found d sc e).size_is,
      some_no (length s) (identity_some d),
      more,
      drop-append_seam s (c ++ t),
      comma_read sc e,
      past_both s c t,
      some_no (length c) (sign_some sc),
      (whole_found e).size_is,
      some_no (length t) (identity_some e),
      eq-eqb (length s + length c + length t) (length v) k,
    )

pub identities_in : {v : List ℕ} {us : List UriParts} → Identities v us → FoundIn v us
unfolding schemes numbers_in
identities_in (one_identity d) =
    let f = whole_found d in
    record { schemes_are = rw (one_read d, f.tel_is); numbers_are = rw (one_read d, f.number_is) }
identities_in (two_identities {s} {c} {t} {w = w} d sc e) =
    let f = first_found d sc e in
    let g = whole_found e in
    let v : List ℕ = s ++ (c ++ t) in
    let n : ℕ = length s + length c in
    let k : number_in v (after n (identity t)) ≡ person_of w = rw (← drop-drop (identity t).start n v, past_both s c t) g.number_is in
    record { schemes_are = rw (two_read d sc e, f.tel_is, g.tel_is); numbers_are = rw (two_read d sc e, f.number_is, k) }

-- ---- what is read is made so

-- a comma and an identity
data SecondView : List ℕ → Type 0 where
  second_here : {c t : List ℕ} {w : UriParts} → Separator 44 c → Identity t w → SecondView (c ++ t)

second_view : (r : List ℕ) (c : ℕ) → SignView 44 r c → (c ≡ 0 → ⊥) → ((identity (drop c r)).size ≡ 0 → ⊥)
    → c + (identity (drop c r)).size ≡ length r → SecondView r
second_view _ _ (signed {c} {r = t} sc e) n m q =
    let x : ((identity t).size ≡ 0 → ⊥) = rw (drop-append_seam c t) at m in
    let y : length c + (identity t).size ≡ length (c ++ t) = rw (drop-append_seam c t) at q in
    second_here sc (whole_there t x (omega (arith, y, length-append c t))).1
second_view _ _ unsigned n m q = absurd (n refl)

and_second : {x : List ℕ} {u : UriParts} → Identity x u → (r : List ℕ) → SecondView r → (us : List UriParts) × Identities (x ++ r) us
and_second {u = u} d _ (second_here {w = w} sc e) = (u ∷ w ∷ [], two_identities d sc e)

both_there : (v : List ℕ) (a : IdentityAt) → IdentityView v a → (c : ℕ) → SignView 44 (drop a.size v) c → (a.size ≡ 0 → ⊥) → (c ≡ 0 → ⊥)
    → ((identity (drop (a.size + c) v)).size ≡ 0 → ⊥) → a.size + c + (identity (drop (a.size + c) v)).size ≡ length v
    → (us : List UriParts) × Identities v us
both_there _ a (identity_here {x} {u} d r k) c s n m l q =
    let s' : SignView 44 r c = rw (k, drop-append_seam x r) at s in
    let l' : ((identity (drop c r)).size ≡ 0 → ⊥) = rw (k, drop-append-add x r c) at l in
    let q' : length x + c + (identity (drop c r)).size ≡ length (x ++ r) = rw (k, drop-append-add x r c) at q in
    and_second d r (second_view r c s' m l' (omega (arith, q', length-append x r)))
both_there v a (without_identity k) c s n m l q = absurd (n k)

-- the identities that make up a value, or none
data IdentitiesView (v : List ℕ) : List IdentityAt → Type 0 where
  there : {us : List UriParts} {is : List IdentityAt} → Identities v us → IdentitiesView v is
  not_there : IdentitiesView v []

view_of : (v : List ℕ) {is : List IdentityAt} → Found v is → IdentitiesView v is
view_of v nothing_found = not_there
view_of v (one_found n q) = there (one_identity (whole_there v n q).1)
view_of v (two_found n m l q) = there (both_there v (identity v) (identity_view v) (comma v) (sign_view 44 (drop (identity v).size v)) n m l q).1

identities_view : (v : List ℕ) → IdentitiesView v (identities v)
identities_view v = view_of v (found_in_value v)

-- ---- which are allowed

pub allowed_sound : (us : List UriParts) → allowed (map is_tel_uri us) ≡ true → Allowed us
unfolding allowed
allowed_sound [] e = none_asserted
allowed_sound (u ∷ []) e = one_asserted u
allowed_sound (sip_parts u h d t ∷ sip_parts u' h' d' t' ∷ []) e = never (cc)
allowed_sound (sip_parts u h d t ∷ tel_parts n t' ∷ []) e = sip_and_tel u h d t n t'
allowed_sound (tel_parts n t ∷ sip_parts u h d t' ∷ []) e = tel_and_sip n t u h d t'
allowed_sound (tel_parts n t ∷ tel_parts n' t' ∷ []) e = never (cc)
allowed_sound (u ∷ w ∷ x ∷ us) e = never (cc)

pub allowed_complete : {us : List UriParts} → Allowed us → allowed (map is_tel_uri us) ≡ true
unfolding allowed
allowed_complete none_asserted = refl
allowed_complete (one_asserted u) = refl
allowed_complete (sip_and_tel u h d t n t') = refl
allowed_complete (tel_and_sip n t u h d t') = refl

pub asserted_complete : {v : List ℕ} {us : List UriParts} → Identities v us → Allowed us → is_asserted v ≡ true
unfolding is_asserted
asserted_complete (one_identity d) a = rw (identities_in (one_identity d)).schemes_are (allowed_complete a)
asserted_complete (two_identities d sc e) a = rw (identities_in (two_identities d sc e)).schemes_are (allowed_complete a)

none_refused : (v : List ℕ) → identities v ≡ [] → is_asserted v ≡ false
unfolding is_asserted schemes
none_refused v q = rw q

pub asserted_sound : (v : List ℕ) → is_asserted v ≡ true → (us : List UriParts) × Identities v us × Allowed us
asserted_sound v e = go (identities v) refl (identities_view v)
  where
    go : (is : List IdentityAt) → identities v ≡ is → IdentitiesView v is → (us : List UriParts) × Identities v us × Allowed us
    go is q (there {us} d) = (us, d, allowed_sound us (rw (identities_in d).schemes_are at (asserted_allowed v e)))
    go _ q not_there = let z : true ≡ false = sym e ∙ none_refused v q in never (cc)
