-- Which identities a message asserts, by the grammar and as `screened` takes them: field by field, with those of the fields before.
use mathlib.Core.Path.{◌≡◌, refl, sym, ap, ◌∙◌}
use mathlib.Core.Bool.{Bool, true, false, cond}
use mathlib.Core.List.{List, [], ◌∷◌, ◌++◌, map, append_assoc, append-nil}
use mathlib.Core.Option.{Option}
use Prim.Native.Nat.{ℕ}
use lib.Dec.{eqb}
use borrow.Author.Tests.{eqb-true, eqb-false, ne_eqb}
use Rattle.sip.specs.declared.Column.{Column}
use Rattle.sip.specs.Lines.{Field, canonical}
use Rattle.sip.specs.Profile.{number_of, ignored}
use Rattle.sip.specs.Values.{schemes, allowed, is_asserted}
use Rattle.sip.specs.Refusals.{Entry, kept, well_formed, brought, first_malformed}
use Rattle.sip.specs.Grammar.{UriParts, is_tel_uri}
use Rattle.sip.specs.Asserted.{Asserting, nothing_asserted, other_field, asserting_field, IdentitiesAllowed}
use Rattle.sip.specs.Promises.{only}
use Rattle.sip.proofs.Tests.{never}
use Rattle.sip.proofs.Accepted.{first_formed}
use Rattle.sip.proofs.Grammar.Promises.{asserted_read, identities_found, allowed_read}

abbrev entry : ℕ → List ℕ → Entry
entry n v = record { number = n; value = v }

-- ---- some of the identities that are allowed together are allowed

pub front_allowed : (xs ys : List Bool) → allowed (xs ++ ys) ≡ true → allowed xs ≡ true
unfolding allowed
front_allowed [] ys e = refl
front_allowed (a ∷ []) ys e = refl
front_allowed (a ∷ b ∷ []) [] e = e
front_allowed (a ∷ b ∷ []) (c ∷ ys) e = never (cc)
front_allowed (a ∷ b ∷ c ∷ xs) ys e = e

back_allowed : (xs ys : List Bool) → allowed (xs ++ ys) ≡ true → allowed ys ≡ true
unfolding allowed
back_allowed [] ys e = e
back_allowed (a ∷ []) [] e = refl
back_allowed (a ∷ []) (b ∷ []) e = refl
back_allowed (a ∷ []) (b ∷ c ∷ ys) e = never (cc)
back_allowed (a ∷ b ∷ []) [] e = refl
back_allowed (a ∷ b ∷ []) (c ∷ ys) e = never (cc)
back_allowed (a ∷ b ∷ c ∷ xs) ys e = never (cc)

map_append : (us ws : List UriParts) → map is_tel_uri (us ++ ws) ≡ map is_tel_uri us ++ map is_tel_uri ws
map_append [] ws = refl
map_append (u ∷ us) ws = ap (λ (l : List Bool). is_tel_uri u ∷ l) (map_append us ws)

-- ---- a field, where P-Asserted-Identity is not ignored

-- what a field brings, by its number
pub none_brought : (e : Entry) → eqb e.number 15 ≡ false → brought e ≡ []
unfolding brought
none_brought e n = rw n

pub only_one : (e : Entry) (es : List Entry) → eqb e.number 15 ≡ true → only 15 (e ∷ es) ≡ e ∷ only 15 es
unfolding only
only_one e es n = rw n

pub only_none : (e : Entry) (es : List Entry) → eqb e.number 15 ≡ false → only 15 (e ∷ es) ≡ only 15 es
unfolding only
only_none e es n = rw n

brings : (v : List ℕ) → brought (entry 15 v) ≡ schemes v
unfolding brought
brings v = refl

formed_identity : (method v : List ℕ) → well_formed method 15 v ≡ is_asserted v
unfolding well_formed
formed_identity method v = refl

module _ (c : Option Column) (i : ignored c 15 ≡ false) (f : Field) (fs : List Field) where
  only_here : number_of f.name ≡ 15 → only 15 (kept c (f ∷ fs)) ≡ entry 15 (canonical f.value) ∷ only 15 (kept c fs)
  unfolding kept only
  only_here n = rw (n, i)

  only_other : (number_of f.name ≡ 15 → ⊥) → only 15 (kept c (f ∷ fs)) ≡ only 15 (kept c fs)
  unfolding kept only
  only_other n = go (ignored c (number_of f.name))
    where
      go : (t : Bool)
          → only 15 (cond t (kept c fs) (entry (number_of f.name) (canonical f.value) ∷ kept c fs)) ≡ only 15 (kept c fs)
      go true = refl
      go false = rw (ne_eqb (number_of f.name) 15 n)

-- ---- identities that the grammar has allowed are not malformed

module _ (method : List ℕ) (c : Option Column) (i : ignored c 15 ≡ false) where
  step_formed : (earlier : List Bool) (v : List ℕ) (es : List Entry) → well_formed method 15 v ≡ true → allowed (earlier ++ schemes v) ≡ true
      → first_malformed method (earlier ++ schemes v) es ≡ 0 → first_malformed method earlier (entry 15 v ∷ es) ≡ 0
  unfolding first_malformed
  step_formed earlier v es w a h = rw (brings v, w, a) h

  asserting_formed : {fs : List Field} {us : List UriParts} → Asserting fs us → (earlier : List Bool) → allowed (earlier ++ map is_tel_uri us) ≡ true
      → first_malformed method earlier (only 15 (kept c fs)) ≡ 0
  unfolding first_malformed only kept
  asserting_formed nothing_asserted earlier a = refl
  asserting_formed (other_field {f = f} {fs = fs} n others) earlier a = rw (only_other c i f fs n) (asserting_formed others earlier a)
  asserting_formed (asserting_field {f = f} {fs = fs} {ws = ws} {us = us} n d others) earlier a =
      let v = canonical f.value in
      let s : schemes v ≡ map is_tel_uri ws = (identities_found v ws d).schemes_are in
      let all : allowed ((earlier ++ map is_tel_uri ws) ++ map is_tel_uri us) ≡ true
      = rw (map_append ws us, ← append_assoc earlier (map is_tel_uri ws) (map is_tel_uri us)) at a in
      let here : allowed (earlier ++ map is_tel_uri ws) ≡ true = front_allowed (earlier ++ map is_tel_uri ws) (map is_tel_uri us) all in
      let own : is_asserted v ≡ true = (asserted_read v).1 (ws, d, (allowed_read ws).0 (back_allowed earlier (map is_tel_uri ws) here)) in
      rw (only_here c i f fs n)
      (step_formed earlier v (only 15 (kept c fs)) (formed_identity method v ∙ own) (rw s here)
      (rw s (asserting_formed others (earlier ++ map is_tel_uri ws) all)))

  pub allowed_formed : (fs : List Field) → IdentitiesAllowed fs → first_malformed method [] (only 15 (kept c fs)) ≡ 0
  allowed_formed fs p = asserting_formed p.asserting [] ((allowed_read p.uris).1 p.are_allowed)

  -- ---- and identities that are not malformed the grammar has allowed

  record Found (earlier : List Bool) (fs : List Field) : Type 0 where
    uris : List UriParts
    asserting : Asserting fs uris
    are_allowed : allowed (earlier ++ map is_tel_uri uris) ≡ true

  identities_there : (earlier : List Bool) (fs : List Field) → allowed earlier ≡ true → first_malformed method earlier (only 15 (kept c fs)) ≡ 0
      → Found earlier fs
  identities_there earlier [] a h = record { uris = []; asserting = nothing_asserted; are_allowed = rw (append-nil earlier) a }
  identities_there earlier (f ∷ fs) a h = go (eqb (number_of f.name) 15) refl (λ ws. identities_there ws fs)
    where
      v : List ℕ
      v = canonical f.value

      go : (t : Bool) → eqb (number_of f.name) 15 ≡ t
          → ((ws : List Bool) → allowed ws ≡ true → first_malformed method ws (only 15 (kept c fs)) ≡ 0 → Found ws fs) → Found earlier (f ∷ fs)
      go false p ih =
          let n = eqb-false (number_of f.name) 15 p in
          let later = ih earlier a (rw (only_other c i f fs n) at h) in
          record { uris = later.uris; asserting = other_field n later.asserting; are_allowed = later.are_allowed }
      go true p ih =
          let n = eqb-true (number_of f.name) 15 p in
          let g = first_formed method earlier (entry 15 v) (only 15 (kept c fs)) a (rw (only_here c i f fs n) at h) in
          let (ws, d, _) = (asserted_read v).0 (sym (formed_identity method v) ∙ g.is_formed) in
          let s : brought (entry 15 v) ≡ map is_tel_uri ws = brings v ∙ (identities_found v ws d).schemes_are in
          let later = ih (earlier ++ map is_tel_uri ws) (rw s at g.is_allowed) (rw s at g.others) in
          record {
            uris = ws ++ later.uris;
            asserting = asserting_field {us = later.uris} n d later.asserting;
            are_allowed = rw (map_append ws later.uris, ← append_assoc earlier (map is_tel_uri ws) (map is_tel_uri later.uris)) later.are_allowed;
          }

  pub formed_allowed : (fs : List Field) → first_malformed method [] (only 15 (kept c fs)) ≡ 0 → IdentitiesAllowed fs
  unfolding allowed
  formed_allowed fs h =
      let x = identities_there [] fs refl h in
      record { uris = x.uris; asserting = x.asserting; are_allowed = (allowed_read x.uris).0 x.are_allowed }
