-- From and To: what is read is what the grammar derives, and what is found is the derivation's part.
use mathlib.Core.Path.{◌≡◌, refl, ◌∙◌, sym, ap}
use mathlib.Core.Bool.{Bool, true, false, not, cond, ◌&&◌}
use mathlib.Core.List.{List, [], ◌∷◌, ◌++◌}
use Prim.Native.Nat.{ℕ, ◌+◌}
use native.Mathlib.Omega.{arith}
use lib.Dec.{eqb}
use lib.ListN.{length, take, drop, length-append}
use lib.Seq.{drop-append_seam, drop-drop}
use borrow.Author.Tests.{eq-eqb, eqb-true, eqb-false, not-true}
use Rattle.sip.specs.declared.AddressAt.{AddressAt}
use Rattle.sip.specs.declared.ParamsAt.{ParamsAt}
use Rattle.sip.specs.declared.PartyAt.{PartyAt}
use Rattle.sip.specs.Values.{params, address, no_params, no_party, party, is_to, is_tagged, is_from, tag_of}
use Rattle.sip.specs.Grammar.{UriParts, Party, party_of}
use Rattle.sip.proofs.Tests.{never, and_left, and_right}
use Rattle.sip.proofs.Grammar.Bytes.{some_no}
use Rattle.sip.proofs.Grammar.Params.{TagsFound, found_none, found_one, params_complete, params_sound}
use Rattle.sip.proofs.Grammar.Follows.{params_clear}
use Rattle.sip.proofs.Grammar.Addresses.{AddressView, address_here, address_of, address_some, address_view, without_address}

-- the value of From or To: its URI and its tags
pub record PartyThere (v : List ℕ) : Type 0 where
  pub uri : UriParts
  pub tags : List (List ℕ)
  pub derived : Party v uri tags

good_test : (t : Bool) (n l : ℕ) → (cond t (record { good = true; tag = n; len = l }) no_party).good ≡ true → t ≡ true
good_test true n l e = refl
good_test false n l e = e

pub to_sound : (v : List ℕ) → is_to v ≡ true → PartyThere v
unfolding is_to party
to_sound v e =
    let p = params no_params 0 (drop (address v).size v) in
    let t : (not (eqb (address v).size 0) && eqb ((address v).size + p.size) (length v)) ≡ true = good_test _ ((address v).size + p.tag) p.len e in
    go v (address v) (address_view v) (eqb-false (address v).size 0 (not-true _ (and_left _ _ t))) (eqb-true _ (length v) (and_right (not (eqb (address v).size 0)) _ t))
  where
    go : (v : List ℕ) (a : AddressAt) → AddressView v a → (a.size ≡ 0 → ⊥) → a.size + (params no_params 0 (drop a.size v)).size ≡ length v → PartyThere v
    go _ a (address_here {x} {u} d r f) n q =
        let w : length x + (params no_params 0 r).size ≡ length (x ++ r) = rw (f.size_is, drop-append_seam x r) at q in
        let m : (params no_params 0 r).size ≡ 0 + length r = omega (arith, length-append x r) in
        let i = params_sound no_params r m in
        record { uri = u; tags = i.tags; derived = party_of d i.derived (omega (arith, i.once)) }
    go v a (without_address k) n q = absurd (n k)

record PartyFound (v : List ℕ) (ts : List (List ℕ)) : Type 0 where
  at : ℕ
  others : List ℕ
  got : ParamsAt
  is_party : party v ≡ record { good = true; tag = at + got.tag; len = got.len }
  place : drop at v ≡ others
  tags : TagsFound no_params got others ts

party_found : {v : List ℕ} {u : UriParts} {ts : List (List ℕ)} → Party v u ts → PartyFound v ts
unfolding party
party_found (party_of {a} {p} {u} {ts} d ps l) =
    let f = params_complete ps no_params (omega arith) in
    let r : ParamsAt = params no_params 0 p in
    let n : (address (a ++ p)).size ≡ length a = (address_of d p (params_clear ps)).size_is in
    let w : length a + r.size ≡ length (a ++ p) = omega (arith, f.whole, length-append a p) in
    record {
      at = length a;
      others = p;
      got = r;
      is_party = rw (n, drop-append_seam a p, some_no (length a) (address_some d), eq-eqb (length a + r.size) (length (a ++ p)) w);
      place = drop-append_seam a p;
      tags = f.tags;
    }

pub to_complete : {v : List ℕ} {u : UriParts} {ts : List (List ℕ)} → Party v u ts → is_to v ≡ true
unfolding is_to
to_complete d = ap (λ (p : PartyAt). p.good) (party_found d).is_party

-- the tags that are found: none, or the one of the derivation
abbrev pub found_tags : List ℕ → List (List ℕ)
found_tags v = cond (is_tagged v) (tag_of v ∷ []) []

tags_at : (at : ℕ) (v others : List ℕ) → drop at v ≡ others → (ts : List (List ℕ)) (r : ParamsAt) → TagsFound no_params r others ts
    → cond (not (eqb r.len 0)) (take r.len (drop (at + r.tag) v) ∷ []) [] ≡ ts
tags_at at v others h _ r (found_none x y) = rw y
tags_at at v others h _ r (found_one {t} k x y l z) =
    let n : r.tag ≡ k = omega arith in
    let w : drop (at + r.tag) v ≡ drop k others = sym (drop-drop r.tag at v) ∙ rw (h, n) in
    let e : eqb (length t) 0 ≡ false = some_no (length t) l in
    rw (y, e, w, z)

pub tags_found : {v : List ℕ} {u : UriParts} {ts : List (List ℕ)} → Party v u ts → found_tags v ≡ ts
unfolding is_tagged tag_of
tags_found {v} {u} {ts} d = let f = party_found d in rw f.is_party (tags_at f.at v f.others f.place ts f.got f.tags)

one_tag : (t : Bool) (x y : List ℕ) → ◌≡◌ {A = List (List ℕ)} (cond t (x ∷ []) []) (y ∷ []) → (t ≡ true) × (x ≡ y)
one_tag true x y e = (refl, cc)
one_tag false x y e = never (cc)

-- "From needs it": the grammar has one tag
pub from_complete : {v t : List ℕ} {u : UriParts} → Party v u (t ∷ []) → (is_from v ≡ true) × (tag_of v ≡ t)
unfolding is_from
from_complete {v} {t} d =
    let (x, y) = one_tag (is_tagged v) (tag_of v) t (tags_found d) in
    (rw (to_complete d, x), y)

with_tag_there : (v : List ℕ) → is_tagged v ≡ true → PartyThere v → (u : UriParts) × Party v u (tag_of v ∷ [])
with_tag_there v x p =
    let w : tag_of v ∷ [] ≡ p.tags = rw x at (tags_found p.derived) in
    (p.uri, rw w p.derived)

-- a malformed value has no tag
tagged_test : (t : Bool) (n l : ℕ) → not (eqb (cond t (record { good = true; tag = n; len = l }) no_party).len 0) ≡ true
    → (cond t (record { good = true; tag = n; len = l }) no_party).good ≡ true
tagged_test true n l e = refl
tagged_test false n l e = e

tagged_good : (v : List ℕ) → is_tagged v ≡ true → is_to v ≡ true
unfolding is_tagged is_to party
tagged_good v e =
    let p = params no_params 0 (drop (address v).size v) in
    tagged_test (not (eqb (address v).size 0) && eqb ((address v).size + p.size) (length v)) ((address v).size + p.tag) p.len e

pub tagged_sound : (v : List ℕ) → is_tagged v ≡ true → (u : UriParts) × Party v u (tag_of v ∷ [])
tagged_sound v e = with_tag_there v e (to_sound v (tagged_good v e))

pub tagged_complete : {v t : List ℕ} {u : UriParts} → Party v u (t ∷ []) → is_tagged v ≡ true
tagged_complete {v} {t} d = (one_tag (is_tagged v) (tag_of v) t (tags_found d)).0

pub from_sound : (v : List ℕ) → is_from v ≡ true → (u : UriParts) × Party v u (tag_of v ∷ [])
unfolding is_from
from_sound v e = tagged_sound v (and_right (is_to v) _ e)
