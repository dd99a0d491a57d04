-- The numbers of the identities of a value lie within it and hold no gap byte.
use mathlib.Core.Path.{◌≡◌, refl, ap, ◌∙◌}
use mathlib.Core.Bool.{Bool, true, false, not, cond, ◌&&◌, ◌||◌}
use mathlib.Core.List.{List, [], ◌∷◌}
use Prim.Native.Nat.{ℕ, ◌+◌, ◌≤◌, ◌<◌}
use native.Mathlib.Omega.{arith}
use lib.Dec.{eqb}
use lib.ListN.{length, take, drop, length-drop}
use lib.Seq.{drop-drop}
use borrow.Author.Tests.{eqb-true, eqb-false, ne_eqb, not-true}
use Rattle.octets.specs.Classes.{within, is_digit, is_blank, is_break, is_gap}
use Rattle.octets.specs.Scans.{run, all, starts, any}
use Rattle.octets.proofs.Runs.{whole_all}
use Rattle.sip.specs.declared.AddressAt.{AddressAt}
use Rattle.sip.specs.declared.IdentityAt.{IdentityAt}
use Rattle.sip.specs.Values.{address, person_size, person, sign, is_global, no_identity, identity, after, identities, number_in, schemes}
use Rattle.sip.specs.Values.{allowed, is_none, is_asserted}
use Rattle.sip.proofs.Tests.{and_left, and_right, range_low, byte_start, all_first, all_others}
use Rattle.sip.proofs.Addresses.{address_within}

-- ---- a number holds no gap byte

digit_no_gap : (b : ℕ) → is_digit b ≡ true → is_gap b ≡ false
unfolding is_digit is_gap is_blank is_break
digit_no_gap b e =
    let l : 48 ≤ b = range_low 48 57 b e in
    rw (ne_eqb b 32 (λ q. omega arith), ne_eqb b 9 (λ q. omega arith), ne_eqb b 13 (λ q. omega arith), ne_eqb b 10 (λ q. omega arith))

digits_no_gap : (s : List ℕ) → all is_digit s ≡ true → any is_gap s ≡ false
unfolding any
digits_no_gap [] e = refl
digits_no_gap (b ∷ s) e = rw (digit_no_gap b (all_first is_digit b s e)) (digits_no_gap s (all_others is_digit b s e))

-- a plus, and digits alone after it
pub global_digits : (s : List ℕ) → is_global s ≡ true → (starts 43 s ≡ true) × (all is_digit (drop 1 s) ≡ true)
unfolding is_global
global_digits s e =
    let n : ℕ = run is_digit (drop 1 s) in
    let a : (not (starts 48 (drop 1 s)) && (within 7 15 n && eqb (n + 1) (length s))) ≡ true = and_right (starts 43 s) _ e in
    let b : (within 7 15 n && eqb (n + 1) (length s)) ≡ true = and_right (not (starts 48 (drop 1 s))) _ a in
    let l : n + 1 ≡ length s = eqb-true (n + 1) (length s) (and_right (within 7 15 n) _ b) in
    let w : n ≡ length (drop 1 s) = omega (arith, length-drop 1 s) in
    (and_left (starts 43 s) _ e, whole_all is_digit (drop 1 s) w)

global_no_gap : (s : List ℕ) → is_global s ≡ true → any is_gap s ≡ false
unfolding any is_gap is_blank is_break
global_no_gap s e = ap (any is_gap) (byte_start 43 s (global_digits s e).0) ∙ digits_no_gap (drop 1 s) (global_digits s e).1

-- ---- the identities of a value: each has a number, in which no gap stands

pub record Stands (v : List ℕ) (i : IdentityAt) : Type 0 where
  pub within_bytes : i.start + i.len ≤ length v
  pub global : is_global (number_in v i) ≡ true

pub plain : {v : List ℕ} {i : IdentityAt} → Stands v i → any is_gap (number_in v i) ≡ false
plain {v} {i} s = global_no_gap (number_in v i) s.global

pub data AllStand (v : List ℕ) : List IdentityAt → Type 0 where
  none_stands : AllStand v []
  also_stands : {i : IdentityAt} {is : List IdentityAt} → Stands v i → AllStand v is → AllStand v (i ∷ is)

-- an identity after n bytes of the value
identity_stands : (n : ℕ) (v : List ℕ) → 0 < (identity (drop n v)).size → n + (identity (drop n v)).size ≤ length v → Stands v (after n (identity (drop n v)))
unfolding identity person
identity_stands n v = go (not (eqb a.size 0)) (is_global (person a.uri (drop a.at s))) refl refl
  where
    s : List ℕ
    s = drop n v

    a : AddressAt
    a = address s

    here : IdentityAt
    here = record { size = a.size; tel = a.uri.tel; start = a.at + 4; len = person_size a.uri }

    number_is : take (person_size a.uri) (drop (n + (a.at + 4)) v) ≡ person a.uri (drop a.at s)
    number_is = rw (← drop-drop (a.at + 4) n v, ← drop-drop 4 a.at s)

    go : (t u : Bool) → not (eqb a.size 0) ≡ t → is_global (person a.uri (drop a.at s)) ≡ u → 0 < (cond (t && u) here no_identity).size
        → n + (cond (t && u) here no_identity).size ≤ length v → Stands v (after n (cond (t && u) here no_identity))
    go false u p q h w = absurd (omega arith)
    go true false p q h w = absurd (omega arith)
    go true true p q h w =
        let some_bytes : 0 < a.size = omega (arith, eqb-false a.size 0 (not-true _ p)) in
        record {
          within_bytes = omega (arith, address_within s some_bytes);
          global = rw number_is q;
        }

-- and one that stands at its front
first_stands : (v : List ℕ) (i : IdentityAt) → Stands v (after 0 i) → Stands v i
first_stands v i s =
    let z : 0 + i.start ≡ i.start = omega arith in
    record { within_bytes = omega (arith, s.within_bytes); global = rw z at s.global }

-- what is found in a value: nothing, an identity that fills it, or two that fill it with a comma between them
abbrev pub comma : List ℕ → ℕ
comma v = sign 44 (drop (identity v).size v)

abbrev pub second : List ℕ → ℕ
second v = (identity v).size + comma v

pub data Found (v : List ℕ) : List IdentityAt → Type 0 where
  nothing_found : Found v []
  one_found : ((identity v).size ≡ 0 → ⊥) → (identity v).size ≡ length v → Found v (identity v ∷ [])
  two_found :
      ((identity v).size ≡ 0 → ⊥) → (comma v ≡ 0 → ⊥) → ((identity (drop (second v) v)).size ≡ 0 → ⊥)
      → second v + (identity (drop (second v) v)).size ≡ length v → Found v (identity v ∷ after (second v) (identity (drop (second v) v)) ∷ [])

pub found_in_value : (v : List ℕ) → Found v (identities v)
unfolding identities
found_in_value v =
    go (eqb a.size 0) (eqb a.size (length v)) (eqb (comma v) 0) (eqb b.size 0) (eqb (second v + b.size) (length v)) refl refl refl refl refl
  where
    a : IdentityAt
    a = identity v

    b : IdentityAt
    b = identity (drop (second v) v)

    go : (p q r s t : Bool) → eqb a.size 0 ≡ p → eqb a.size (length v) ≡ q → eqb (comma v) 0 ≡ r → eqb b.size 0 ≡ s
        → eqb (second v + b.size) (length v) ≡ t
        → Found v (cond p [] (cond q (a ∷ []) (cond (r || s) [] (cond t (a ∷ after (second v) b ∷ []) []))))
    go true q r s t hp hq hr hs ht = nothing_found
    go false true r s t hp hq hr hs ht = one_found (eqb-false a.size 0 hp) (eqb-true a.size (length v) hq)
    go false false true s t hp hq hr hs ht = nothing_found
    go false false false true t hp hq hr hs ht = nothing_found
    go false false false false false hp hq hr hs ht = nothing_found
    go false false false false true hp hq hr hs ht =
        two_found (eqb-false a.size 0 hp) (eqb-false (comma v) 0 hr) (eqb-false b.size 0 hs) (eqb-true (second v + b.size) (length v) ht)

all_stand : (v : List ℕ) {is : List IdentityAt} → Found v is → AllStand v is
all_stand v nothing_found = none_stands
all_stand v (one_found n q) = also_stands (first_stands v (identity v) (identity_stands 0 v (omega (arith, n)) (omega (arith, q)))) none_stands
all_stand v (two_found n m l q) =
    also_stands (first_stands v (identity v) (identity_stands 0 v (omega (arith, n)) (omega (arith, q))))
    (also_stands (identity_stands (second v) v (omega (arith, l)) (omega (arith, q))) none_stands)

pub identities_stand : (v : List ℕ) → AllStand v (identities v)
identities_stand v = all_stand v (found_in_value v)

-- those of a value that is good by itself are allowed
pub asserted_allowed : (v : List ℕ) → is_asserted v ≡ true → allowed (schemes v) ≡ true
unfolding is_asserted
asserted_allowed v e = and_right (not (is_none (schemes v))) (allowed (schemes v)) e
