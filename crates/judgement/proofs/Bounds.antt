-- How large what is found in a value can be.
use mathlib.Core.Path.{◌≡◌, refl}
use mathlib.Core.Bool.{Bool, true, false, not, cond, ◌&&◌, ◌||◌}
use mathlib.Core.List.{List, [], ◌∷◌}
use mathlib.Core.Option.{Option, none, some}
use Prim.Native.Nat.{ℕ, zero, suc, ◌+◌, ◌-◌, ◌≤◌}
use native.Mathlib.Omega.{arith}
use lib.Dec.{eqb}
use lib.ListN.{length, take, drop}
use borrow.Author.Tests.{eqb-true}
use Rattle.octets.specs.Classes.{text, is_token}
use Rattle.octets.specs.Scans.{run, same_text}
use Rattle.sip.specs.declared.ParamAt.{ParamAt}
use Rattle.sip.specs.declared.ParamsAt.{ParamsAt}
use Rattle.sip.specs.declared.PartyAt.{PartyAt}
use Rattle.sip.specs.Values.{is_empty, address, no_param, sign, param_value, param_rest, param, no_params, with_param, stops, params, no_party, party}
use Rattle.sip.specs.Values.{with_token, tokens, list_or, first_place, is_restricting, is_lacking}
use Rattle.sip.proofs.Tests.{and_right}
use Rattle.values.specs.Answers.{ListAt, privacy_at, require_at}
use Rattle.judgement.specs.declared.Tally.{Tally}
use Rattle.judgement.specs.Tallies.{finding, noted}

-- ---- token lists

with_length : (t : List ℕ) (o : Option (List (List ℕ))) → length (list_or (with_token t o)) ≤ suc (length (list_or o))
with_length t none = omega arith
with_length t (some ts) = omega arith

count_le : (sep k : ℕ) (s : List ℕ) → length (list_or (tokens sep k s)) ≤ length s
unfolding tokens
count_le sep k [] = omega arith
count_le sep (suc k) (b ∷ s) = omega (arith, count_le sep k s)
count_le sep zero (b ∷ s) =
    go (eqb n 0) (is_empty (drop n (b ∷ s))) (eqb e 0) (tokens sep (n + e - 1) s) (count_le sep (n + e - 1) s)
  where
    n : ℕ
    n = run is_token (b ∷ s)

    e : ℕ
    e = sign sep (drop n (b ∷ s))

    go : (x y z : Bool) (o : Option (List (List ℕ))) → length (list_or o) ≤ length s
        → length (list_or (cond x none (cond y (some (take n (b ∷ s) ∷ [])) (cond z none (with_token (take n (b ∷ s)) o))))) ≤ suc (length s)
    go true y z o h = omega arith
    go false true z o h = omega arith
    go false false true o h = omega arith
    go false false false o h = omega (arith, with_length (take n (b ∷ s)) o)

place_le : (p : List ℕ → Bool) (n : ℕ) (ts : List (List ℕ)) → first_place p n ts ≤ n + length ts
unfolding first_place
place_le p n [] = omega arith
place_le p n (t ∷ ts) = go (p t) (place_le p (suc n) ts)
  where
    go : (b : Bool) → first_place p (suc n) ts ≤ suc n + length ts → cond b (suc n) (first_place p (suc n) ts) ≤ n + suc (length ts)
    go true h = omega arith
    go false h = omega arith

module _ (v : List ℕ) {r : ListAt} (e : r ≡ require_at v) where
  pub tags_bound : r.count ≤ length v
  unfolding require_at
  tags_bound = rw e (count_le 44 0 v)

  pub place_bound : r.first ≤ length v
  unfolding require_at
  place_bound = rw e (omega (arith, count_le 44 0 v, place_le is_lacking 0 (list_or (tokens 44 0 v))))

pub privacy_bound : (v : List ℕ) {r : ListAt} → r ≡ privacy_at v → r.first ≤ length v
unfolding privacy_at
privacy_bound v e = rw e (omega (arith, count_le 59 0 v, place_le is_restricting 0 (list_or (tokens 59 0 v))))

-- ---- the tag of a party stands in its value

rest_within : (n : ℕ) (is_tag : Bool) (s : List ℕ) → (param_rest n is_tag s).value + (param_rest n is_tag s).len ≤ (param_rest n is_tag s).size
unfolding param_rest
rest_within n is_tag s = go (sign 61 s) (param_value is_tag (drop (sign 61 s) s)) (eqb (sign 61 s) 0) is_tag (eqb (param_value is_tag (drop (sign 61 s) s)) 0)
  where
    found : ℕ → ℕ → Bool → Bool → Bool → ParamAt
    found e l x y z =
        cond x (cond y no_param (record { size = n; tag = false; value = n; len = 0 }))
        (cond z no_param (record { size = n + e + l; tag = is_tag; value = n + e; len = l }))

    go : (e l : ℕ) (x y z : Bool) → (found e l x y z).value + (found e l x y z).len ≤ (found e l x y z).size
    go e l true true z = omega arith
    go e l true false z = omega arith
    go e l false y true = omega arith
    go e l false y false = omega arith

param_within : (s : List ℕ) → (param s).value + (param s).len ≤ (param s).size
unfolding param
param_within s = go (param_rest (c + t) is_tag after) (eqb c 0 || eqb t 0) (rest_within (c + t) is_tag after)
  where
    c : ℕ
    c = sign 59 s

    t : ℕ
    t = run is_token (drop c s)

    is_tag : Bool
    is_tag = same_text (text "tag") (take t (drop c s))

    after : List ℕ
    after = drop t (drop c s)

    go : (p : ParamAt) (b : Bool) → p.value + p.len ≤ p.size → (cond b no_param p).value + (cond b no_param p).len ≤ (cond b no_param p).size
    go p true h = omega arith
    go p false h = h

with_within : (got : ParamsAt) (p : ParamAt) → got.tag + got.len ≤ got.size → p.value + p.len ≤ p.size
    → (with_param got p).tag + (with_param got p).len ≤ (with_param got p).size
unfolding with_param
with_within got p h k = go p.tag
  where
    next : Bool → ParamsAt
    next b =
        cond b (record { size = got.size + p.size; tag = got.size + p.value; len = p.len })
        (record { size = got.size + p.size; tag = got.tag; len = got.len })

    go : (b : Bool) → (next b).tag + (next b).len ≤ (next b).size
    go true = omega arith
    go false = omega arith

params_within : (got : ParamsAt) (k : ℕ) (s : List ℕ) → got.tag + got.len ≤ got.size → (params got k s).tag + (params got k s).len ≤ (params got k s).size
unfolding params
params_within got k [] h = h
params_within got (suc k) (b ∷ s) h = params_within got k s h
params_within got zero (b ∷ s) h =
    go (params (with_param got p) (p.size - 1) s) (stops got p)
    (params_within (with_param got p) (p.size - 1) s (with_within got p h (param_within (b ∷ s))))
  where
    p : ParamAt
    p = param (b ∷ s)

    go : (r : ParamsAt) (t : Bool) → r.tag + r.len ≤ r.size → (cond t got r).tag + (cond t got r).len ≤ (cond t got r).size
    go r true q = h
    go r false q = q

pub party_within : (v : List ℕ) → (party v).tag + (party v).len ≤ length v
unfolding party
party_within v = go (not (eqb a 0) && eqb (a + p.size) (length v)) refl
  where
    a : ℕ
    a = (address v).size

    p : ParamsAt
    p = params no_params 0 (drop a v)

    whole : Bool → PartyAt
    whole b = cond b (record { good = true; tag = a + p.tag; len = p.len }) no_party

    go : (b : Bool) → (not (eqb a 0) && eqb (a + p.size) (length v)) ≡ b → (whole b).tag + (whole b).len ≤ length v
    go true q =
        let z : a + p.size ≡ length v = eqb-true (a + p.size) (length v) (and_right (not (eqb a 0)) (eqb (a + p.size) (length v)) q) in
        omega (arith, params_within no_params 0 (drop a v) (omega arith))
    go false q = omega arith

-- one field adds no more tags than it has bytes
pub tags_grow : (method : List ℕ) (t : Tally) (n : ℕ) (v : List ℕ) → (noted t n (finding method n v)).tags ≤ t.tags + length v
unfolding noted finding require_at
tags_grow method t n v = go (eqb n 14) refl
  where
    go : (b : Bool) → eqb n 14 ≡ b → cond b (t.tags + (finding method n v).len) t.tags ≤ t.tags + length v
    go true q = rw (eqb-true n 14 q) (omega (arith, count_le 44 0 v))
    go false q = omega arith
