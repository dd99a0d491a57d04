-- The tag of a From or To is a token, so that nothing in it is folded: by the parameters, one after the other.
use mathlib.Core.Path.{◌≡◌, refl, ap, ◌∙◌}
use mathlib.Core.Bool.{Bool, true, false, not, cond, ◌&&◌, ◌||◌}
use mathlib.Core.List.{List, [], ◌∷◌}
use Prim.Native.Nat.{ℕ, zero, suc, ◌+◌, ◌-◌}
use native.Mathlib.Omega.{arith}
use lib.Dec.{eqb}
use lib.ListN.{length, take, drop}
use lib.Seq.{drop-drop}
use borrow.Author.Tests.{eqb-true, eqb-false}
use Rattle.octets.specs.Classes.{text, within, is_token, is_gap}
use Rattle.octets.specs.Scans.{run, all, any, same_text}
use Rattle.octets.proofs.Runs.{run_all}
use Rattle.sip.specs.declared.ParamAt.{ParamAt}
use Rattle.sip.specs.declared.ParamsAt.{ParamsAt}
use Rattle.sip.specs.Values.{address, sign, param_value, param_rest, no_param, param, no_params, with_param, stops, params, no_party, party, tag_of}
use Rattle.sip.proofs.Tests.{never, all_first, all_others}

-- ---- a token holds no gap byte

token_no_gap : (b : ℕ) → is_token b ≡ true → is_gap b ≡ false
unfolding is_token is_gap
token_no_gap b e = go (eqb b 32) (eqb b 9) (eqb b 13) (eqb b 10) refl refl refl refl
  where
    other : (x : ℕ) → is_token x ≡ false → eqb b x ≡ true → is_gap b ≡ false
    other x f q = let g : is_token x ≡ true = rw (eqb-true b x q) at e in never (cc)

    go : (u v x y : Bool) → eqb b 32 ≡ u → eqb b 9 ≡ v → eqb b 13 ≡ x → eqb b 10 ≡ y → is_gap b ≡ false
    go true v x y p q r t = other 32 refl p
    go false true x y p q r t = other 9 refl q
    go false false true y p q r t = other 13 refl r
    go false false false true p q r t = other 10 refl t
    go false false false false p q r t = rw (p, q, r, t)

token_plain : (s : List ℕ) → all is_token s ≡ true → any is_gap s ≡ false
unfolding any
token_plain [] e = refl
token_plain (b ∷ s) e = rw (token_no_gap b (all_first is_token b s e)) (token_plain s (all_others is_token b s e))

-- ---- the part of w that starts at a place and is a token, or empty

abbrev Token : List ℕ → ℕ → ℕ → Type 0
Token w at n = all is_token (take n (drop at w)) ≡ true

empty_token : (w : List ℕ) (at : ℕ) → Token w at 0
unfolding all
empty_token w at = refl

-- the value of a tag
value_token : (s : List ℕ) → all is_token (take (param_value true s) s) ≡ true
unfolding param_value
value_token s = go (within 1 64 (run is_token s))
  where
    go : (b : Bool) → all is_token (take (cond b (run is_token s) 0) s) ≡ true
    go true = run_all is_token s
    go false = empty_token s 0

-- one parameter, where it is a tag
module _ (w : List ℕ) where
  abbrev TagToken : ParamAt → Type 0
  TagToken p = p.tag ≡ true → Token w p.value p.len

  rest_token : (n : ℕ) (is_tag : Bool) → TagToken (param_rest n is_tag (drop n w))
  unfolding param_rest
  rest_token n is_tag = go (eqb e 0) is_tag (eqb l 0) refl
    where
      e : ℕ
      e = sign 61 (drop n w)

      l : ℕ
      l = param_value is_tag (drop e (drop n w))

      go : (x y z : Bool) → is_tag ≡ y
          → TagToken (cond x (cond y no_param (record { size = n; tag = false; value = n; len = 0 }))
          (cond z no_param (record { size = n + e + l; tag = y; value = n + e; len = l })))
      go true true z q t = empty_token w 0
      go true false z q t = never (cc)
      go false y true q t = empty_token w 0
      go false y false q t =
          let d : drop e (drop n w) ≡ drop (n + e) w = drop-drop e n w in
          let i : is_tag ≡ true = q ∙ t in
          rw (← d, i) (value_token (drop e (drop n w)))

  param_token : TagToken (param w)
  unfolding param
  param_token = go (param_rest (c + t) is_tag (drop t (drop c w))) (eqb c 0 || eqb t 0) (rw (drop-drop t c w) (rest_token (c + t) is_tag))
    where
      c : ℕ
      c = sign 59 w

      t : ℕ
      t = run is_token (drop c w)

      is_tag : Bool
      is_tag = same_text (text "tag") (take t (drop c w))

      go : (p : ParamAt) (b : Bool) → TagToken p → TagToken (cond b no_param p)
      go p true h = λ q. empty_token w 0
      go p false h = h

-- ---- all parameters

with_size : (got : ParamsAt) (p : ParamAt) → (with_param got p).size ≡ got.size + p.size
unfolding with_param
with_size got p = go p.tag refl
  where
    go : (b : Bool) → p.tag ≡ b → (with_param got p).size ≡ got.size + p.size
    go true e = rw e
    go false e = rw e

goes_on : (got : ParamsAt) (p : ParamAt) → stops got p ≡ false → eqb p.size 0 ≡ false
unfolding stops
goes_on got p e = go (eqb p.size 0) e
  where
    go : (b : Bool) → (b || (p.tag && not (eqb got.len 0))) ≡ false → b ≡ false
    go true q = never (cc)
    go false q = refl

module _ (w : List ℕ) where
  with_token : (got : ParamsAt) (p : ParamAt) → Token w got.tag got.len → (p.tag ≡ true → Token w (got.size + p.value) p.len)
      → Token w (with_param got p).tag (with_param got p).len
  unfolding with_param
  with_token got p h k = go p.tag refl
    where
      go : (b : Bool) → p.tag ≡ b → Token w (with_param got p).tag (with_param got p).len
      go true e = rw e (k e)
      go false e = rw e h

  -- s starts at the place i of w, and the last parameter read ends k bytes after that
  params_token : (got : ParamsAt) (k : ℕ) (s : List ℕ) (i : ℕ) → s ≡ drop i w → i + k ≡ got.size → Token w got.tag got.len
      → Token w (params got k s).tag (params got k s).len
  unfolding params
  params_token got k [] i q z h = h
  params_token got (suc k) (b ∷ s) i q z h = params_token got k s (i + 1) (ap (drop 1) q ∙ drop-drop 1 i w) (omega arith) h
  params_token got zero (b ∷ s) i q z h =
      go (stops got p) refl
      (λ f. params_token (with_param got p) (p.size - 1) s (i + 1) (ap (drop 1) q ∙ drop-drop 1 i w) (next f) (with_token got p h tag))
    where
      p : ParamAt
      p = param (b ∷ s)

      tag : p.tag ≡ true → Token w (got.size + p.value) p.len
      tag t =
          let y : i ≡ got.size = omega arith in
          let d : drop p.value (b ∷ s) ≡ drop (got.size + p.value) w = ap (drop p.value) q ∙ drop-drop p.value i w ∙ rw y in
          rw (← d) (param_token (b ∷ s) t)

      next : stops got p ≡ false → i + 1 + (p.size - 1) ≡ (with_param got p).size
      next f = omega (arith, with_size got p, eqb-false p.size 0 (goes_on got p f))

      go : (t : Bool) → stops got p ≡ t
          → (stops got p ≡ false → Token w (params (with_param got p) (p.size - 1) s).tag (params (with_param got p) (p.size - 1) s).len)
          → Token w (cond t got (params (with_param got p) (p.size - 1) s)).tag (cond t got (params (with_param got p) (p.size - 1) s)).len
      go true e f = h
      go false e f = f e

-- ---- the tag

pub tag_plain : (v : List ℕ) → any is_gap (tag_of v) ≡ false
unfolding tag_of party
tag_plain v = token_plain (tag_of v) (go (not (eqb a 0) && eqb (a + p.size) (length v)))
  where
    a : ℕ
    a = (address v).size

    p : ParamsAt
    p = params no_params 0 (drop a v)

    go : (b : Bool) → Token v (cond b (record { good = true; tag = a + p.tag; len = p.len }) no_party).tag (cond b (record { good = true; tag = a + p.tag; len = p.len }) no_party).len
    go true = rw (← drop-drop p.tag a v) (params_token (drop a v) no_params 0 (drop a v) 0 refl refl (empty_token (drop a v) 0))
    go false = empty_token v 0
