-- Laws of `tokens`: what was read is passed over, by induction on it; and the answer for a list is that for what was read and what is left.
use mathlib.Core.Path.{◌≡◌, refl, ap, ◌∙◌}
use mathlib.Core.Bool.{Bool, true, false, cond}
use mathlib.Core.List.{List, [], ◌∷◌}
use mathlib.Core.Option.{Option, none, some}
use Prim.Native.Nat.{ℕ, zero, suc, ◌+◌, ◌-◌, ◌<◌, ◌≤◌}
use native.Mathlib.Omega.{arith}
use native.Mathlib.Numerals.{add-one}
use lib.Dec.{eqb}
use lib.ListN.{length, take, drop}
use Rattle.octets.specs.Classes.{is_token}
use Rattle.octets.specs.Scans.{run}
use Rattle.sip.specs.Values.{is_empty, sign, with_token, tokens, first_place}
use Rattle.sip.proofs.Grammar.Tokens.{tokens_passed}
use Rattle.values.specs.Answers.{ListAt, no_list, list_at}
use Rattle.values.proofs.Within.{is_zero, not_zero}

pub no_bytes : (s : List ℕ) → length s < 1 → is_empty s ≡ true
unfolding is_empty
no_bytes [] h = refl
no_bytes (b ∷ s) h = absurd (omega arith)

pub has_bytes : (s : List ℕ) → 1 ≤ length s → is_empty s ≡ false
unfolding is_empty
has_bytes [] h = absurd (omega arith)
has_bytes (b ∷ s) h = refl

-- ---- the first token

module _ (sep : ℕ) where
  pub no_first : (t : List ℕ) → run is_token t < 1 → tokens sep 0 t ≡ none
  unfolding tokens
  no_first [] h = refl
  no_first (b ∷ s) h = rw (is_zero (run is_token (b ∷ s)) h)

  pass : (b : ℕ) (s : List ℕ) (k : ℕ) → 1 ≤ k → tokens sep (k - 1) s ≡ tokens sep 0 (drop k (b ∷ s))
  pass b s zero h = absurd (omega arith)
  pass b s (suc k) h = let e : suc k - 1 ≡ k = omega arith in rw e (tokens_passed sep k s)

  pub a_first : (t : List ℕ) → 1 ≤ run is_token t → 1 ≤ length t
      → tokens sep 0 t ≡ cond (is_empty (drop (run is_token t) t)) (some (take (run is_token t) t ∷ []))
      (cond (eqb (sign sep (drop (run is_token t) t)) 0) none
      (with_token (take (run is_token t) t) (tokens sep 0 (drop (run is_token t + sign sep (drop (run is_token t) t)) t))))
  unfolding tokens
  a_first [] h l = absurd (omega arith)
  a_first (b ∷ s) h l =
      rw (not_zero (run is_token (b ∷ s)) h, pass b s (run is_token (b ∷ s) + sign sep (drop (run is_token (b ∷ s)) (b ∷ s))) (omega arith))

-- ---- the answer

-- the answer after n tokens, the first that passes at place f (0: none passed)
unfoldable pub answer : (List ℕ → Bool) → ℕ → ℕ → Option (List (List ℕ)) → ListAt
answer p n f none = no_list
answer p n f (some ts) = record { good = true; count = n + length ts; first = cond (eqb f 0) (first_place p n ts) f }

module _ (p : List ℕ → Bool) where
  pub begins : (sep : ℕ) (v : List ℕ) → list_at sep p v ≡ answer p 0 0 (tokens sep 0 v)
  unfolding answer first_place
  begins sep v = go (tokens sep 0 v) refl
    where
      go : (o : Option (List (List ℕ))) → tokens sep 0 v ≡ o → list_at sep p v ≡ answer p 0 0 o
      go none e = rw e
      go (some ts) e = rw e (ap (λ (n : ℕ). record { good = true; count = n; first = first_place p 0 ts }) (omega arith))

  -- the place of the first that passes, after t
  abbrev pub later : ℕ → ℕ → List ℕ → ℕ
  later n f t = cond (eqb f 0) (cond (p t) (n + 1) 0) f

  place : (n f : ℕ) (t : List ℕ) (ts : List (List ℕ))
      → cond (eqb f 0) (first_place p n (t ∷ ts)) f ≡ cond (eqb (later n f t) 0) (first_place p (n + 1) ts) (later n f t)
  unfolding first_place
  place n f t ts = go (eqb f 0) (p t) refl
    where
      go : (z y : Bool) → eqb f 0 ≡ z
          → cond z (cond y (suc n) (first_place p (suc n) ts)) f
          ≡ cond (eqb (cond z (cond y (n + 1) 0) f) 0) (first_place p (n + 1) ts) (cond z (cond y (n + 1) 0) f)
      go true true e = rw (not_zero (n + 1) (omega arith), add-one)
      go true false e = rw add-one
      go false y e = rw e

  pub next : (n f : ℕ) (t : List ℕ) (o : Option (List (List ℕ))) → answer p n f (with_token t o) ≡ answer p (n + 1) (later n f t) o
  unfolding answer
  next n f t none = refl
  next n f t (some ts) =
      let c : n + length (t ∷ ts) ≡ n + 1 + length ts = omega arith in
      rw (c, place n f t ts)

  none_or : (n : ℕ) → cond (eqb n 0) 0 n ≡ n
  none_or zero = refl
  none_or (suc n) = rw (not_zero (suc n) (omega arith))

  pub last : (n f : ℕ) (t : List ℕ) → answer p n f (some (t ∷ [])) ≡ record { good = true; count = n + 1; first = later n f t }
  unfolding answer first_place
  last n f t =
      let c : n + 1 + 0 ≡ n + 1 = omega arith in
      next n f t (some []) ∙ rw (c, none_or (later n f t))
