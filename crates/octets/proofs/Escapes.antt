-- Laws of `escape` and `run_escaped`, by induction on the text; at a place, by the one or three bytes that stand there.
use mathlib.Core.Path.{◌≡◌, refl, sym, ap, ◌∙◌}
use mathlib.Core.Bool.{Bool, true, false, true≢false, cond, ◌&&◌, ◌||◌}
use mathlib.Core.List.{List, [], ◌∷◌}
use Prim.Native.Nat.{ℕ, zero, suc, ◌+◌, ◌-◌, ◌≤◌, ◌<◌}
use native.Mathlib.Omega.{arith}
use lib.Dec.{eqb, ltb}
use lib.ListN.{length, drop, get_or, drop_of_length-le, length-drop}
use borrow.Author.Tests.{ltb-true, ltb-false}
use Rattle.std.specs.Char.{is_ascii_hexdigit}
use Rattle.octets.specs.Classes.{within, is_digit, is_hex}
use Rattle.octets.specs.Scans.{run, escape, run_escaped}
use Rattle.octets.proofs.Places.{drop1, drop3}
use Rattle.octets.proofs.Runs.{by_first, run_nil, run_yes, run_no}

pub hex_test : (b : ℕ) → is_ascii_hexdigit b ≡ is_hex b
unfolding is_hex is_digit
hex_test b = assoc (within 48 57 b) (within 65 70 b) (within 97 102 b)
  where
    assoc : (t u v : Bool) → ((t || u) || v) ≡ (t || (u || v))
    assoc true u v = refl
    assoc false u v = refl

-- three bytes at the front of a text
pub escape_front : (s : List ℕ) → 3 ≤ length s → escape s ≡ (eqb (get_or s 0 0) 37 && (is_hex (get_or s 1 0) && is_hex (get_or s 2 0)))
unfolding escape
escape_front [] h = absurd (omega arith)
escape_front (a ∷ []) h = absurd (omega arith)
escape_front (a ∷ b ∷ []) h = absurd (omega arith)
escape_front (a ∷ b ∷ c ∷ s) h = refl

pub few : (s : List ℕ) → length s < 3 → escape s ≡ false
unfolding escape
few [] h = refl
few (a ∷ []) h = refl
few (a ∷ b ∷ []) h = refl
few (a ∷ b ∷ c ∷ s) h = absurd (omega arith)

pub escape_short : (s : List ℕ) (i : ℕ) → length s - i < 3 → escape (drop i s) ≡ false
escape_short s i h = few (drop i s) (omega (arith, length-drop i s))

pub escape_place : (s : List ℕ) (i : ℕ) → i + 2 < length s
    → escape (drop i s) ≡ (eqb (get_or s i 0) 37 && (is_hex (get_or s (i + 1) 0) && is_hex (get_or s (i + 2) 0)))
unfolding escape
escape_place s i h = rw (drop3 s i h)

-- an escape has three bytes
pub escape_long : (s : List ℕ) (i : ℕ) → escape (drop i s) ≡ true → i + 2 < length s
escape_long s i e = go (ltb (i + 2) (length s)) refl
  where
    go : (t : Bool) → ltb (i + 2) (length s) ≡ t → i + 2 < length s
    go true h = ltb-true (i + 2) (length s) h
    go false h =
        let k : length s ≤ i + 2 = ltb-false (i + 2) (length s) h in
        let z : false ≡ true = sym (escape_short s i (omega arith)) ∙ e in
        absurd (true≢false (sym z))

module _ (p : ℕ → Bool) where
  pub run_escaped_le : (k : ℕ) (s : List ℕ) → run_escaped p k s ≤ length s
  unfolding run_escaped
  run_escaped_le k [] = omega arith
  run_escaped_le (suc k) (b ∷ s) = omega (arith, run_escaped_le k s)
  run_escaped_le zero (b ∷ s) = go (p b) (escape (b ∷ s)) (run_escaped_le 0 s) (run_escaped_le 2 s)
    where
      go : (t u : Bool) → run_escaped p 0 s ≤ length s → run_escaped p 2 s ≤ length s
          → cond t (suc (run_escaped p 0 s)) (cond u (suc (run_escaped p 2 s)) zero) ≤ suc (length s)
      go true u x y = omega arith
      go false true x y = omega arith
      go false false x y = omega arith

  -- it begins with the run of the class
  pub run_escaped_run : (s : List ℕ) → run_escaped p 0 s ≡ run p s + run_escaped p 0 (drop (run p s) s)
  unfolding run_escaped
  run_escaped_run =
      by_first p (λ s. run_escaped p 0 s ≡ run p s + run_escaped p 0 (drop (run p s) s)) (rw (run_nil p))
      (λ b s h e. rw (run_yes p b s e, e) (omega (arith, h))) (λ b s e. rw (run_no p b s e) (omega arith))

  module _ (s : List ℕ) (i : ℕ) where
    pub run_escaped_end : length s ≤ i → run_escaped p 0 (drop i s) ≡ 0
    unfolding run_escaped
    run_escaped_end h = rw (drop_of_length-le s h)

    module _ (h : i < length s) where
      pub run_escaped_yes : p (get_or s i 0) ≡ true → run_escaped p 0 (drop i s) ≡ suc (run_escaped p 0 (drop (i + 1) s))
      unfolding run_escaped
      run_escaped_yes e = rw (drop1 s i h, e)

      pub run_escaped_stop : p (get_or s i 0) ≡ false → escape (drop i s) ≡ false → run_escaped p 0 (drop i s) ≡ 0
      unfolding run_escaped
      run_escaped_stop e q =
          let q' : escape (get_or s i 0 ∷ drop (i + 1) s) ≡ false = sym (ap escape (drop1 s i h)) ∙ q in
          rw (drop1 s i h, e, q')

    pub run_escaped_escape : i + 2 < length s → p (get_or s i 0) ≡ false → escape (drop i s) ≡ true
        → run_escaped p 0 (drop i s) ≡ 3 + run_escaped p 0 (drop (i + 3) s)
    unfolding run_escaped
    run_escaped_escape h e q =
        let q' : escape (get_or s i 0 ∷ get_or s (i + 1) 0 ∷ get_or s (i + 2) 0 ∷ drop (i + 3) s) ≡ true = sym (ap escape (drop3 s i h)) ∙ q in
        rw (drop3 s i h, e, q') (omega arith)
