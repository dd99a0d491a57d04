-- Separators: blanks and tokens share no byte, so that `sign` reads exactly the blanks around its byte.
use mathlib.Core.Path.{◌≡◌, refl, ◌∙◌, sym, ap}
use mathlib.Core.Bool.{Bool, true, false, not, cond}
use mathlib.Core.List.{List, [], ◌∷◌, ◌++◌, append_assoc}
use Prim.Native.Nat.{ℕ, ◌+◌, ◌≤◌}
use native.Mathlib.Omega.{arith}
use lib.Dec.{eqb}
use lib.ListN.{length, drop, length-append}
use lib.Seq.{drop-append_seam, drop-append-add}
use borrow.Author.Tests.{eq-eqb, ne_eqb, eqb-true}
use Rattle.octets.specs.Classes.{is_blank, is_token}
use Rattle.octets.specs.Scans.{run, starts}
use Rattle.sip.specs.Values.{sign, is_empty}
use Rattle.sip.specs.Grammar.{Each, Separator, blanks_around, Token}
use Rattle.sip.proofs.Tests.{never, all_first}
use Rattle.sip.proofs.Grammar.Bytes.{Ends, RunView, all_of, ran, run_of, run_view, stop}

-- ---- signs

pub data SignView (b : ℕ) : List ℕ → ℕ → Type 0 where
  signed : {c r : List ℕ} → Separator b c → Ends is_blank r → SignView b (c ++ r) (length c)
  unsigned : {s : List ℕ} → SignView b s 0

module _ (b : ℕ) where
  after_sign : (x r : List ℕ) (m : ℕ) → Each is_blank x → RunView is_blank r m → SignView b (x ++ (b ∷ r)) (length x + 1 + m)
  after_sign x _ _ e (ran {x = y} {r} f g) =
      let v : SignView b ((x ++ (b ∷ y)) ++ r) (length (x ++ (b ∷ y))) = signed (blanks_around e f) g in
      let k : length (x ++ (b ∷ y)) ≡ length x + 1 + length y = length-append x (b ∷ y) ∙ omega arith in
      rw (append_assoc x (b ∷ y) r, k) at v

  at_sign : (x r : List ℕ) → Each is_blank x → SignView b (x ++ r) (cond (starts b r) (length x + 1 + run is_blank (drop 1 r)) 0)
  unfolding starts
  at_sign x [] e = unsigned
  at_sign x (c ∷ r) e = go (eqb c b) refl
    where
      go : (t : Bool) → eqb c b ≡ t → SignView b (x ++ (c ∷ r)) (cond t (length x + 1 + run is_blank r) 0)
      go true q = rw (eqb-true c b q) (after_sign x r (run is_blank r) e (run_view is_blank r))
      go false q = unsigned

  pub sign_view : (s : List ℕ) → SignView b s (sign b s)
  unfolding sign
  sign_view s = go s (run is_blank s) (run_view is_blank s)
    where
      go : (s : List ℕ) (n : ℕ) → RunView is_blank s n → SignView b s (cond (starts b (drop n s)) (n + 1 + run is_blank (drop (n + 1) s)) 0)
      go _ _ (ran {x} {r} e f) = rw (drop-append_seam x r, drop-append-add x r 1) (at_sign x r e)

  pub sign_exact : {c r : List ℕ} → is_blank b ≡ false → Separator b c → Ends is_blank r → sign b (c ++ r) ≡ length c
  unfolding sign starts
  sign_exact {r = r} h (blanks_around {x} {y} e f) g =
      let n : run is_blank (x ++ (b ∷ (y ++ r))) ≡ length x = run_of e (stop h) in
      let m : run is_blank (y ++ r) ≡ length y = run_of f g in
      rw (append_assoc x (b ∷ y) r, n, drop-append_seam x (b ∷ (y ++ r)), drop-append-add x (b ∷ (y ++ r)) 1, m, eq-eqb b b refl, length-append x (b ∷ y))
      (omega arith)

  pub sign_none : {x r : List ℕ} → Each is_blank x → Ends is_blank r → starts b r ≡ false → sign b (x ++ r) ≡ 0
  unfolding sign
  sign_none {x} {r} e f h = rw (run_of e f, drop-append_seam x r, h)

-- ---- bytes of two classes

pub token_blank : (b : ℕ) → is_token b ≡ true → is_blank b ≡ false
unfolding is_token is_blank
token_blank b e =
    let no : (c : ℕ) → is_token c ≡ false → b ≡ c → ⊥ = λ c f q. let z : true ≡ false = sym e ∙ ap is_token q ∙ f in never (cc) in
    rw (ne_eqb b 32 (no 32 refl), ne_eqb b 9 (no 9 refl))

pub blank_token : (b : ℕ) → is_blank b ≡ true → is_token b ≡ false
blank_token b e = go (is_token b) refl
  where
    go : (t : Bool) → is_token b ≡ t → t ≡ false
    go true q = let z : true ≡ false = sym e ∙ token_blank b q in z
    go false q = refl

-- a token at the front
pub token_no_blank : (t r : List ℕ) → Token t → Ends is_blank (t ++ r)
token_no_blank [] r h = let z : 1 ≤ 0 = h.some in absurd (omega arith)
token_no_blank (b ∷ t) r h = stop (token_blank b (all_first is_token b t (all_of h.bytes)))

-- a sign at the front: blanks and the byte b
pub sign_stops : {b : ℕ} {c : List ℕ} (p : ℕ → Bool) → ((a : ℕ) → is_blank a ≡ true → p a ≡ false) → p b ≡ false → Separator b c → (r : List ℕ) → Ends p (c ++ r)
sign_stops p f e (blanks_around {x = []} {y} g h) r = stop e
sign_stops p f e (blanks_around {x = a ∷ x} {y} g h) r = stop (f a (all_first is_blank a x (all_of g)))

pub sign_some : {b : ℕ} {c : List ℕ} → Separator b c → 1 ≤ length c
sign_some {b} (blanks_around {x} {y} g h) = omega (arith, length-append x (b ∷ y))

pub empty_length : (s : List ℕ) → is_empty s ≡ true → s ≡ []
unfolding is_empty
empty_length [] e = refl
empty_length (b ∷ s) e = never (cc)

pub some_not_empty : (s : List ℕ) → 1 ≤ length s → is_empty s ≡ false
unfolding is_empty
some_not_empty [] h = absurd (omega arith)
some_not_empty (b ∷ s) h = refl

pub not_empty_some : (v : List ℕ) → not (is_empty v) ≡ true → 1 ≤ length v
unfolding is_empty
not_empty_some [] e = never (cc)
not_empty_some (b ∷ v) e = omega arith
