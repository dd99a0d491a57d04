-- A value is read by itself as in front of anything that does not continue it.
use mathlib.Core.Path.{◌≡◌, refl, sym, ap, ◌∙◌}
use mathlib.Core.Bool.{Bool, true, false, false≢true, cond}
use mathlib.Core.List.{List, [], ◌∷◌, ◌++◌}
use mathlib.Core.Option.{Option, none, some}
use Prim.Native.Nat.{ℕ, zero, suc}
use native.Mathlib.Omega.{arith}
use lib.Dec.{eqb}
use lib.ListN.{length, drop}
use borrow.Author.Tests.{eqb-true}
use Rattle.octets.specs.Classes.{is_value}
use Rattle.sip.specs.Lines.{crlf, starts_crlf, starts_blank, one_longer, value_size}
use Rattle.sip.proofs.Tests.{and_left, and_right}

-- nothing is both none and some
pub not_none : {A : Type 0} {B : Type 0} {b : B} → ◌≡◌ {A = Option B} none (some b) → A
not_none e = let z : ◌≡◌ {A = ℕ} 0 1 = cc in absurd (omega arith)

longer_some : (o : Option ℕ) (n : ℕ) → one_longer o ≡ some n → (m : ℕ) × (o ≡ some m) × (n ≡ suc m)
longer_some none n e = not_none e
longer_some (some m) n e = (m, refl, cc)

longer_suc : (o : Option ℕ) (n : ℕ) → one_longer o ≡ some (suc n) → o ≡ some n
longer_suc o n e =
    let (m, q, z) = longer_some o (suc n) e in
    let w : m ≡ n = omega arith in
    rw (← w) q

-- a CRLF that stands at the front is its two bytes
pub crlf_start : (s : List ℕ) → starts_crlf s ≡ true → 13 ∷ 10 ∷ drop 2 s ≡ s
unfolding starts_crlf
crlf_start [] e = absurd (false≢true e)
crlf_start (a ∷ []) e = absurd (false≢true e)
crlf_start (a ∷ b ∷ s) e =
    let p : a ≡ 13 = eqb-true a 13 (and_left (eqb a 13) (eqb b 10) e) in
    let q : b ≡ 10 = eqb-true b 10 (and_right (eqb a 13) (eqb b 10) e) in
    rw (p, q)

-- what a byte of a value looks ahead to lies in the value and its CRLF
crlf_ahead : (b : ℕ) (v t : List ℕ) → starts_crlf (b ∷ v ++ 13 ∷ 10 ∷ t) ≡ starts_crlf (b ∷ v ++ crlf)
unfolding starts_crlf
crlf_ahead b [] t = refl
crlf_ahead b (c ∷ v) t = refl

blank_ahead : (v t : List ℕ) → starts_blank (drop 1 (v ++ 13 ∷ 10 ∷ t)) ≡ starts_blank (drop 1 (v ++ crlf))
unfolding starts_blank
blank_ahead [] t = refl
blank_ahead (c ∷ []) t = refl
blank_ahead (c ∷ d ∷ v) t = refl

step : (c d v : Bool) (n : ℕ) (a b a' b' : Option ℕ) → (a ≡ some n → a' ≡ some n) → (b ≡ some n → b' ≡ some n)
    → cond c (cond d (one_longer a) (some 0)) (cond v (one_longer b) none) ≡ some (suc n)
    → cond c (cond d (one_longer a') (some 0)) (cond v (one_longer b') none) ≡ some (suc n)
step true true v n a b a' b' f g e = ap one_longer (f (longer_suc a n e))
step true false v n a b a' b' f g e = let z : 0 ≡ suc n = cc in absurd (omega arith)
step false d true n a b a' b' f g e = ap one_longer (g (longer_suc b n e))
step false d false n a b a' b' f g e = not_none e

pub value_before :
    (k : ℕ) (v t : List ℕ) → value_size k (v ++ crlf) ≡ some (length v) → starts_blank t ≡ false
    → value_size k (v ++ 13 ∷ 10 ∷ t) ≡ some (length v)
unfolding value_size starts_crlf
value_before zero [] t e h = rw h
value_before (suc k) [] t e h = let (m, q, z) = longer_some (value_size k (10 ∷ [])) 0 e in absurd (omega arith)
value_before (suc k) (b ∷ v) t e h = ap one_longer (value_before k v t (longer_suc (value_size k (v ++ crlf)) (length v) e) h)
value_before zero (b ∷ v) t e h =
    rw (crlf_ahead b v t, blank_ahead v t) (step (starts_crlf (b ∷ v ++ crlf)) (starts_blank (drop 1 (v ++ crlf))) (is_value b) (length v)
    (value_size 2 (v ++ crlf)) (value_size 0 (v ++ crlf)) (value_size 2 (v ++ 13 ∷ 10 ∷ t)) (value_size 0 (v ++ 13 ∷ 10 ∷ t))
    (λ q. value_before 2 v t q h) (λ q. value_before 0 v t q h) e)

-- what a value that is read says of its list: the value, its CRLF, and what follows and does not continue it
pub record Ended (k : ℕ) (s : List ℕ) (n : ℕ) : Type 0 where
  pub value : List ℕ
  pub after : List ℕ
  pub here : s ≡ value ++ 13 ∷ 10 ∷ after
  pub long : n ≡ length value
  pub alone : value_size k (value ++ crlf) ≡ some (length value)
  pub no_blank : starts_blank after ≡ false

-- one byte more in front, that leaves k bytes to pass
longer :
    (b k j : ℕ) (s : List ℕ) (n m : ℕ) → n ≡ suc m → (r : Ended k s m)
    → value_size j (b ∷ r.value ++ crlf) ≡ one_longer (value_size k (r.value ++ crlf)) → Ended j (b ∷ s) n
longer b k j s n m z r a =
    record {
      value = b ∷ r.value;
      after = r.after;
      here = ap (λ (x : List ℕ). b ∷ x) r.here;
      long = z ∙ ap suc r.long;
      alone = a ∙ ap one_longer r.alone;
      no_blank = r.no_blank;
    }

crlf_ends : value_size 0 crlf ≡ some 0
unfolding value_size starts_crlf starts_blank
crlf_ends = refl

pub value_ends : (k : ℕ) (s : List ℕ) (n : ℕ) → value_size k s ≡ some n → Ended k s n
unfolding value_size
value_ends zero [] n e = not_none e
value_ends (suc k) [] n e = not_none e
value_ends (suc k) (b ∷ s) n e =
    let (m, q, z) = longer_some (value_size k s) n e in
    longer b k (suc k) s n m z (value_ends k s m q) refl
value_ends zero (b ∷ s) n e =
    go (starts_crlf (b ∷ s)) (starts_blank (drop 1 s)) (is_value b) refl refl refl e (λ m. value_ends 2 s m) (λ m. value_ends 0 s m)
  where
    go : (c d v : Bool) → starts_crlf (b ∷ s) ≡ c → starts_blank (drop 1 s) ≡ d → is_value b ≡ v
        → cond c (cond d (one_longer (value_size 2 s)) (some 0)) (cond v (one_longer (value_size 0 s)) none) ≡ some n
        → ((m : ℕ) → value_size 2 s ≡ some m → Ended 2 s m) → ((m : ℕ) → value_size 0 s ≡ some m → Ended 0 s m) → Ended 0 (b ∷ s) n
    go true true v p q i e f g =
        let (m, w, z) = longer_some (value_size 2 s) n e in
        let r = f m w in
        let x : starts_crlf (b ∷ r.value ++ crlf) ≡ true = sym (crlf_ahead b r.value r.after) ∙ (rw r.here at p) in
        let y : starts_blank (drop 1 (r.value ++ crlf)) ≡ true = sym (blank_ahead r.value r.after) ∙ (rw r.here at q) in
        longer b 2 0 s n m z r (rw (x, y))
    go true false v p q i e f g =
        record { value = []; after = drop 1 s; here = sym (crlf_start (b ∷ s) p); long = cc; alone = crlf_ends; no_blank = q }
    go false d true p q i e f g =
        let (m, w, z) = longer_some (value_size 0 s) n e in
        let r = g m w in
        let x : starts_crlf (b ∷ r.value ++ crlf) ≡ false = sym (crlf_ahead b r.value r.after) ∙ (rw r.here at p) in
        longer b 0 0 s n m z r (rw (x, i))
    go false d false p q i e f g = not_none e
