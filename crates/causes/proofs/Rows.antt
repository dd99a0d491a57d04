-- What the definitions give off the listed causes: a number that no entry lists gets the other answer, and a cause is its own row exactly where its status is not 0.
use mathlib.Core.Path.{◌≡◌, refl}
use mathlib.Core.Bool.{Bool, true, false, cond, ◌&&◌, ◌||◌, not}
use mathlib.Core.List.{List, [], ◌∷◌}
use mathlib.Core.Logic.{inl, inr}
use Prim.Native.Nat.{ℕ, ◌≤◌, ◌<◌}
use native.Mathlib.Omega.{arith}
use lib.Dec.{T, eqb, leb, ltb, leb→le, ltb→lt}
use borrow.Author.Tests.{ne_eqb, le-ltb}
use mir.Facts.{and_yes, or_yes}
use Rattle.causes.specs.Causes.{Entry, among, listed, given, next_above}
use Rattle.causes.proofs.Arms.{Missed, is_key, missed}

-- each of the numbers is a key of the arms, or lies below n
abbrev pub keys_covered : List Entry → ℕ → List ℕ → Bool
keys_covered arms n [] = true
keys_covered arms n (k ∷ ks) = (is_key arms k || ltb k n) && keys_covered arms n ks

abbrev pub covered : List Entry → ℕ → List Entry → Bool
covered arms n [] = true
covered arms n (r ∷ rs) = keys_covered arms n r.keys && covered arms n rs

module _ (arms : List Entry) (n : ℕ) {s : ℕ} (h : n ≤ s) (m : Missed (Unit {0}) arms s) where
  pub not_among : (ks : List ℕ) → T (keys_covered arms n ks) → among ks s ≡ false
  unfolding among
  not_among [] t = refl
  not_among (k ∷ ks) t =
      let both = and_yes (is_key arms k || ltb k n) (keys_covered arms n ks) t in
      let other : s ≡ k → ⊥ = λ e. elim (or_yes (is_key arms k) (ltb k n) both.0)
      [ inl q ↦ missed (Unit {0}) arms s (rw e q) m | inr q ↦ omega (arith, ltb→lt k n q) ] in
      simp (ne_eqb s k other, not_among ks both.1)

  not_given : (other : ℕ) (ls : List Entry) → T (covered arms n ls) → other ≡ given other ls s
  unfolding given
  not_given other [] t = refl
  not_given other (r ∷ rs) t =
      let both = and_yes (keys_covered arms n r.keys) (covered arms n rs) t in
      rw (not_among r.keys both.0) (not_given other rs both.1)

-- no key of the arms, and not below n: no entry lists it
pub past : (other : ℕ) (ls arms : List Entry) (n : ℕ) → T (covered arms n ls) → {s : ℕ} → n ≤ s → Missed (Unit {0}) arms s → other ≡ given other ls s
past other ls arms n t h m = not_given arms n h m other ls t

abbrev ends_up_to : ℕ → List ℕ → Bool
ends_up_to n [] = true
ends_up_to n (e ∷ es) = leb e n && ends_up_to n es

-- no class ends above the last
pub none_above : (es : List ℕ) (n : ℕ) → T (ends_up_to n es) → {s : ℕ} → n ≤ s → 0 ≡ next_above es s
unfolding next_above
none_above [] n t h = refl
none_above (e ∷ es) n t {s} h =
    let both = and_yes (leb e n) (ends_up_to n es) t in
    rw (le-ltb s e (omega (arith, leb→le e n both.0))) (none_above es n both.1 h)

-- each entry gives more than 0
abbrev positive : List Entry → Bool
positive [] = true
positive (r ∷ rs) = ltb 0 r.gives && positive rs

first : (b l : Bool) (g x : ℕ) → 0 < g → l ≡ not (eqb x 0) → (b || l) ≡ not (eqb (cond b g x) 0)
first true l g x p h = simp (ne_eqb g 0 (omega arith))
first false l g x p h = h

-- a number is listed exactly where its entry gives more than 0
pub listed_given : (ls : List Entry) (n : ℕ) → T (positive ls) → listed ls n ≡ not (eqb (given 0 ls n) 0)
unfolding given listed
listed_given [] n t = refl
listed_given (r ∷ rs) n t =
    let both = and_yes (ltb 0 r.gives) (positive rs) t in
    first (among r.keys n) (listed rs n) r.gives (given 0 rs n) (ltb→lt 0 r.gives both.0) (listed_given rs n both.1)
