-- Where a byte of a folded value stands in the value: a byte that is no gap stands in both, and with it the bytes after it up to the next gap.
use mathlib.Core.Path.{◌≡◌, refl, sym, ap, ◌∙◌}
use mathlib.Core.Bool.{Bool, true, false, cond}
use mathlib.Core.List.{List, [], ◌∷◌, ◌++◌}
use Prim.Native.Nat.{ℕ, zero, suc, ◌+◌, ◌-◌, ◌≤◌, ◌<◌}
use native.Mathlib.Omega.{arith}
use lib.Dec.{ltb}
use lib.ListN.{length, take, drop, length-append, take-append-drop}
use lib.Seq.{length-take-le, drop-nil, drop-drop, drop-append-add}
use borrow.Author.Tests.{ltb-true, ltb-false, le-ltb, lt-ltb, ne_eqb}
use Rattle.octets.specs.Classes.{is_blank, is_break, is_gap}
use Rattle.octets.specs.Scans.{run, all, any}
use Rattle.octets.proofs.Runs.{run_yes, run_no, run_nil, run_all, run_le}
use Rattle.sip.specs.Lines.{joined, folded, unfolded_at}
use Rattle.sip.proofs.Tests.{never, all_first, all_others}
use Rattle.sip.proofs.Canonical.{folded_byte, folded_run, by_runs, any_first, joined_le}

-- ---- one run at a time

pub unfolded_pass : (k n : ℕ) (s : List ℕ) → n ≤ length s → unfolded_at k n s ≡ n + unfolded_at k 0 (drop n s)
unfolding unfolded_at
unfolded_pass k zero s h = omega arith
unfolded_pass k (suc n) [] h = absurd (omega arith)
unfolded_pass k (suc n) (b ∷ s) h = omega (arith, unfolded_pass k n s (omega arith))

pub unfolded_nil : (k : ℕ) → unfolded_at k 0 [] ≡ 0
unfolding unfolded_at
unfolded_nil k = refl

module _ (b : ℕ) (s : List ℕ) (e : is_gap b ≡ false) where
  pub unfolded_first : unfolded_at 0 0 (b ∷ s) ≡ 0
  unfolding unfolded_at
  unfolded_first = rw e

  pub unfolded_next : (k : ℕ) → unfolded_at (suc k) 0 (b ∷ s) ≡ suc (unfolded_at k 0 s)
  unfolding unfolded_at
  unfolded_next k = let z : suc k - 1 ≡ k = omega arith in rw (e, ne_eqb (suc k) 0 (λ q. omega arith), z)

-- where the k-th byte stands, n bytes at the front folding by themselves
abbrev pub from : ℕ → ℕ → List ℕ → ℕ
from k n s = cond (ltb k (length (joined (take n s)))) k (n + unfolded_at (k - length (joined (take n s))) 0 (drop n s))

from_none : (k : ℕ) (s : List ℕ) → from k 0 s ≡ unfolded_at k 0 s
unfolding joined any
from_none k s = let z : k - 0 ≡ k = omega arith in rw (le-ltb k 0 (omega arith), z) (omega arith)

from_gap : (k b : ℕ) (s : List ℕ) → is_gap b ≡ true → unfolded_at k 0 (b ∷ s) ≡ from k (run is_gap (b ∷ s)) (b ∷ s)
unfolding unfolded_at
from_gap k b s e =
    let g : ℕ = run is_gap s in
    let j : ℕ = length (joined (take (suc g) (b ∷ s))) in
    let z : suc g - 1 ≡ g = omega arith in
    let p : suc (unfolded_at (k - j) g s) ≡ suc g + unfolded_at (k - j) 0 (drop g s) = omega (arith, unfolded_pass (k - j) g s (run_le is_gap s)) in
    rw (e, run_yes is_gap b s e, z) (ap (λ (x : ℕ). cond (ltb k j) k x) p)

pub unfolded_run : (k : ℕ) (s : List ℕ) → unfolded_at k 0 s ≡ from k (run is_gap s) s
unfolded_run k [] = sym (ap (λ (n : ℕ). from k n []) (run_nil is_gap) ∙ from_none k [])
unfolded_run k (b ∷ s) = go (is_gap b) refl
  where
    go : (t : Bool) → is_gap b ≡ t → unfolded_at k 0 (b ∷ s) ≡ from k (run is_gap (b ∷ s)) (b ∷ s)
    go true e = from_gap k b s e
    go false e = sym (ap (λ (n : ℕ). from k n (b ∷ s)) (run_no is_gap b s e) ∙ from_none k (b ∷ s))

module _ (k n : ℕ) (s : List ℕ) where
  pub from_in : k < length (joined (take n s)) → from k n s ≡ k
  from_in h = rw (lt-ltb k (length (joined (take n s))) h)

  pub from_past : length (joined (take n s)) ≤ k → from k n s ≡ n + unfolded_at (k - length (joined (take n s))) 0 (drop n s)
  from_past h = rw (le-ltb k (length (joined (take n s))) h)

-- ---- it stands within the value

from_le :
    (k n : ℕ) (s : List ℕ) → n ≤ length s → ((k : ℕ) → unfolded_at k 0 (drop n s) ≤ length (drop n s)) → from k n s ≤ length s
from_le k n s h f = go (ltb k j) refl
  where
    j : ℕ
    j = length (joined (take n s))

    split : length (take n s) + length (drop n s) ≡ length s
    split = sym (length-append (take n s) (drop n s)) ∙ ap length (take-append-drop n s)

    go : (t : Bool) → ltb k j ≡ t → from k n s ≤ length s
    go true e = rw (from_in k n s (ltb-true k j e)) (omega (arith, ltb-true k j e, joined_le (take n s), split))
    go false e = rw (from_past k n s (ltb-false k j e)) (omega (arith, f (k - j), length-take-le n s h, split))

pub unfolded_le : (k : ℕ) (s : List ℕ) → unfolded_at k 0 s ≤ length s
unfolded_le k s =
    by_runs (λ s. (k : ℕ) → unfolded_at k 0 s ≤ length s) (λ k. omega (arith, unfolded_nil k)) byte
    (λ s h k. rw (unfolded_run k s) (from_le k (run is_gap s) s (run_le is_gap s) h)) s k
  where
    byte : (b : ℕ) (s : List ℕ) → is_gap b ≡ false → ((k : ℕ) → unfolded_at k 0 s ≤ length s) → (k : ℕ) → unfolded_at k 0 (b ∷ s) ≤ suc (length s)
    byte b s e h zero = omega (arith, unfolded_first b s e)
    byte b s e h (suc k) = omega (arith, unfolded_next b s e k, h k)

-- ---- bytes that are no gap

joined_gap : (g : List ℕ) → all is_gap g ≡ true → all is_gap (joined g) ≡ true
unfolding joined all is_gap is_blank
joined_gap g a = go (any is_break g) refl
  where
    go : (t : Bool) → any is_break g ≡ t → all is_gap (joined g) ≡ true
    go true e = rw e
    go false e = rw e a

gap_within :
    (x y : List ℕ) (k n : ℕ) → all is_gap x ≡ true → k < length x → any is_gap (take (suc n) (drop k (x ++ y))) ≡ true
unfolding any
gap_within [] y k n a h = absurd (omega arith)
gap_within (b ∷ x) y zero n a h = rw (all_first is_gap b x a)
gap_within (b ∷ x) y (suc k) n a h = gap_within x y k n (all_others is_gap b x a) (omega arith)

joined_some : (b : ℕ) (g : List ℕ) → 0 < length (joined (b ∷ g))
unfolding joined
joined_some b g = go (any is_break (b ∷ g))
  where
    go : (t : Bool) → 0 < length (cond t (32 ∷ []) (b ∷ g))
    go true = omega arith
    go false = omega arith

unfolded_zero : (s : List ℕ) → unfolded_at 0 0 s ≡ 0
unfolded_zero [] = unfolded_nil 0
unfolded_zero (b ∷ s) = go (is_gap b) refl
  where
    go : (t : Bool) → is_gap b ≡ t → unfolded_at 0 0 (b ∷ s) ≡ 0
    go true e = unfolded_run 0 (b ∷ s) ∙ from_in 0 (run is_gap (b ∷ s)) (b ∷ s) (rw (run_yes is_gap b s e) (joined_some b (take (run is_gap s) s)))
    go false e = unfolded_first b s e

abbrev Stands : List ℕ → Type 0
Stands v =
    (k n : ℕ) → any is_gap (take n (drop k (folded 0 v))) ≡ false → take n (drop (unfolded_at k 0 v) v) ≡ take n (drop k (folded 0 v))

stands_byte : (b : ℕ) (s : List ℕ) → is_gap b ≡ false → Stands s → Stands (b ∷ s)
stands_byte b s e h k zero a = refl
stands_byte b s e h zero (suc n) a =
    let c : any is_gap (b ∷ take n (folded 0 s)) ≡ false = rw (folded_byte b s e) at a in
    let i : take n s ≡ take n (folded 0 s) = rw (unfolded_zero s) at (h 0 n (any_first is_gap b (take n (folded 0 s)) c).1) in
    rw (unfolded_first b s e, folded_byte b s e) (ap (λ (l : List ℕ). b ∷ l) i)
stands_byte b s e h (suc k) (suc n) a = rw (unfolded_next b s e k, folded_byte b s e) (h k (suc n) (rw (folded_byte b s e) at a))

stands_run : (s : List ℕ) → Stands (drop (run is_gap s) s) → Stands s
stands_run s h k zero a = refl
stands_run s h k (suc n) a = go (ltb k (length x)) refl
  where
    x : List ℕ
    x = joined (take (run is_gap s) s)

    y : List ℕ
    y = folded 0 (drop (run is_gap s) s)

    b : any is_gap (take (suc n) (drop k (x ++ y))) ≡ false
    b = rw (folded_run s) at a

    go : (t : Bool) → ltb k (length x) ≡ t → take (suc n) (drop (unfolded_at k 0 s) s) ≡ take (suc n) (drop k (folded 0 s))
    go true e = never (cc (b, gap_within x y k n (joined_gap (take (run is_gap s) s) (run_all is_gap s)) (ltb-true k (length x) e)))
    go false e =
        let i : ℕ = k - length x in
        let z : length x + i ≡ k = omega (arith, ltb-false k (length x) e) in
        let d : drop k (x ++ y) ≡ drop i y = ap (λ (j : ℕ). drop j (x ++ y)) (sym z) ∙ drop-append-add x y i in
        let u : ℕ = unfolded_at i 0 (drop (run is_gap s) s) in
        rw (unfolded_run k s, from_past k (run is_gap s) s (ltb-false k (length x) e), ← drop-drop u (run is_gap s) s, folded_run s, d)
        (h i (suc n) (rw d at b))

stands_none : Stands []
unfolding folded
stands_none k n a = ap (take n) (drop-nil (unfolded_at k 0 []) ∙ sym (drop-nil k))

pub unfolded_part :
    (v : List ℕ) (k n : ℕ) → any is_gap (take n (drop k (folded 0 v))) ≡ false → take n (drop (unfolded_at k 0 v) v) ≡ take n (drop k (folded 0 v))
unfolded_part = by_runs Stands stands_none stands_byte stands_run
