-- A run of the whole text is a test of all its bytes, and so is a fold. A run ends at the first byte outside its class.
use Rattle.std.proofs.Common.{◌≡◌, ℕ, suc, ◌+◌, ◌≤◌, Bool, true, false, not, cond, ◌&&◌, List, [], ◌∷◌, Option, Some, None, length, fold, refl, sym, ◌∙◌, eqb, ltb, unwrap_or, arith}
use borrow.Author.Tests.{eqb-true, eqb-false, ltb-false}
use Rattle.std.specs.List.{position_or_len}
use Rattle.std.proofs.lemmas.List.Recursion.{is_position_or_len}
use Rattle.octets.specs.Scans.{run, all}
use Rattle.octets.proofs.Runs.{run_le, run_whole, whole_all}

pub all_run : (p : ℕ → Bool) (s : List ℕ) → all p s ≡ eqb (run p s) (length s)
all_run p s = go (all p s) (eqb (run p s) (length s)) refl refl
  where
    go : (a t : Bool) → all p s ≡ a → eqb (run p s) (length s) ≡ t → a ≡ t
    go true true x e = refl
    go false false x e = refl
    go true false x e = absurd (eqb-false (run p s) (length s) e (run_whole p s x))
    go false true x e = sym x ∙ whole_all p s (eqb-true (run p s) (length s) e)

-- all that follow after a test that was passed, or not
fold_from : (p : ℕ → Bool) (a : Bool) (s : List ℕ) → fold (λ (seen : Bool) (b : ℕ). seen && p b) a s ≡ (a && all p s)
unfolding all
fold_from p true [] = refl
fold_from p false [] = refl
fold_from p true (b ∷ s) = fold_from p (p b) s
fold_from p false (b ∷ s) = fold_from p false s

pub all_seen : (p : ℕ → Bool) (s : List ℕ) {a : Bool} → a ≡ fold (λ (seen : Bool) (b : ℕ). seen && p b) true s → a ≡ all p s
all_seen p s h = h ∙ fold_from p true s

-- p is the class of the run, and q finds the first byte outside it
module _ (p q : ℕ → Bool) (h : (x : ℕ) → p x ≡ not (q x)) where
  run_is : (s : List ℕ) → run p s ≡ position_or_len q s
  unfolding run
  run_is = is_position_or_len (run p) q refl (λ x xs. rw (h x) (go (q x) (run p xs)))
    where
      go : (t : Bool) (n : ℕ) → cond (not t) (suc n) 0 ≡ cond t 0 (1 + n)
      go true n = refl
      go false n = omega arith

  pub position_run : (s : List ℕ) {r : Option ℕ} → r ≡ cond (ltb (position_or_len q s) (length s)) (Some (position_or_len q s)) None → unwrap_or r (length s) ≡ run p s
  position_run s e = rw (e, run_is s) (go (position_or_len q s) (length s) (omega (arith, run_is s, run_le p s)))
    where
      go : (n l : ℕ) → n ≤ l → unwrap_or (cond (ltb n l) (Some n) None) l ≡ n
      go n l d = pick (ltb n l) refl
        where
          pick : (t : Bool) → ltb n l ≡ t → unwrap_or (cond t (Some n) None) l ≡ n
          pick true y = refl
          pick false y = omega (arith, ltb-false n l y)
