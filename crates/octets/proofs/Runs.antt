-- Laws of `run` and `all`, by induction on the text and by the test of its first byte; at a place and in a loop, by the byte that stands there.
use mathlib.Core.Path.{◌≡◌, refl, sym, ap, ◌∙◌}
use mathlib.Core.Bool.{Bool, true, false, not}
use mathlib.Core.List.{List, [], ◌∷◌, ◌++◌, append-nil}
use Prim.Native.Nat.{ℕ, suc, ◌+◌, ◌≤◌, ◌<◌}
use native.Mathlib.Omega.{arith}
use lib.ListN.{length, take, drop, get_or, drop_of_length-le}
use lib.Seq.{take-length}
use borrow.Author.Tests.{not-true, not-false}
use Rattle.std.specs.List.{list_any}
use Rattle.octets.specs.Scans.{run, all, any}
use Rattle.octets.proofs.Places.{drop1}

module _ (p : ℕ → Bool) where
  pub run_nil : run p [] ≡ 0
  unfolding run
  run_nil = refl

  pub run_yes : (b : ℕ) (s : List ℕ) → p b ≡ true → run p (b ∷ s) ≡ suc (run p s)
  unfolding run
  run_yes b s e = rw e

  pub run_no : (b : ℕ) (s : List ℕ) → p b ≡ false → run p (b ∷ s) ≡ 0
  unfolding run
  run_no b s e = rw e

  -- by the first byte, what holds of every text
  pub by_first : (P : List ℕ → Type 0) → P []
      → ((b : ℕ) (s : List ℕ) → P s → p b ≡ true → P (b ∷ s)) → ((b : ℕ) (s : List ℕ) → p b ≡ false → P (b ∷ s))
      → (s : List ℕ) → P s
  by_first P n y o [] = n
  by_first P n y o (b ∷ s) = go (p b) refl (by_first P n y o s)
    where
      go : (t : Bool) → p b ≡ t → P s → P (b ∷ s)
      go true e h = y b s h e
      go false e h = o b s e

  pub run_le : (s : List ℕ) → run p s ≤ length s
  run_le =
      by_first (λ s. run p s ≤ length s) (omega (arith, run_nil)) (λ b s h e. omega (arith, run_yes b s e)) (λ b s e. omega (arith, run_no b s e))

  -- the run's bytes are of the class
  pub run_all : (s : List ℕ) → all p (take (run p s) s) ≡ true
  unfolding all
  run_all =
      by_first (λ s. all p (take (run p s) s) ≡ true) (rw run_nil) (λ b s h e. rw (run_yes b s e, e) h) (λ b s e. rw (run_no b s e))

  -- nothing of the class stands after the run
  pub run_after : (s : List ℕ) → run p (drop (run p s) s) ≡ 0
  run_after =
      by_first (λ s. run p (drop (run p s) s) ≡ 0) (rw run_nil run_nil) (λ b s h e. rw (run_yes b s e) h) (λ b s e. rw (run_no b s e) (run_no b s e))

  all_first : (b : ℕ) (s : List ℕ) → all p (b ∷ s) ≡ true → (p b ≡ true) × (all p s ≡ true)
  unfolding all
  all_first b s e = go (p b) refl
    where
      go : (t : Bool) → p b ≡ t → (p b ≡ true) × (all p s ≡ true)
      go true q = (q, rw q at e)
      go false q = let z : false ≡ true = rw q at e in absurd (let w : ◌≡◌ {A = ℕ} 0 1 = cc in omega arith)

  -- a run goes on over bytes of the class
  pub run_append : (xs ys : List ℕ) → all p xs ≡ true → run p (xs ++ ys) ≡ length xs + run p ys
  run_append [] ys e = omega arith
  run_append (b ∷ xs) ys e =
      let f : (p b ≡ true) × (all p xs ≡ true) = all_first b xs e in
      omega (arith, run_yes b (xs ++ ys) f.0, run_append xs ys f.1)

  -- bytes of the class, and then none, or the end
  pub run_exact : (xs ys : List ℕ) → all p xs ≡ true → run p ys ≡ 0 → run p (xs ++ ys) ≡ length xs
  run_exact xs ys e z = omega (arith, run_append xs ys e)

  -- a run of the whole text
  pub run_whole : (s : List ℕ) → all p s ≡ true → run p s ≡ length s
  run_whole s e = ap (run p) (sym (append-nil s)) ∙ run_exact s [] e run_nil

  pub whole_all : (s : List ℕ) → run p s ≡ length s → all p s ≡ true
  whole_all s e = ap (all p) (sym (take-length s)) ∙ ap (λ (n : ℕ). all p (take n s)) (sym e) ∙ run_all s

  module _ (s : List ℕ) (i : ℕ) where
    pub run_end : length s ≤ i → run p (drop i s) ≡ 0
    run_end h = rw (drop_of_length-le s h) run_nil

    module _ (h : i < length s) where
      pub run_at : p (get_or s i 0) ≡ true → run p (drop i s) ≡ suc (run p (drop (i + 1) s))
      run_at e = rw (drop1 s i h) (run_yes (get_or s i 0) (drop (i + 1) s) e)

      pub run_stop : p (get_or s i 0) ≡ false → run p (drop i s) ≡ 0
      run_stop e = rw (drop1 s i h) (run_no (get_or s i 0) (drop (i + 1) s) e)

-- ---- a loop over the bytes of a run that ends at n: it has come to i

module _ (p : ℕ → Bool) (s : List ℕ) (n i : ℕ) (e : n ≡ i + run p (drop i s)) where
  pub loop_over : length s ≤ i → i ≡ n
  loop_over h = omega (arith, run_end p s i h)

  module _ (h : i < length s) {a : Bool} (q : a ≡ p (get_or s i 0)) where
    pub loop_stop : not a ≡ true → i ≡ n
    loop_stop t = omega (arith, run_stop p s i h (rw (← q) (not-true a t)))

    pub loop_next : {k : ℕ} → not a ≡ false → k ≡ i + 1 → n ≡ k + run p (drop k s)
    loop_next t z = rw z (omega (arith, run_at p s i h (rw (← q) (not-false a t))))

-- ---- the library's search

pub any_list : (p : ℕ → Bool) (s : List ℕ) → list_any p s ≡ any p s
unfolding any
any_list p [] = refl
any_list p (b ∷ s) = rw (any_list p s)

pub any_from : (p : ℕ → Bool) (s : List ℕ) {r : Bool} → r ≡ list_any p s → r ≡ any p s
any_from p s e = e ∙ any_list p s
