-- `octets::four` meets its contract: each byte of the class is one byte of the run, and the first that is not ends it.
use mathlib.Core.Path.{◌≡◌, refl}
use mathlib.Core.Bool.{Bool, true, false, not}
use mathlib.Core.List.{List}
use Prim.Native.Nat.{ℕ, suc, ◌+◌, ◌<◌, ◌≤◌}
use native.Mathlib.Omega.{arith}
use lib.ListN.{length, drop, get_or}
use borrow.Author.Tests.{not-true, not-false}
use Rattle.octets.specs.Classes.{in_table}
use Rattle.octets.specs.Scans.{run}
use Rattle.octets.proofs.Runs.{run_at, run_stop}
use Rattle.octets.proofs.four.Goals as goal

module _ (t : List ℕ) (m : ℕ) (s : List ℕ) where
  -- a byte of the class is one byte of the run
  on : (j k : ℕ) {a : Bool} → j < length s → k ≡ j + 1 → a ≡ in_table t m (get_or s j 0) → not a ≡ false
      → run (in_table t m) (drop j s) ≡ suc (run (in_table t m) (drop k s))
  on j k {a} l z q n = rw z (run_at (in_table t m) s j l (rw (← q) (not-false a n)))

  off : (j : ℕ) {a : Bool} → j < length s → a ≡ in_table t m (get_or s j 0) → not a ≡ true → run (in_table t m) (drop j s) ≡ 0
  off j {a} l q n = run_stop (in_table t m) s j l (rw (← q) (not-true a n))

  module _ (i : ℕ) (h : i + 4 ≤ length s) {a : Bool} (qa : a ≡ in_table t m (get_or s i 0)) where
    none : not a ≡ true → run (in_table t m) (drop i s) ≡ 0
    none n = off i (omega arith) qa n

    module _ (ya : not a ≡ false) {b : Bool} (qb : b ≡ in_table t m (get_or s (i + 1) 0)) where
      one : not b ≡ true → run (in_table t m) (drop i s) ≡ 1
      one n = omega (arith, on i (i + 1) (omega arith) refl qa ya, off (i + 1) (omega arith) qb n)

      module _ (yb : not b ≡ false) {c : Bool} (qc : c ≡ in_table t m (get_or s (i + 2) 0)) where
        after : run (in_table t m) (drop i s) ≡ 2 + run (in_table t m) (drop (i + 2) s)
        after = omega (arith, on i (i + 1) (omega arith) refl qa ya, on (i + 1) (i + 2) (omega arith) (omega arith) qb yb)

        two : not c ≡ true → run (in_table t m) (drop i s) ≡ 2
        two n = omega (arith, after, off (i + 2) (omega arith) qc n)

        module _ (yc : not c ≡ false) {d : Bool} (qd : d ≡ in_table t m (get_or s (i + 3) 0)) where
          three : not d ≡ true → run (in_table t m) (drop i s) ≡ 3
          three n = omega (arith, after, on (i + 2) (i + 3) (omega arith) (omega arith) qc yc, off (i + 3) (omega arith) qd n)

          all_four : not d ≡ false → run (in_table t m) (drop i s) ≡ 4 + run (in_table t m) (drop (i + 4) s)
          all_four yd = omega (arith, after, on (i + 2) (i + 3) (omega arith) (omega arith) qc yc, on (i + 3) (i + 4) (omega arith) (omega arith) qd yd)

pub returns-then-not-in_class : goal.returns-then-not-in_class
returns-then-not-in_class c = search (none, arith)

pub returns-then-not-in_class-2 : goal.returns-then-not-in_class-2
returns-then-not-in_class-2 c = search (one, arith)

pub returns-then-not-in_class-3 : goal.returns-then-not-in_class-3
returns-then-not-in_class-3 c = search (two, arith)

pub returns-then-not-in_class-4 : goal.returns-then-not-in_class-4
returns-then-not-in_class-4 c = search (three, arith)

pub returns : goal.returns
returns c = search (all_four, arith)
