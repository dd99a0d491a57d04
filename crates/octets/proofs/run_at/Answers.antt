-- `octets::run_at` meets its contract.
use mathlib.Core.Path.{◌≡◌}
use mathlib.Core.Bool.{cond}
use mathlib.Core.List.{List}
use Prim.Native.Nat.{ℕ, ◌+◌, ◌<◌, ◌≤◌}
use native.Mathlib.Omega.{arith}
use lib.Dec.{ltb}
use lib.ListN.{drop}
use borrow.Author.Tests.{lt-ltb, le-ltb}
use Rattle.octets.specs.Classes.{in_table}
use Rattle.octets.specs.Scans.{run}
use Rattle.octets.proofs.run_at.Goals as goal

module _ (t : List ℕ) (m : ℕ) (s : List ℕ) (at i : ℕ) (e : at + run (in_table t m) (drop at s) ≡ i + run (in_table t m) (drop i s)) where
  module _ {n : ℕ} (f : run (in_table t m) (drop i s) ≡ n + cond (ltb n 4) 0 (run (in_table t m) (drop (i + 4) s))) where
    -- fewer than four end the run
    stop : {r : ℕ} → n < 4 → r ≡ i + n → r ≡ at + run (in_table t m) (drop at s)
    stop h z = omega (arith, rw (lt-ltb n 4 h) at f)

    -- after four it goes on
    again : {k : ℕ} → 4 ≤ n → n ≤ 4 → k ≡ i + 4 → at + run (in_table t m) (drop at s) ≡ k + run (in_table t m) (drop k s)
    again h l z = rw z (omega (arith, rw (le-ltb n 4 h) at f))

  ended : {r : ℕ} → r ≡ i + run (in_table t m) (drop i s) → r ≡ at + run (in_table t m) (drop at s)
  ended q = omega arith

pub returns-then-more-lt4 : goal.returns-then-more-lt4
returns-then-more-lt4 c = search (stop, arith)

pub loop-i-preserved : goal.loop-i-preserved
loop-i-preserved c = search (again, arith)

pub returns : goal.returns
returns c = search (ended, arith)
