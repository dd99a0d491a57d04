-- `octets::run_escaped` meets its contract.
use mathlib.Core.Path.{◌≡◌, sym, ◌∙◌}
use mathlib.Core.Bool.{Bool, true, false}
use mathlib.Core.List.{List}
use Prim.Native.Nat.{ℕ, ◌+◌, ◌<◌, ◌≤◌}
use native.Mathlib.Omega.{arith}
use lib.ListN.{length, drop, get_or}
use Rattle.octets.specs.Classes.{in_table}
use Rattle.octets.specs.Scans.{run, escape, run_escaped}
use Rattle.octets.proofs.Escapes.{run_escaped_run, run_escaped_yes, run_escaped_stop, run_escaped_escape, run_escaped_end, escape_long}
use Rattle.octets.proofs.run_escaped.Goals as goal

module _ (t : List ℕ) (m : ℕ) (s : List ℕ) (i : ℕ) (e : run_escaped (in_table t m) 0 s ≡ i + run_escaped (in_table t m) 0 (drop i s)) where
  ended : length s ≤ i → i ≡ run_escaped (in_table t m) 0 s
  ended h = omega (arith, run_escaped_end (in_table t m) s i h)

  module _ (h : i < length s) {a : Bool} (ha : a ≡ in_table t m (get_or s i 0)) where
    one : {k : ℕ} → a ≡ true → k ≡ i + 1 → run_escaped (in_table t m) 0 s ≡ k + run_escaped (in_table t m) 0 (drop k s)
    one n z = rw z (omega (arith, run_escaped_yes (in_table t m) s i h (sym ha ∙ n)))

    module _ (n : a ≡ false) {b : Bool} (hb : b ≡ escape (drop i s)) where
      stop : b ≡ false → i ≡ run_escaped (in_table t m) 0 s
      stop q = omega (arith, run_escaped_stop (in_table t m) s i h (sym ha ∙ n) (sym hb ∙ q))

      within : b ≡ true → i + 2 < length s
      within q = escape_long s i (sym hb ∙ q)

      three : {k : ℕ} → b ≡ true → k ≡ i + 3 → run_escaped (in_table t m) 0 s ≡ k + run_escaped (in_table t m) 0 (drop k s)
      three q z = rw z (omega (arith, run_escaped_escape (in_table t m) s i (within q) (sym ha ∙ n) (sym hb ∙ q)))

begins : (t : List ℕ) (m : ℕ) (s : List ℕ) {i : ℕ} → i ≡ run (in_table t m) s
    → run_escaped (in_table t m) 0 s ≡ i + run_escaped (in_table t m) 0 (drop i s)
begins t m s e = rw e (run_escaped_run (in_table t m) s)

pub loop-i-init : goal.loop-i-init
loop-i-init c = search (begins, arith)

pub loop-i-preserved-then-in_class : goal.loop-i-preserved-then-in_class
loop-i-preserved-then-in_class c = search (one, arith)

pub loop-i-preserved : goal.loop-i-preserved
loop-i-preserved c =
    let l = within _ _ _ _ c.loop-i.invariant.1 c.loop-i-test.true c.in_class.ensures c.if-in_class.false c.escape_at.ensures c.if-escape_at.true in
    search (three, arith)

pub returns-else-escape_at : goal.returns-else-escape_at
returns-else-escape_at c = search (stop, arith)

pub returns : goal.returns
returns c = search (ended, arith)
