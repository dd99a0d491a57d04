-- `emit::unfolded_at` meets its contract.
use mathlib.Core.Path.{◌≡◌}
use mathlib.Core.Bool.{Bool, true, false}
use mathlib.Core.List.{List}
use Prim.Native.Nat.{ℕ, ◌+◌, ◌-◌, ◌≤◌, ◌<◌}
use native.Mathlib.Omega.{arith}
use lib.ListN.{length, take, drop, get_or, drop_of_length-le}
use Rattle.octets.specs.Classes.{is_gap}
use Rattle.octets.specs.Scans.{run}
use Rattle.sip.specs.Lines.{joined, unfolded_at}
use Rattle.sip.proofs.Unfolded.{unfolded_nil}
use Rattle.emit.proofs.Pieces.{byte_found, byte_past, run_found, run_past}
use Rattle.emit.proofs.unfolded_at.Goals as goal

module _ (v : List ℕ) (k ahead i : ℕ) (e : unfolded_at k 0 v ≡ i + unfolded_at ahead 0 (drop i v)) where
  ended : length v ≤ i → i ≡ unfolded_at k 0 v
  ended h = let z : unfolded_at ahead 0 (drop i v) ≡ 0 = rw (drop_of_length-le v h) (unfolded_nil ahead) in omega arith

  module _ (h : i < length v) {t : Bool} (q : t ≡ is_gap (get_or v i 0)) where
    byte : t ≡ false → ahead < 1 → i ≡ unfolded_at k 0 v
    byte o l = omega (arith, byte_found v i h q o ahead l)

    after_byte : {j x : ℕ} → t ≡ false → 1 ≤ ahead → j ≡ i + 1 → x ≡ ahead - 1 → unfolded_at k 0 v ≡ j + unfolded_at x 0 (drop j v)
    after_byte o l z y = rw y (omega (arith, byte_past v i h q o ahead l z))

    module _ (o : t ≡ true) {j n : ℕ} (z : j ≡ i + 1) (r : n ≡ j + run is_gap (drop j v)) {p : List ℕ} (a : p ≡ take (n - i) (drop i v)) {m : ℕ} (b : m ≡ length (joined p)) where
      gap : {x : ℕ} → ahead < m → x ≡ i + ahead → x ≡ unfolded_at k 0 v
      gap l y = omega (arith, run_found v i h q o z r a ahead b l)

      after_gap : {x : ℕ} → m ≤ ahead → x ≡ ahead - m → unfolded_at k 0 v ≡ n + unfolded_at x 0 (drop n v)
      after_gap l y = rw y (omega (arith, run_past v i h q o z r a ahead b l))

pub returns-then-ahead-size : goal.returns-then-ahead-size
returns-then-ahead-size c = search (gap, arith)

pub loop-i-preserved-then-is_gap : goal.loop-i-preserved-then-is_gap
loop-i-preserved-then-is_gap c = search (after_gap, arith)

pub returns-then-ahead-lt1 : goal.returns-then-ahead-lt1
returns-then-ahead-lt1 c = search (byte, arith)

pub loop-i-preserved : goal.loop-i-preserved
loop-i-preserved c = search (after_byte, arith)

pub returns : goal.returns
returns c = search (ended, arith)
