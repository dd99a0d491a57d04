-- `emit::folded_len` meets its contract.
use mathlib.Core.Path.{◌≡◌, ap, ◌∙◌}
use mathlib.Core.Bool.{Bool, true, false}
use mathlib.Core.List.{List}
use Prim.Native.Nat.{ℕ, ◌+◌, ◌-◌, ◌≤◌, ◌<◌}
use native.Mathlib.Omega.{arith}
use lib.ListN.{length, take, drop, get_or, length-append}
use Rattle.octets.specs.Classes.{is_gap}
use Rattle.octets.specs.Scans.{run}
use Rattle.sip.specs.Lines.{joined, folded}
use Rattle.emit.proofs.Pieces.{byte_folded, run_folded, folded_end}
use Rattle.emit.proofs.folded_len.Goals as goal

module _ (v : List ℕ) (size i : ℕ) (e : size + length (folded 0 (drop i v)) ≡ length (folded 0 v)) where
  finish : length v ≤ i → size ≡ length (folded 0 v)
  finish h = omega (arith, ap length (folded_end v h))

  module _ (h : i < length v) {t : Bool} (q : t ≡ is_gap (get_or v i 0)) {j : ℕ} (z : j ≡ i + 1) where
    byte : {n : ℕ} → t ≡ false → n ≡ size + 1 → n + length (folded 0 (drop j v)) ≡ length (folded 0 v)
    byte o y = omega (arith, ap length (byte_folded v i h q o z))

    gap : {k m n : ℕ} {p : List ℕ} → t ≡ true → k ≡ j + run is_gap (drop j v) → p ≡ take (k - i) (drop i v) → m ≡ length (joined p) → n ≡ size + m
        → n + length (folded 0 (drop k v)) ≡ length (folded 0 v)
    gap {k} {m} {n} {p} o r a b y =
        omega (arith, ap length (run_folded v i h q o z r a) ∙ length-append (joined p) (folded 0 (drop k v)))

pub loop-i-preserved-then-is_gap : goal.loop-i-preserved-then-is_gap
loop-i-preserved-then-is_gap c = search (gap, arith)

pub loop-i-preserved : goal.loop-i-preserved
loop-i-preserved c = search (byte, arith)

pub returns : goal.returns
returns c = search (finish, arith)
