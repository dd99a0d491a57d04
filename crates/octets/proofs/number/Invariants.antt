-- The invariant: i digits are passed, and what they write, read on, is the number of the whole run.
use mathlib.Core.Path.{◌≡◌}
use Prim.Native.Nat.{◌+◌, ◌≤◌}
use lib.ListN.{length, drop}
use Rattle.octets.specs.Classes.{is_digit}
use Rattle.octets.specs.Scans.{run, decimal}
use Rattle.octets.proofs.Numbers.{digits}
use Rattle.octets.proofs.number.Given as goal

abbrev pub invariant-loop-i : goal.invariant-loop-i
invariant-loop-i l = (l.i ≤ length l.s) × (l.value ≤ l.bound) × (run is_digit l.s ≡ l.i + run is_digit (drop l.i l.s)) × (decimal 0 (digits l.s) ≡ decimal l.value (digits (drop l.i l.s)))
