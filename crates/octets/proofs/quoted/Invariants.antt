-- The invariant: the quoted string is i bytes and those up to the quote that closes it from i on; past the end, none closes.
use mathlib.Core.Path.{◌≡◌}
use mathlib.Core.Bool.{false}
use Prim.Native.Nat.{◌+◌, ◌-◌, ◌≤◌}
use lib.ListN.{length, drop}
use Rattle.octets.specs.Scans.{closes, quoted}
use Rattle.octets.proofs.Quotes.{plus}
use Rattle.octets.proofs.quoted.Given as goal

abbrev pub invariant-loop-i : goal.invariant-loop-i
invariant-loop-i l = (1 ≤ l.i) × (l.i ≤ length l.s + 1) × (quoted l.s ≡ plus l.i (closes false (drop l.i l.s)))

abbrev pub decreases-loop-i : goal.decreases-loop-i
decreases-loop-i l = length l.s + 1 - l.i
