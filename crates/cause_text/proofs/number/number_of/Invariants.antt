-- The loop's invariant: all so far are digits and make v, below 10 to their number, and the rest is read from there.
use mathlib.Core.Path.{◌≡◌}
use Prim.Native.Nat.{◌<◌, ◌^◌}
use lib.ListN.{drop}
use Rattle.octets.specs.Classes.{is_digit}
use Rattle.octets.specs.Scans.{all, decimal}
use Rattle.cause_text.proofs.number.number_of.Given as goal

abbrev pub invariant-loop-b : goal.invariant-loop-b
invariant-loop-b l =
    (l.v < 10 ^ l.b-index) × (decimal 0 l.s ≡ decimal l.v (drop l.b-index l.s)) × (all is_digit l.s ≡ all is_digit (drop l.b-index l.s))
