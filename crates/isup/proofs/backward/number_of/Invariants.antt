-- The first i digits stand behind the prefix (Decoding).
use Rattle.std.proofs.Common.{◌≡◌, ◌∷◌, ◌++◌}
use Rattle.isup.specs.Held.{held}
use Rattle.isup.specs.Steps.{digits}
use Rattle.isup.proofs.backward.number_of.Given as goal

abbrev pub invariant-loop-i : goal.invariant-loop-i
invariant-loop-i l = held l.number ≡ 43 ∷ (l.prefix ++ digits l.i l.s)
