-- The invariant: the name is none of the spellings that are looked at.
use mathlib.Core.Path.{◌≡◌}
use lib.ListN.{drop}
use Rattle.lines.specs.Passes.{among}
use Rattle.lines.proofs.names.among.Given as goal

abbrev pub invariant-loop-spelling : goal.invariant-loop-spelling
invariant-loop-spelling g l = among l.name l.spellings ≡ among l.name (drop l.spelling-index l.spellings)
