-- Each turn takes a record or is the last (Texts).
use mathlib.Core.Path.{◌≡◌}
use lib.ListN.{length}
use Rattle.records.specs.Running.{state_of}
use Rattle.records.proofs.Texts.{Turn}
use Rattle.replay.proofs.replay.Given as goal

abbrev pub invariant-loop : goal.invariant-loop
invariant-loop g l = (length l.space ≡ 65540) × Turn (state_of l.st l.calls) l.counter
