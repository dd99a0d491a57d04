-- The invariant: what is read so far, and the parameters after it, are those of the whole text. Each turn reads a parameter of at least one byte.
use Rattle.std.proofs.Common.{◌≡◌, ◌+◌, ◌-◌, ◌≤◌, length, drop}
use Rattle.sip.specs.Values.{params, no_params}
use Rattle.values.proofs.param.params.Given as goal

abbrev pub invariant-loop-p : goal.invariant-loop-p
invariant-loop-p l = (l.got.size ≤ length l.s) × (l.got.tag + l.got.len ≤ l.got.size) × (params no_params 0 l.s ≡ params l.got 0 (drop l.got.size l.s))

abbrev pub decreases-loop-p : goal.decreases-loop-p
decreases-loop-p l = length l.s - l.got.size
