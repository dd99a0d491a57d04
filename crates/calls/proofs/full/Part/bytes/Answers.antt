-- A part of a part.
use Rattle.std.proofs.Common.{◌∙◌, ◌-◌, drop, arith}
use lib.Seq.{take-take}
use Rattle.calls.proofs.full.Part.bytes.Goals as goal

pub returns : goal.returns
returns c =
    (rw c.unwrap.ensures at c.first_chunk.ensures.cases).same
    ∙ rw (← c.start.ensures.0) (take-take 65 (194 - c.start.result) (drop c.start.result c.args.place.now) (omega (arith, c.start.ensures.1)))
