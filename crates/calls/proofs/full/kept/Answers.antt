-- The two halves one after the other are the definition's.
use Rattle.std.proofs.Common.{◌≡◌, ◌∙◌, ap, ℕ, ◌-◌, List, length, take, drop, arith}
use lib.Seq.{take-take}
use Rattle.calls.specs.Parts.{keeping}
use Rattle.calls.proofs.full.kept.Goals as goal

pub returns : goal.returns
unfolding keeping
returns c =
    let v : c.as_flattened.result.now ≡ keeping = c.as_flattened.ensures.value in
    let l : length c.as_flattened.result.now ≡ 130 = c.as_flattened.ensures.len in
    let from : ℕ = 65 - c.args.n in
    (rw c.unwrap.ensures at c.first_chunk.ensures.cases).same
    ∙ take-take 65 (length c.as_flattened.result.now - from) (drop from c.as_flattened.result.now) (omega (arith, l))
    ∙ ap (λ (u : List ℕ). take 65 (drop from u)) v
