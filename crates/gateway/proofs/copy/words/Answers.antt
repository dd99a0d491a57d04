-- The invariant: the first j bytes of s are put. N more are put after them, or over their end (Copies).
use mathlib.Core.Path.{refl, ◌∙◌}
use Prim.Native.Nat.{◌+◌}
use native.Mathlib.Omega.{arith}
use borrow.Author.Rules.{rules}
use Rattle.gateway.proofs.Copies.{none_put, word_more, word_last}
use Rattle.gateway.proofs.copy.words.Goals as goal
use Rattle.gateway.proofs.copy.words.Goals.{else-loop-j-test, then-loop-j-test+else-j-step-last}

pub loop-j-init : goal.loop-j-init
loop-j-init g c = search (none_put, rules)

pub loop-j-preserved : goal.loop-j-preserved
loop-j-preserved g c = search (word_more g.row.N, rules)

pub returns : goal.returns
returns g c = elim c.loop-j-test.branch [
  | else-loop-j-test w ↦
      word_last g.row.N _ _ _ c.requires.2 c.loop-j.j _ (w.out-is ∙ c.loop-j.invariant.2) c.requires.1 (omega arith) (omega arith) c.word-2.ensures (omega arith) c.put-2.ensures
  | then-loop-j-test+else-j-step-last w ↦
      let e = word_more g.row.N _ _ _ c.requires.2 c.loop-j.j _ c.loop-j.invariant.2 w.loop-j-test.true w.word.ensures w.put.ensures refl in
      word_last g.row.N _ _ _ c.requires.2 (c.loop-j.j + g.row.N) _ (w.out-is ∙ e) c.requires.1 (omega arith) (omega arith) c.word-2.ensures (omega arith) c.put-2.ensures
]
