-- The invariant: the text stands as far as it is looked at. After the last turn it stands up to the last word, or no turn was taken.
use Prim.Native.Nat.{◌+◌}
use borrow.Author.Rules.{rules}
use Rattle.lines.proofs.Quads.{Stood, none_stood, word_stood, not_stood, last_word}
use Rattle.lines.proofs.words.stand.Goals as goal
use Rattle.lines.proofs.words.stand.Goals.{else-loop-i-test, then-loop-i-test+else-word+else-last-i-gt4}

pub loop-i-init : goal.loop-i-init
loop-i-init c = search (none_stood, rules)

pub returns-then-word : goal.returns-then-word
returns-then-word c = search (not_stood, rules)

pub loop-i-preserved : goal.loop-i-preserved
loop-i-preserved c = search (word_stood, rules)

pub returns : goal.returns
returns c = elim c.loop-i-test.branch [
  | else-loop-i-test w ↦ search (last_word, rules)
  | then-loop-i-test+else-word+else-last-i-gt4 w ↦
      let stands : Stood c.args.s.now c.args.at c.args.text.now (c.loop-i.i + 4) = search (word_stood, rules) in
      search (last_word, rules)
]
