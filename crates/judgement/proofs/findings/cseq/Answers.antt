-- What is found in a CSeq is whether it is one of the method.
use borrow.Author.Rules.{rules}
use mathlib.Core.Path.{◌≡◌, ◌∙◌}
use mathlib.Core.Bool.{Bool}
use mathlib.Core.List.{List}
use Prim.Native.Nat.{ℕ}
use Rattle.sip.specs.Values.{is_cseq}
use Rattle.judgement.specs.declared.Finding.{Finding}
use Rattle.judgement.specs.Tallies.{found, finding}
use Rattle.judgement.proofs.findings.cseq.Goals as goal

sequence_found : (method v : List ℕ) {b : Bool} → b ≡ is_cseq method v → {r : Finding} → r ≡ found b 0 0 → r ≡ finding method 6 v
unfolding finding
sequence_found method v d e = e ∙ rw d

pub returns : goal.returns
returns c = search (sequence_found, rules)
