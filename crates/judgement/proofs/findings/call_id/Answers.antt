-- What is found in a Call-ID is whether it is one.
use borrow.Author.Rules.{rules}
use mathlib.Core.Path.{◌≡◌, ◌∙◌}
use mathlib.Core.Bool.{Bool}
use mathlib.Core.List.{List, []}
use Prim.Native.Nat.{ℕ}
use Rattle.sip.specs.Values.{is_call_id}
use Rattle.judgement.specs.declared.Finding.{Finding}
use Rattle.judgement.specs.Tallies.{found, finding}
use Rattle.judgement.proofs.findings.call_id.Goals as goal

call_found : (v : List ℕ) {b : Bool} → b ≡ is_call_id v → {r : Finding} → r ≡ found b 0 0 → r ≡ finding [] 5 v
unfolding finding
call_found v d e = e ∙ rw d

pub returns : goal.returns
returns c = search (call_found, rules)
