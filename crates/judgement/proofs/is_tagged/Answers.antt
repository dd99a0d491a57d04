-- What is found in a value of To is where its tag stands.
use mathlib.Core.Path.{◌≡◌}
use mathlib.Core.Bool.{not, ◌&&◌}
use mathlib.Core.List.{List, []}
use Prim.Native.Nat.{ℕ, ◌≤◌}
use lib.Dec.{leb, eqb}
use lib.ListN.{length}
use borrow.Author.Tests.{le-leb}
use Rattle.sip.specs.Lines.{folded}
use Rattle.sip.specs.Values.{is_tagged}
use Rattle.judgement.specs.declared.Finding.{Finding}
use Rattle.judgement.specs.Tallies.{finding}
use borrow.Author.Rules.{rules}
use Rattle.judgement.proofs.is_tagged.Goals as goal

tag_found : (v : List ℕ) → length v ≤ 8192 → {f : Finding} → f ≡ finding [] 4 (folded 0 v) → not (eqb f.len 0) ≡ (leb (length v) 8192 && is_tagged (folded 0 v))
unfolding finding is_tagged
tag_found v h e = rw (le-leb (length v) 8192 h, e)

pub returns : goal.returns
returns c = search (tag_found, rules)
