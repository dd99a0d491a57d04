-- The constant is the definition's set, which computes, and that set is the test.
use mathlib.Core.Path.{◌≡◌, ◌∙◌}
use mathlib.Core.Bool.{Bool}
use Prim.Native.Nat.{ℕ}
use Rattle.sip.specs.Profile.{once, numbers, find, rows}
use Rattle.judgement.specs.Sets.{has, once_set, set_of}
use Rattle.judgement.proofs.Members.{once_has}
use Rattle.judgement.proofs.sets.is_once.Goals as goal

is : {r : Bool} (n : ℕ) → r ≡ has once_set n → r ≡ once n
is n e = e ∙ once_has n

pub returns : goal.returns
unfolding once_set set_of once numbers find rows
returns c = search is
