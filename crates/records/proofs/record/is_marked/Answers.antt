-- As far as the text goes.
use mathlib.Core.Path.{◌≡◌}
use mathlib.Core.Bool.{Bool}
use mathlib.Core.List.{List, [], ◌∷◌}
use Prim.Native.Nat.{ℕ}
use lib.ListN.{length, take}
use Rattle.octets.specs.Classes.{text}
use Rattle.octets.specs.Scans.{same}
use Rattle.records.specs.Records.{mark, marked}
use borrow.Author.Rules.{rules}
use Rattle.records.proofs.record.is_marked.Goals as goal

begins : (s : List ℕ) {a b : List ℕ} {t : Bool} → a ≡ take (length s) (83 ∷ 78 ∷ []) → b ≡ take 2 s → t ≡ same a b → t ≡ marked s
unfolding marked mark text
begins s p q e = rw (← p, ← q) e

pub returns : goal.returns
returns c = search (begins, rules)
