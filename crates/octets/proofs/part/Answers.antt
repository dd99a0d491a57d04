-- A part within the text is the slice; any other is the first bytes of what is left.
use mathlib.Core.Path.{◌≡◌, ap, ◌∙◌}
use mathlib.Core.List.{List}
use Prim.Native.Nat.{ℕ, ◌+◌, ◌-◌, min}
use native.Mathlib.Omega.{arith}
use lib.ListN.{length, take, drop, length-take, length-drop}
use borrow.Author.Rules.{rules}
use Rattle.octets.proofs.part.Goals as goal

module _ (s : List ℕ) (start len : ℕ) where
  inside : take (start + len - start) (drop start s) ≡ take len (drop start s)
  inside = let e : start + len - start ≡ len = omega arith in rw e

  inside_long : length (take (start + len - start) (drop start s)) ≡ min len (length s - start)
  inside_long = ap length inside ∙ length-take len (drop start s) ∙ rw (length-drop start s)

  cut : {a b : List ℕ} → a ≡ drop start s → b ≡ take len a → b ≡ take len (drop start s)
  cut p q = q ∙ ap (take len) p

pub returns-then-len-s : goal.returns-then-len-s
returns-then-len-s c = search (inside, inside_long)

pub returns : goal.returns
returns c = search (cut, rules)
