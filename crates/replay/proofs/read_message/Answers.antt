-- What stands before stays.
use mathlib.Core.Path.{◌≡◌, refl}
use mathlib.Core.List.{List, ◌++◌}
use Prim.Native.Nat.{ℕ, ◌+◌, ◌-◌, ◌≤◌}
use native.Mathlib.Omega.{arith}
use lib.ListN.{length, take, drop, length-take}
use Rattle.records.specs.Pieces.{Filled}
use borrow.Author.Rules.{rules}
use Rattle.replay.proofs.read_message.Goals as goal

filled : (a q r : List ℕ) (len : ℕ) {got : ℕ} → got ≤ length q → length q ≡ length (take (5 + len - 5) (drop 5 a)) → Filled a (take 5 a ++ (q ++ r)) len got
filled a q r len l e = record { part = q; rest = r; holds = refl; there = l; few = omega (arith, length-take (5 + len - 5) (drop 5 a)) }

pub returns : goal.returns
returns g c = search (filled, rules)
