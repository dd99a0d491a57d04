-- Five bytes are asked for.
use mathlib.Core.Path.{◌≡◌, sym}
use mathlib.Core.List.{List}
use Prim.Native.Nat.{ℕ, ◌≤◌}
use native.Mathlib.Omega.{arith}
use lib.ListN.{length, take, length-take}
use lib.Seq.{length-take-le}
use borrow.Author.Rules.{rules}
use Rattle.replay.proofs.read_head.Goals as goal

five_long : (a : List ℕ) → 5 ≤ length a → 5 ≡ length (take 5 a)
five_long a l = sym (length-take-le 5 a l)

five : (a q : List ℕ) {n : ℕ} → n ≤ length q → length q ≡ length (take 5 a) → n ≤ 5
five a q l e = omega (arith, length-take 5 a)

pub slice_bounds-read_full-end-2 : goal.slice_bounds-read_full-end-2
slice_bounds-read_full-end-2 c = search (five_long, rules)

pub returns : goal.returns
returns c = search (five, rules)
