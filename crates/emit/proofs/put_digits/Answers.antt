-- `emit::put_digits` meets its contract.
use mathlib.Core.Path.{◌≡◌, sym, ◌∙◌}
use mathlib.Core.List.{List, [], ◌∷◌, ◌++◌}
use Prim.Native.Nat.{ℕ, suc, ◌+◌, ◌-◌, ◌/◌, ◌≤◌, ◌<◌}
use native.Mathlib.Omega.{arith}
use lib.ListN.{length, set, length-set}
use borrow.Author.Rules.{rules}
use Rattle.emit.specs.Put.{put_at, Wrote}
use Rattle.emit.specs.Digits.{last, lowest}
use Rattle.emit.proofs.Laws.{next_room, put_nil, put_last}
use Rattle.emit.proofs.Numerals.{lowest_length}
use Rattle.emit.proofs.put_digits.Goals as goal

module _ (d : List ℕ) (at n size : ℕ) (h : at + size ≤ length d) (o : List ℕ) (left i : ℕ) (e : put_at o at (lowest i left) ≡ put_at d at (lowest size n)) where
  again : {j b x : ℕ} → 0 < i → i ≤ size → length o ≡ length d → j ≡ i - 1 → b ≡ last left → x ≡ left / 10
      → put_at (set o (at + j) b) at (lowest j x) ≡ put_at d at (lowest size n)
  unfolding lowest
  again {j} {b} {x} p q k z y w =
      let s : i ≡ suc j = omega arith in
      let m : length (lowest j (left / 10)) ≡ j = lowest_length j (left / 10) in
      let f : put_at o at (lowest j (left / 10) ++ (last left ∷ [])) ≡ put_at d at (lowest size n) = rw s at e in
      let g : put_at (set o (at + length (lowest j (left / 10))) (last left)) at (lowest j (left / 10)) ≡ put_at d at (lowest size n)
      = put_last o at (lowest j (left / 10)) (last left) (omega arith) ∙ f in
      rw (y, w) (rw m at g)

  finish : {r : ℕ} → i ≤ 0 → r ≡ at + size → Wrote d at (lowest size n) r o
  unfolding lowest
  finish p z =
      let s : i ≡ 0 = omega arith in
      let w : length (lowest size n) ≡ size = lowest_length size n in
      let f : put_at o at [] ≡ put_at d at (lowest size n) = rw s at e in
      record { next = omega (arith, next_room d at (lowest size n) (omega (arith, w)), w); holds = sym (put_nil o at) ∙ f }

pub loop-i-preserved : goal.loop-i-preserved
loop-i-preserved c = search (again, length-set, rules)

pub returns : goal.returns
returns c = search finish
