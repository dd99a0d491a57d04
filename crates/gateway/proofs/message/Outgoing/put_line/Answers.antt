-- The line's parts are written one after the other.
use mathlib.Core.Path.{◌≡◌}
use mathlib.Core.List.{List, [], ◌∷◌, ◌++◌, append_assoc}
use Prim.Native.Nat.{ℕ, ◌+◌, ◌≤◌}
use native.Mathlib.Omega.{arith}
use lib.ListN.{length, length-append}
use borrow.Author.Rules.{rules}
use Rattle.sip.specs.Lines.{crlf}
use Rattle.sip.specs.Profile.{name_of}
use Rattle.sip.specs.Output.{line}
use Rattle.emit.specs.Put.{Wrote}
use Rattle.emit.proofs.Laws.{then, wrote_room, wrote_length, wrote_as}
use Rattle.gateway.proofs.Lines.{line_length}
use Rattle.gateway.proofs.message.Outgoing.put_line.Goals as goal

module _ (n : ℕ) (v d : List ℕ) (at : ℕ) (h : at + length (line n v) ≤ length d) where
  fits : at + (length (name_of n) + 2 + (length v + 2)) ≤ length d
  fits = omega (arith, line_length n v)

  front_length : length (name_of n ++ 58 ∷ 32 ∷ []) ≡ length (name_of n) + 2
  front_length = length-append (name_of n) (58 ∷ 32 ∷ [])

  front_fits : at + (length (name_of n) + 2) ≤ length d
  front_fits = omega (arith, fits)

  module _ {d₁ : List ℕ} {n₁ : ℕ} (p₁ : Wrote d at (name_of n ++ 58 ∷ 32 ∷ []) n₁ d₁) where
    value_fits : n₁ + length v ≤ length d₁
    value_fits = omega (arith, fits, front_length, wrote_length p₁, (wrote_room p₁ (omega (arith, fits, front_length))).0)

    module _ {d₂ : List ℕ} {n₂ : ℕ} (p₂ : Wrote d₁ n₁ v n₂ d₂) where
      end_fits : n₂ + 2 ≤ length d₂
      end_fits =
          omega (arith, fits, front_length, wrote_length p₁, (wrote_room p₁ (omega (arith, fits, front_length))).0, wrote_length p₂, (wrote_room p₂ value_fits).0)

      whole : {d₃ : List ℕ} {r : ℕ} → Wrote d₂ n₂ crlf r d₃ → Wrote d at (line n v) r d₃
      unfolding line
      whole p₃ =
          wrote_as
          (then (then p₁ p₂ (omega (arith, fits, front_length))) p₃ (rw length-append (omega (arith, fits, front_length))))
          (line n v)
          (simp append_assoc)

pub put_front-front-requires : goal.put_front-front-requires
put_front-front-requires c = search (front_fits, rules)

pub put_value-value-requires : goal.put_value-value-requires
put_value-value-requires c = search (value_fits, rules)

pub put-requires : goal.put-requires
put-requires c = search (end_fits, rules)

pub returns : goal.returns
returns c = search whole
