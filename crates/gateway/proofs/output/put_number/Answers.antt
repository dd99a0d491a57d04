-- One digit or two are the whole numeral (Numerals of emit).
use mathlib.Core.Path.{◌≡◌, sym}
use mathlib.Core.List.{List, [], ◌∷◌}
use Prim.Native.Nat.{ℕ, ◌+◌, ◌/◌, ◌%◌, ◌≤◌, ◌<◌}
use lib.ListN.{length}
use borrow.Author.Rules.{rules}
use Rattle.sip.specs.Output.{numeral}
use Rattle.emit.specs.Put.{Wrote}
use Rattle.emit.proofs.Laws.{wrote_as}
use Rattle.emit.proofs.Numerals.{numeral_one, numeral_two}
use Rattle.gateway.proofs.output.put_number.Goals as goal

module _ (n : ℕ) (d : List ℕ) (at : ℕ) where
  one_fits : n < 10 → at + length (numeral n) ≤ length d → at + 1 ≤ length d
  one_fits l h = rw (numeral_one n l) at h

  two_fit : 10 ≤ n → n < 100 → at + length (numeral n) ≤ length d → at + 2 ≤ length d
  two_fit k l h = rw (numeral_two n k l) at h

  module _ {r : ℕ} {d' : List ℕ} {b : ℕ} (eb : b ≡ 48 + n % 10) where
    one : n < 10 → Wrote d at (b ∷ []) r d' → Wrote d at (numeral n) r d'
    one l w = wrote_as w (numeral n) (rw eb (sym (numeral_one n l)))

    two : {a : ℕ} → a ≡ 48 + n / 10 % 10 → 10 ≤ n → n < 100 → Wrote d at (a ∷ b ∷ []) r d' → Wrote d at (numeral n) r d'
    two ea k l w = wrote_as w (numeral n) (rw (eb, ea) (sym (numeral_two n k l)))

pub put-requires : goal.put-requires
put-requires c = search (one_fits, rules)

pub returns-then-n-lt10 : goal.returns-then-n-lt10
returns-then-n-lt10 c = search one

pub put-requires-then-n-lt100 : goal.put-requires-then-n-lt100
put-requires-then-n-lt100 c = search (two_fit, rules)

pub returns-then-n-lt100 : goal.returns-then-n-lt100
returns-then-n-lt100 c = search two
