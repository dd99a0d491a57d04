-- A slot that is kept or not, by the tests of `keeps`; the four stores of one; and what ends the fields where no name stands.
use mathlib.Core.Path.{◌≡◌}
use mathlib.Core.Bool.{Bool, true, false, not, cond}
use mathlib.Core.List.{List}
use Prim.Native.Nat.{ℕ, ◌+◌, ◌≤◌, ◌<◌}
use native.Mathlib.Omega.{arith}
use lib.ListN.{drop}
use borrow.Author.Tests.{eq-eqb, ne_eqb, lt-ltb, le-ltb, lt-leb, le-leb, not-true, not-false}
use Rattle.sip.specs.Lines.{starts_crlf}
use Rattle.std.specs.Prelude.{Option as Answer, None, Some, Ok, Err}
use Rattle.lines.specs.Passes.{slot_for, listed_slot, stored, more, kept, closed_end}
use Rattle.lines.specs.declared.Unread.TheVariants.{BadFields, TooManyFields}
use Rattle.lines.specs.declared.Slot.{Slot}

-- ---- the slot of a field, listed or not

module _ (n v : ℕ) (t : List ℕ) where
  pub unlisted_slot : n < 1 → None ≡ listed_slot n v t
  unfolding listed_slot
  unlisted_slot h = rw (eq-eqb n 0 (omega arith))

  pub listed_slot_lem : 1 ≤ n → {r : Slot} → r ≡ slot_for n v t → Some r ≡ listed_slot n v t
  unfolding listed_slot
  listed_slot_lem h hr = rw (ne_eqb n 0 (λ z. omega arith), hr)

-- ---- where no name stands, the fields end or are bad

module _ (s : List ℕ) (at number count : ℕ) {b : Bool} (hb : b ≡ starts_crlf (drop at s)) where
  pub if_not_empty : not b ≡ true → Err BadFields ≡ cond (starts_crlf (drop at s)) (closed_end number (at + 2) count) (Err BadFields)
  if_not_empty q = rw (← hb, not-true b q)

  module _ (q : not b ≡ false) where
    pub if_few : number ≤ 96 → {k : ℕ} → k ≡ at + 2 → Ok (record { rest = k; count = count }) ≡ cond (starts_crlf (drop at s)) (closed_end number (at + 2) count) (Err BadFields)
    unfolding closed_end
    if_few l z = rw (← hb, not-false b q, le-leb number 96 l, z)

    pub if_many : 96 < number → Err TooManyFields ≡ cond (starts_crlf (drop at s)) (closed_end number (at + 2) count) (Err BadFields)
    unfolding closed_end
    if_many l = rw (← hb, not-false b q, lt-leb number 96 l)

-- ---- a slot that is taken up or not

module _ (ns : List ℕ) (count : ℕ) {o : Answer Slot} {x : Slot} (e : o ≡ Some x) where
  pub full_count : 96 ≤ count → count ≡ more count o
  full_count l = rw (e, le-ltb count 96 l)

  pub full_slots : 96 ≤ count → ns ≡ kept ns count o
  full_slots l = rw (e, le-ltb count 96 l)

  pub kept_count : count < 96 → {k : ℕ} → k ≡ count + 1 → k ≡ more count o
  kept_count l y = rw (e, lt-ltb count 96 l) y

  pub kept_slots : count < 96 → {r : List ℕ} → r ≡ stored ns count x → r ≡ kept ns count o
  kept_slots l y = rw (e, lt-ltb count 96 l) y
