-- Each arm writes the front of its number, which is computed; where the number is not listed the name is empty.
use mathlib.Core.Path.{◌≡◌}
use mathlib.Core.Bool.{false}
use mathlib.Core.List.{List, [], ◌∷◌, ◌++◌, map}
use Prim.Native.Nat.{ℕ, ◌+◌, ◌≤◌}
use lib.ListN.{length}
use borrow.Author.Tests.{ne_eqb}
use Rattle.octets.specs.Classes.{among, text}
use Rattle.sip.specs.Profile.{Row, name_of, find, rows}
use Rattle.judgement.proofs.Members.{find_none}
use Rattle.emit.specs.Put.{Wrote}
use Rattle.gateway.proofs.names.put_front.Goals as goal

abbrev colon : List ℕ
colon = 58 ∷ 32 ∷ []

named : (k : ℕ) {n : ℕ} → n ≡ k → {d : List ℕ} {at r : ℕ} {d' : List ℕ} → Wrote d at (name_of k ++ colon) r d' → Wrote d at (name_of n ++ colon) r d'
named k e w = rw e w

fits : (k : ℕ) {n : ℕ} → n ≡ k → (d : List ℕ) (at : ℕ) → at + (length (name_of n) + 2) ≤ length d → at + (length (name_of k) + 2) ≤ length d
fits k e d at h = rw e at h

unlisted : (n : ℕ) → (n ≡ 1 → ⊥) → (n ≡ 2 → ⊥) → (n ≡ 3 → ⊥) → (n ≡ 4 → ⊥) → (n ≡ 5 → ⊥) → (n ≡ 6 → ⊥) → (n ≡ 7 → ⊥) → (n ≡ 8 → ⊥) → (n ≡ 9 → ⊥)
    → (n ≡ 10 → ⊥) → (n ≡ 11 → ⊥) → (n ≡ 12 → ⊥) → (n ≡ 13 → ⊥) → (n ≡ 14 → ⊥) → (n ≡ 15 → ⊥) → (n ≡ 16 → ⊥) → (n ≡ 17 → ⊥) → (n ≡ 18 → ⊥)
    → {d : List ℕ} {at r : ℕ} {d' : List ℕ} → Wrote d at colon r d' → Wrote d at (name_of n ++ colon) r d'
unfolding name_of rows
unlisted n h1 h2 h3 h4 h5 h6 h7 h8 h9 h10 h11 h12 h13 h14 h15 h16 h17 h18 w =
    let none_listed : among (map (λ (r : Row). r.number) rows) n ≡ false
    = simp (
      ne_eqb n 1 h1,
      ne_eqb n 2 h2,
      ne_eqb n 3 h3,
      ne_eqb n 4 h4,
      ne_eqb n 5 h5,
      ne_eqb n 6 h6,
      ne_eqb n 7 h7,
      ne_eqb n 8 h8,
      ne_eqb n 9 h9,
      ne_eqb n 10 h10,
      ne_eqb n 11 h11,
      ne_eqb n 12 h12,
      ne_eqb n 13 h13,
      ne_eqb n 14 h14,
      ne_eqb n 15 h15,
      ne_eqb n 16 h16,
      ne_eqb n 17 h17,
      ne_eqb n 18 h18,
    ) in
    let empty : name_of n ≡ [] = rw (name_of, find_none rows n none_listed) in
    rw empty w

pub put-requires : goal.put-requires
unfolding name_of find rows text
put-requires c = search (fits 1)

pub put-requires-in-2 : goal.put-requires-in-2
unfolding name_of find rows text
put-requires-in-2 c = search (fits 2)

pub put-requires-in-3 : goal.put-requires-in-3
unfolding name_of find rows text
put-requires-in-3 c = search (fits 3)

pub put-requires-in-4 : goal.put-requires-in-4
unfolding name_of find rows text
put-requires-in-4 c = search (fits 4)

pub put-requires-in-5 : goal.put-requires-in-5
unfolding name_of find rows text
put-requires-in-5 c = search (fits 5)

pub put-requires-in-6 : goal.put-requires-in-6
unfolding name_of find rows text
put-requires-in-6 c = search (fits 6)

pub put-requires-in-7 : goal.put-requires-in-7
unfolding name_of find rows text
put-requires-in-7 c = search (fits 7)

pub put-requires-in-8 : goal.put-requires-in-8
unfolding name_of find rows text
put-requires-in-8 c = search (fits 8)

pub put-requires-in-9 : goal.put-requires-in-9
unfolding name_of find rows text
put-requires-in-9 c = search (fits 9)

pub put-requires-in-10 : goal.put-requires-in-10
unfolding name_of find rows text
put-requires-in-10 c = search (fits 10)

pub put-requires-in-11 : goal.put-requires-in-11
unfolding name_of find rows text
put-requires-in-11 c = search (fits 11)

pub put-requires-in-12 : goal.put-requires-in-12
unfolding name_of find rows text
put-requires-in-12 c = search (fits 12)

pub put-requires-in-13 : goal.put-requires-in-13
unfolding name_of find rows text
put-requires-in-13 c = search (fits 13)

pub put-requires-in-14 : goal.put-requires-in-14
unfolding name_of find rows text
put-requires-in-14 c = search (fits 14)

pub put-requires-in-15 : goal.put-requires-in-15
unfolding name_of find rows text
put-requires-in-15 c = search (fits 15)

pub put-requires-in-16 : goal.put-requires-in-16
unfolding name_of find rows text
put-requires-in-16 c = search (fits 16)

pub put-requires-in-17 : goal.put-requires-in-17
unfolding name_of find rows text
put-requires-in-17 c = search (fits 17)

pub put-requires-in-18 : goal.put-requires-in-18
unfolding name_of find rows text
put-requires-in-18 c = search (fits 18)

pub returns-in-1 : goal.returns-in-1
unfolding name_of find rows text
returns-in-1 c = search (named 1)

pub returns-in-2 : goal.returns-in-2
unfolding name_of find rows text
returns-in-2 c = search (named 2)

pub returns-in-3 : goal.returns-in-3
unfolding name_of find rows text
returns-in-3 c = search (named 3)

pub returns-in-4 : goal.returns-in-4
unfolding name_of find rows text
returns-in-4 c = search (named 4)

pub returns-in-5 : goal.returns-in-5
unfolding name_of find rows text
returns-in-5 c = search (named 5)

pub returns-in-6 : goal.returns-in-6
unfolding name_of find rows text
returns-in-6 c = search (named 6)

pub returns-in-7 : goal.returns-in-7
unfolding name_of find rows text
returns-in-7 c = search (named 7)

pub returns-in-8 : goal.returns-in-8
unfolding name_of find rows text
returns-in-8 c = search (named 8)

pub returns-in-9 : goal.returns-in-9
unfolding name_of find rows text
returns-in-9 c = search (named 9)

pub returns-in-10 : goal.returns-in-10
unfolding name_of find rows text
returns-in-10 c = search (named 10)

pub returns-in-11 : goal.returns-in-11
unfolding name_of find rows text
returns-in-11 c = search (named 11)

pub returns-in-12 : goal.returns-in-12
unfolding name_of find rows text
returns-in-12 c = search (named 12)

pub returns-in-13 : goal.returns-in-13
unfolding name_of find rows text
returns-in-13 c = search (named 13)

pub returns-in-14 : goal.returns-in-14
unfolding name_of find rows text
returns-in-14 c = search (named 14)

pub returns-in-15 : goal.returns-in-15
unfolding name_of find rows text
returns-in-15 c = search (named 15)

pub returns-in-16 : goal.returns-in-16
unfolding name_of find rows text
returns-in-16 c = search (named 16)

pub returns-in-17 : goal.returns-in-17
unfolding name_of find rows text
returns-in-17 c = search (named 17)

pub returns-in-18 : goal.returns-in-18
unfolding name_of find rows text
returns-in-18 c = search (named 18)

pub returns-in_default : goal.returns-in_default
returns-in_default c = search unlisted
