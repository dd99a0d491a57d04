-- Every text, record by record: the whole record at its front is one by itself, and what is left is shorter. So every text is cut into pieces.
use mathlib.Core.Path.{◌≡◌, refl, ap}
use mathlib.Core.Bool.{Bool, true, false}
use mathlib.Core.List.{List, [], ◌∷◌, ◌++◌, append-nil}
use Prim.Native.Nat.{ℕ, zero, suc, ◌+◌, ◌*◌, ◌<◌}
use native.Mathlib.Omega.{arith}
use lib.Dec.{eqb}
use lib.ListN.{length, take, drop, length-drop, take-append-drop}
use lib.Seq.{length-take-le}
use borrow.Author.Tests.{le-leb, eqb-true, eqb-false}
use Rattle.octets.specs.Classes.{text}
use Rattle.records.specs.Records.{mark, marked, record_size, refusal_at}
use Rattle.records.specs.Pieces.{last_piece, next_piece, joined_pieces}
use Rattle.records.specs.Promises.{Cut, EveryText}
use Rattle.records.proofs.Steps.{whole_fits, whole_marked, Five, five, five_bytes}

-- the first record by itself
record Alone (p : List ℕ) : Type 0 where
  whole : refusal_at p ≡ 0
  sized : length p ≡ record_size p

alone : {s : List ℕ} → Five s → refusal_at s ≡ 0 → Alone (take (record_size s) s)
unfolding refusal_at marked mark text
alone (five a b c d f m) e =
    let s : List ℕ = a ∷ b ∷ c ∷ d ∷ f ∷ m in
    let n : ℕ = 256 * d + f in
    let p : List ℕ = a ∷ b ∷ c ∷ d ∷ f ∷ take n m in
    let k : 5 + n ≡ suc (suc (suc (suc (suc n)))) = omega arith in
    let q : take (5 + n) s ≡ p = ap (λ (i : ℕ). take i s) k in
    let l : length (take n m) ≡ n = length-take-le n m (omega (arith, whole_fits s e)) in
    let y : marked p ≡ true = whole_marked s e in
    rw q (record { whole = rw (y, le-leb (5 + n) (length p) (omega arith)); sized = omega arith })

-- what holds of nothing, of what is no record, and of a record and a text if it holds of the text holds of every text
module _ (P : List ℕ → Type 0) (none : P []) (refused : (b : ℕ) (s : List ℕ) → (refusal_at (b ∷ s) ≡ 0 → ⊥) → P (b ∷ s))
    (next : (p s : List ℕ) → refusal_at p ≡ 0 → length p ≡ record_size p → P s → P (p ++ s)) where
  one_less : (s : List ℕ) → ((t : List ℕ) → length t < length s → P t) → P s
  one_less [] later = none
  one_less (b ∷ s) later = go (eqb (refusal_at (b ∷ s)) 0) refl
    where
      go : (t : Bool) → eqb (refusal_at (b ∷ s)) 0 ≡ t → P (b ∷ s)
      go true q =
          let k : ℕ = record_size (b ∷ s) in
          let e : refusal_at (b ∷ s) ≡ 0 = eqb-true (refusal_at (b ∷ s)) 0 q in
          let h = alone (five_bytes (b ∷ s) (omega (arith, whole_fits (b ∷ s) e))) e in
          let g : P (drop k (b ∷ s)) = later (drop k (b ∷ s)) (omega (arith, length-drop k (b ∷ s))) in
          rw (take-append-drop k (b ∷ s)) at (next (take k (b ∷ s)) (drop k (b ∷ s)) h.whole h.sized g)
      go false q = refused b s (eqb-false (refusal_at (b ∷ s)) 0 q)

  of_length : (n : ℕ) (s : List ℕ) → length s < n → P s
  of_length zero s l = absurd (omega arith)
  of_length (suc n) s l = one_less s (λ t k. of_length n t (omega arith))

  pub by_records : (s : List ℕ) → P s
  by_records s = of_length (suc (length s)) s (omega arith)

last_cut : (s : List ℕ) → (refusal_at s ≡ 0 → ⊥) → Cut s
unfolding joined_pieces
last_cut s nz = record { pieces = s ∷ []; are_pieces = last_piece (λ e. absurd (nz e)); joined = append-nil s }

next_cut : (p s : List ℕ) → refusal_at p ≡ 0 → length p ≡ record_size p → Cut s → Cut (p ++ s)
unfolding joined_pieces
next_cut p s e x c = record { pieces = p ∷ c.pieces; are_pieces = next_piece e (λ _. x) c.are_pieces; joined = rw c.joined }

pub every_text : EveryText
every_text = by_records Cut (last_cut [] (λ e. omega (arith, whole_fits [] e))) (λ b s nz. last_cut (b ∷ s) nz) next_cut
