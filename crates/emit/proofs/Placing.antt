-- One text placed after the other, by the lengths of the parts.
use mathlib.Core.Path.{◌≡◌, sym, ◌∙◌}
use mathlib.Core.List.{List, [], ◌∷◌, ◌++◌}
use Prim.Native.Nat.{ℕ, ◌+◌, ◌≤◌}
use native.Mathlib.Omega.{arith}
use lib.ListN.{length, take, drop, length-append}
use lib.Seq.{take-append_seam}
use Rattle.sip.specs.Output.{whole_numeral}
use Rattle.emit.specs.Put.{Wrote, Placed}
use Rattle.emit.proofs.Laws.{next_nil, put_nil, put_front, then, wrote_room, wrote_length}
use Rattle.emit.proofs.Numerals.{digits_le}

pub placed : {d : List ℕ} {at : ℕ} {s : List ℕ} {r : ℕ} {d' : List ℕ} → Wrote d at s r d' → at + length s ≤ length d → Placed d at s r d'
placed w h = record { wrote = w; fits = h; next = (wrote_room w h).0 }

pub placed_end : {d : List ℕ} {at : ℕ} {s : List ℕ} {r : ℕ} {d' : List ℕ} → Wrote d at s r d' → at + length s ≤ length d → r ≡ at + length s
placed_end w h = (wrote_room w h).0

pub and_then : {d : List ℕ} {at : ℕ} {a : List ℕ} {n : ℕ} {d₁ : List ℕ} {b : List ℕ} {r : ℕ} {d₂ : List ℕ}
    → Placed d at a n d₁ → Placed d₁ n b r d₂ → Placed d at (a ++ b) r d₂
and_then {d} {at} {a} {n} {d₁} {b} p q =
    let l : at + (length a + length b) ≤ length d = omega (arith, p, q, wrote_length p.wrote) in
    placed (then p.wrote q.wrote l) (rw length-append l)

-- a text that is placed at the front
pub stands : {d : List ℕ} {s : List ℕ} {n : ℕ} {d' : List ℕ} → Placed d 0 s n d' → take n d' ≡ s
stands {d} {s} {n} {d'} p =
    let z : n ≡ length s = omega (arith, p.next) in
    let e : d' ≡ s ++ drop (length s) d = p.wrote.holds ∙ put_front d s (omega (arith, p.fits)) in
    rw (z, e) (take-append_seam s (drop (length s) d))

-- a text that stands in a space of its own, and is put from there
pub put_from : (x : List ℕ) {d d' : List ℕ} {n : ℕ} {t : List ℕ} {out : List ℕ} {at r : ℕ} {out' : List ℕ} → Placed d 0 x n d' → t ≡ take n d'
    → Wrote out at t r out' → Wrote out at x r out'
put_from x p e w = rw (e ∙ stands p) at w

-- nothing
pub placed_none : (d : List ℕ) (at : ℕ) → at ≤ length d → Placed d at [] at d
placed_none d at l = record { wrote = record { next = sym (next_nil d at); holds = sym (put_nil d at) }; fits = omega arith; next = omega arith }

-- a space, and a text
pub space_then : (x : List ℕ) {d : List ℕ} {at : ℕ} {s : List ℕ} {k : ℕ} {d₁ : List ℕ} {r : ℕ} {d₂ : List ℕ} → s ≡ 32 ∷ []
    → Placed d at s k d₁ → Placed d₁ k x r d₂ → Placed d at (32 ∷ x) r d₂
space_then x e p q = and_then (rw e at p) q

-- a number

module _ (n : ℕ) {d : List ℕ} {at : ℕ} {r : ℕ} {d' : List ℕ} (w : Wrote d at (whole_numeral n) r d') (h : at + 20 ≤ length d) where
  pub number_placed : Placed d at (whole_numeral n) r d'
  number_placed = placed w (omega (arith, digits_le 20 n))

  pub number_end : r ≤ at + 20
  number_end = omega (arith, digits_le 20 n, placed_end w (omega (arith, digits_le 20 n)))
