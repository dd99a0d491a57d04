-- `emit::put_pieces` meets its contract.
use mathlib.Core.Path.{◌≡◌, refl, ap, ◌∙◌}
use mathlib.Core.Bool.{Bool, true, false}
use mathlib.Core.List.{List, [], ◌∷◌, ◌++◌}
use Prim.Native.Nat.{ℕ, ◌+◌, ◌-◌, ◌≤◌, ◌<◌}
use native.Mathlib.Omega.{arith}
use lib.ListN.{length, take, drop, get_or, length-append}
use borrow.Author.Rules.{rules}
use Rattle.octets.specs.Classes.{is_gap}
use Rattle.octets.specs.Scans.{run}
use Rattle.sip.specs.Lines.{joined, folded}
use Rattle.emit.specs.Put.{Wrote}
use Rattle.emit.proofs.Laws.{next_nil, put_nil, next_after, put_after, wrote_room, wrote_length}
use Rattle.emit.proofs.Pieces.{byte_folded, run_folded, folded_end}
use Rattle.emit.proofs.put_pieces.Invariants.{Left}
use Rattle.emit.proofs.put_pieces.Goals as goal

begin : (d : List ℕ) (at : ℕ) (v : List ℕ) → at + length (folded 0 v) ≤ length d → Left d at v d at 0
begin d at v h = record { room = h; wrote = record { next = refl; holds = refl } }

module _ (d : List ℕ) (at : ℕ) (v : List ℕ) (d' : List ℕ) (o i : ℕ) (g : Left d at v d' o i) where
  finish : length v ≤ i → Wrote d at (folded 0 v) o d'
  finish h = rw (folded_end v h, next_nil, put_nil) at g.wrote

  -- the piece x is put, and the text is left from j on
  module _ (x : List ℕ) (j : ℕ) (e : folded 0 (drop i v) ≡ x ++ folded 0 (drop j v)) where
    fits : o + (length x + length (folded 0 (drop j v))) ≤ length d'
    fits = omega (arith, g.room, ap length e ∙ length-append x (folded 0 (drop j v)))

    after : {r : ℕ} {d'' : List ℕ} → Wrote d' o x r d'' → Left d at v d'' r j
    after w =
        let y : List ℕ = folded 0 (drop j v) in
        record {
          room = omega (arith, fits, (wrote_room w (omega (arith, fits))).0, wrote_length w);
          wrote = rw (next_after w y fits, put_after w y fits, ← e) g.wrote;
        }

  module _ (h : i < length v) {t : Bool} (q : t ≡ is_gap (get_or v i 0)) where
    byte_fits : t ≡ false → o < length d'
    byte_fits y = omega (arith, fits (get_or v i 0 ∷ []) (i + 1) (byte_folded v i h q y refl))

    after_byte : {j r : ℕ} {d'' : List ℕ} → t ≡ false → j ≡ i + 1 → Wrote d' o (get_or v i 0 ∷ []) r d'' → Left d at v d'' r j
    after_byte {j} y z w = after (get_or v i 0 ∷ []) j (byte_folded v i h q y z) w

    module _ (y : t ≡ true) {j n : ℕ} (z : j ≡ i + 1) (r : n ≡ j + run is_gap (drop j v)) {p : List ℕ} (a : p ≡ take (n - i) (drop i v)) where
      gap_fits : o + length (joined p) ≤ length d'
      gap_fits = omega (arith, fits (joined p) n (run_folded v i h q y z r a))

      after_gap : {m : ℕ} {d'' : List ℕ} → Wrote d' o (joined p) m d'' → Left d at v d'' m n
      after_gap w = after (joined p) n (run_folded v i h q y z r a) w

pub loop-i-init : goal.loop-i-init
loop-i-init c = search (begin, rules)

pub put_joined-o-requires : goal.put_joined-o-requires
put_joined-o-requires c = search gap_fits

pub loop-i-preserved-then-is_gap : goal.loop-i-preserved-then-is_gap
loop-i-preserved-then-is_gap c = search (after_gap, rules)

pub put_byte-o-requires : goal.put_byte-o-requires
put_byte-o-requires c = search byte_fits

pub loop-i-preserved : goal.loop-i-preserved
loop-i-preserved c = search (after_byte, rules)

pub returns : goal.returns
returns c = search finish
