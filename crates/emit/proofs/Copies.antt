-- A text is copied byte by byte: after j bytes the buffer holds the first j of the text at the place, and else what it held (`paste`).
use mathlib.Core.Path.{◌≡◌, ◌∙◌, sym}
use mathlib.Core.List.{List, append_assoc}
use Prim.Native.Nat.{ℕ, ◌+◌, ◌≤◌, ◌<◌}
use native.Mathlib.Numerals.{add-one}
use native.Mathlib.Omega.{arith}
use lib.ListN.{length, take, drop, get_or, set}
use lib.Seq.{paste, paste-suc, take-length}
use Rattle.emit.specs.Put.{Wrote}
use Rattle.emit.proofs.Laws.{next_room, put_room}

module _ (d : List ℕ) (at : ℕ) (s : List ℕ) (h : at + length s ≤ length d) (j : ℕ) (o : List ℕ) (e : o ≡ paste d at s j) where
  pub copied_next : {k : ℕ} → j < length s → k ≡ j + 1 → set o (at + j) (get_or s j 0) ≡ paste d at s k
  copied_next l z =
      let r : at + j < length d = omega arith in
      rw (z, e, add-one) (paste-suc d at s j 0 r l)

  pub copied_all : j ≤ length s → length s ≤ j → Wrote d at s (at + length s) o
  copied_all l m =
      let q : j ≡ length s = omega arith in
      record {
        next = sym (next_room d at s h);
        holds = e ∙ rw (q, take-length s) (append_assoc (take at d) s (drop (at + length s) d) ∙ sym (put_room d at s h));
      }
