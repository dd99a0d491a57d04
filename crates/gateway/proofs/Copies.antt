-- A text is copied word by word: the first j bytes are put, and a word is put after them, or over their end.
use mathlib.Core.Path.{◌≡◌, sym, ap, ◌∙◌}
use mathlib.Core.List.{List, ◌++◌}
use Prim.Native.Nat.{ℕ, ◌+◌, ◌-◌, ◌≤◌, ◌<◌}
use native.Mathlib.Omega.{arith}
use lib.ListN.{length, take, drop, length-drop}
use lib.Seq.{length-take-le, take_all, take-take, take-add}
use Rattle.emit.specs.Put.{put_at, Wrote}
use Rattle.emit.proofs.Laws.{next_room, put_nil, put_over, length_put}

pub none_put : (d : List ℕ) (at : ℕ) (s : List ℕ) → d ≡ put_at d at (take 0 s)
none_put d at s = sym (put_nil d at)

module _ (size : ℕ) (d : List ℕ) (at : ℕ) (s : List ℕ) (h : at + length s ≤ length d) where
  -- the size bytes w from the place m on
  module _ (m : ℕ) {w : List ℕ} (a : w ≡ take size (drop m s)) (l : m + size ≤ length s) where
    width : length w ≡ size
    width = ap length a ∙ length-take-le size (drop m s) (rw length-drop (omega arith))

    added : (j : ℕ) (o : List ℕ) {r : ℕ} {o' : List ℕ} → o ≡ put_at d at (take j s) → m ≤ j → j ≤ m + size → Wrote o (at + m) w r o'
        → o' ≡ put_at d at (take (m + size) s)
    added j o e p q x =
        let z : length (take j s) ≡ j = length-take-le j s (omega arith) in
        let f : take m (take j s) ++ w ≡ take (m + size) s = rw (take-take m j s p, a) (sym (take-add m size s)) in
        x.holds ∙ rw (e, ← f) (put_over d at (take j s) m w (omega arith) (omega (arith, width)) (omega (arith, width)))

  -- the size bytes w at the front of what is left from the place m on
  front : (m : ℕ) {w : List ℕ} → w ≡ take size (take (length s - m) (drop m s)) → w ≡ take size (drop m s)
  front m a = a ∙ ap (take size) (take_all (length s - m) (drop m s) (rw length-drop (omega arith)))

  module _ (j : ℕ) (o : List ℕ) (e : o ≡ put_at d at (take j s)) {w : List ℕ} {r : ℕ} {o' : List ℕ} where
    pub word_more : {k : ℕ} → j < length s - size → w ≡ take size (take (length s - j) (drop j s)) → Wrote o (at + j) w r o' → k ≡ j + size
        → o' ≡ put_at d at (take k s)
    word_more i a x y = rw y (added j (front j a) (omega arith) j o e (omega arith) (omega arith) x)

    pub word_last : size ≤ length s → j ≤ length s → length s - size ≤ j → {m : ℕ} → w ≡ take size (take (length s - m) (drop m s)) → m ≡ length s - size
        → Wrote o (at + (length s - size)) w r o' → Wrote d at s r o'
    word_last g l i b q x =
        let last : ℕ = length s - size in
        let a : w ≡ take size (take (length s - last) (drop last s)) = rw q at b in
        let n : length w ≡ size = width last (front last a) (omega arith) in
        let y : length o ≡ length d = ap length e ∙ length_put d at (take j s) in
        record {
          next = omega (arith, x.next, next_room o (at + last) w (omega arith), next_room d at s h);
          holds = added last (front last a) (omega arith) j o e i (omega arith) x ∙ rw (take_all (last + size) s (omega arith));
        }
