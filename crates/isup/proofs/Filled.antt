-- Octets in front of zeros, and one or several more behind them.
use mathlib.Core.Path.{◌≡◌, sym, ap, ◌∙◌}
use mathlib.Core.List.{List, ◌++◌, append_assoc}
use Prim.Native.Nat.{ℕ, ◌+◌, ◌-◌, ◌≤◌, ◌<◌}
use native.Mathlib.Omega.{arith}
use lib.ListN.{length, take, drop, replicate, set, length-append}
use lib.Seq.{length-take-le, take-append_seam, drop-append_seam}
use Rattle.std.proofs.lemmas.List.{drop-drop, drop-replicate, drop-set-lt}
use Rattle.emit.specs.Put.{Wrote}
use Rattle.emit.proofs.Laws.{next_full, put_full, wrote_room}
use Rattle.emit.proofs.Numerals.{below_or_not}

module _ (bytes : List ℕ) {len n : ℕ} (few : len ≤ n) (zeros : drop len bytes ≡ replicate (n - len) 0) where
  -- m octets further on there are still zeros
  further : (m : ℕ) → drop (len + m) bytes ≡ replicate (n - (len + m)) 0
  further m = sym (drop-drop m len bytes) ∙ ap (drop m) zeros ∙ drop-replicate m (n - len) 0 ∙ ap (λ (k : ℕ). replicate k 0) left
    where
      left : n - len - m ≡ n - (len + m)
      left = omega arith

  pub pushed_zeros : (b : ℕ) {i : ℕ} → i ≤ len → drop (len + 1) (set bytes i b) ≡ replicate (n - (len + 1)) 0
  pushed_zeros b {i} h = drop-set-lt (len + 1) bytes i b (omega arith) ∙ further 1

  module _ (long : length bytes ≡ n) where
    pub count_held : length (take len bytes) ≡ len
    count_held = length-take-le len bytes (omega (arith, few, long))

    -- s stands behind the octets; where there is no room for it all stays
    module _ {s : List ℕ} {r : ℕ} {d : List ℕ} (w : Wrote bytes len s r d) where
      module _ (room : len + length s ≤ n) where
        written : (r ≡ len + length s) × (d ≡ take len bytes ++ (s ++ drop (len + length s) bytes))
        written = wrote_room w (omega (arith, long))

        behind : d ≡ (take len bytes ++ s) ++ drop (len + length s) bytes
        behind = written.1 ∙ sym (append_assoc (take len bytes) s (drop (len + length s) bytes))

        counted : length (take len bytes ++ s) ≡ r
        counted = omega (arith, length-append (take len bytes) s, count_held, written.0)

        zeros_behind : drop r d ≡ replicate (n - r) 0
        zeros_behind =
            rw (← counted, behind) (drop-append_seam (take len bytes ++ s) (drop (len + length s) bytes))
            ∙ further (length s) ∙ rw (written.0)

      module _ (full : n < len + length s) where
        same_end : r ≡ len
        same_end = w.next ∙ next_full bytes len s (omega (arith, long))

        same_bytes : d ≡ bytes
        same_bytes = w.holds ∙ put_full bytes len s (omega (arith, long))

      pub appended_fits : r ≤ n
      appended_fits =
          below_or_not n (len + length s) (λ full. omega (arith, few, same_end full)) (λ room. omega (arith, (written room).0))

      pub appended_zeros : drop r d ≡ replicate (n - r) 0
      appended_zeros = below_or_not n (len + length s) (λ full. rw (same_end full, same_bytes full) zeros) (λ room. zeros_behind room)

      pub appended : length (take len bytes) + length s ≤ n → take r d ≡ take len bytes ++ s
      appended h =
          let room : len + length s ≤ n = omega (arith, count_held, h) in
          rw (← counted room, behind room) (take-append_seam (take len bytes ++ s) (drop (len + length s) bytes))
