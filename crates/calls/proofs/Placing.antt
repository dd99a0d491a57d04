-- Writing a pair into a place: two texts between zeros, and one place of the table written over.
use mathlib.Core.Path.{◌≡◌, refl, sym, ap, ◌∙◌}
use mathlib.Core.Bool.{Bool, true, false, cond, and-false}
use mathlib.Core.List.{List, [], ◌∷◌, ◌++◌, append_assoc}
use Prim.Native.Nat.{ℕ, zero, suc, ◌+◌, ◌*◌, ◌-◌, ◌≤◌, ◌<◌}
use native.Mathlib.Omega.{arith}
use lib.Dec.{leb}
use lib.ListN.{length, take, drop, set, replicate, length-append, length-replicate, replicate-append-replicate}
use lib.Seq.{take_at, drop_at, drop-drop, set_at, set_out, append_snoc}
use borrow.Author.Tests.{le-leb, lt-leb}
use borrow.Rule.Slice.PartMut.{put_mid}
use Rattle.emit.specs.Put.{Wrote}
use Rattle.emit.proofs.Laws.{wrote_room}
use Rattle.sip.specs.Calls.{places, place_with, placed}
use Rattle.sip.proofs.Calls.Places.{places_length, table_places}
use Rattle.sip.proofs.Calls.Tables.{placed_bytes}
use Rattle.calls.specs.Places.{pair, fits}

-- ---- the table

-- one place is written over
pub written : (t : List ℕ) (k : ℕ) (y : List ℕ) → put_mid (k * 194) (k * 194 + 194 - k * 194) t y ≡ take (k * 194) t ++ (y ++ drop (k * 194 + 194) t)
written t k y =
    let z : k * 194 + 194 - k * 194 ≡ 194 = omega arith in
    ap (λ (u : List ℕ). take (k * 194) t ++ (y ++ u)) (rw z (drop-drop 194 (k * 194) t))

module _ (t : List ℕ) (l : length t ≡ 6208) (k : ℕ) (id tag : List ℕ) where
  pub placed_nowhere : 32 ≤ k → t ≡ cond (fits (pair id tag)) (placed k (pair id tag) t) t
  unfolding placed
  placed_nowhere h = rw (set_out (places 32 t) k (place_with (pair id tag)) (rw (places_length 32 t) h), table_places 32 t l) (go (fits (pair id tag)))
    where
      go : (b : Bool) → t ≡ cond b t t
      go true = refl
      go false = refl

  pub placed_long_id : 128 < length id → t ≡ cond (fits (pair id tag)) (placed k (pair id tag) t) t
  unfolding fits
  placed_long_id h = rw (lt-leb (length id) 128 h)

  pub placed_long_tag : 64 < length tag → t ≡ cond (fits (pair id tag)) (placed k (pair id tag) t) t
  unfolding fits
  placed_long_tag h = rw (lt-leb (length tag) 64 h, and-false (leb (length id) 128))

  pub placed_there : k < 32 → length id ≤ 128 → length tag ≤ 64 → {x y : List ℕ} → x ≡ place_with (pair id tag) → y ≡ x
      → put_mid (k * 194) (k * 194 + 194 - k * 194) t y ≡ cond (fits (pair id tag)) (placed k (pair id tag) t) t
  unfolding fits
  placed_there hk hi hg {x} {y} ex ey =
      rw (le-leb (length id) 128 hi, le-leb (length tag) 64 hg, placed_bytes (pair id tag) t l k hk) (written t k y ∙ rw (ey, ex))

-- ---- the place

drop_replicate : (k n : ℕ) (a : ℕ) → drop k (replicate n a) ≡ replicate (n - k) a
drop_replicate zero n a = let z : n - 0 ≡ n = omega arith in rw z
drop_replicate (suc k) zero a = let z : 0 - suc k ≡ 0 = omega arith in rw z
drop_replicate (suc k) (suc n) a = let z : suc n - suc k ≡ n - k = omega arith in rw z (drop_replicate k n a)

module _ (id tag : List ℕ) (hi : length id ≤ 128) (hg : length tag ≤ 64) where
  abbrev front : List ℕ
  front = length id ∷ (id ++ replicate (128 - length id) 0)

  front_long : length front ≡ 129
  front_long = omega (arith, length-append id (replicate (128 - length id) 0), length-replicate {A = ℕ} (128 - length id) 0)

  -- with the Call-ID
  half : {d : List ℕ} → d ≡ length id ∷ replicate 193 0 → {n : ℕ} {e : List ℕ} → Wrote d 1 id n e → e ≡ front ++ replicate 65 0
  half {d} ed {n} {e} o =
      let dl : length d ≡ 194 = ap length ed in
      let r = (wrote_room o (omega arith)).1 in
      let z : 1 + length id ≡ suc (length id) = omega arith in
      let y : 193 - length id ≡ 128 - length id + 65 = omega arith in
      r ∙ rw (ed, z, drop_replicate (length id) 193 0, y, ← replicate-append-replicate {A = ℕ} (128 - length id) 65 0)
      (ap (λ (x : List ℕ). length id ∷ x) (sym (append_assoc id (replicate (128 - length id) 0) (replicate 65 0))))

  -- and with the tag
  pub place_made : {n : ℕ} {e : List ℕ} → Wrote (length id ∷ replicate 193 0) 1 id n e
      → {m : ℕ} {g : List ℕ} → Wrote (set e 129 (length tag)) 130 tag m g → g ≡ place_with (pair id tag)
  unfolding place_with
  place_made {n} {e} o {m} {g} u =
      let b : ℕ = length tag in
      let h : e ≡ front ++ replicate 65 0 = half {d = length id ∷ replicate 193 0} refl o in
      let s : set e 129 b ≡ front ++ (length tag ∷ replicate 64 0) = rw h (set_at front 0 (replicate 64 0) (length tag) 129 front_long) in
      let k : List ℕ = front ++ (length tag ∷ []) in
      let kl : length k ≡ 130 = length-append front (length tag ∷ []) ∙ omega (arith, front_long) in
      let v : set e 129 b ≡ k ++ replicate 64 0 = s ∙ sym (append_snoc front (length tag) (replicate 64 0)) in
      let vl : length (set e 129 b) ≡ 194 = ap length v ∙ length-append k (replicate 64 0) ∙ omega (arith, kl, length-replicate {A = ℕ} 64 0) in
      let r = (wrote_room u (omega arith)).1 in
      let ta : take 130 (set e 129 b) ≡ k = rw v (take_at k (replicate 64 0) 130 kl) in
      let da : drop (130 + length tag) (set e 129 b) ≡ replicate (64 - length tag) 0 =
      sym (drop-drop (length tag) 130 (set e 129 b)) ∙ rw (v, drop_at k (replicate 64 0) 130 kl) (drop_replicate (length tag) 64 0) in
      r ∙ rw (ta, da) (append_snoc front (length tag) (tag ++ replicate (64 - length tag) 0))
