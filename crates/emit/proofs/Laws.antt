-- Laws of `put_at` and `next_at`, by the test of the room; two puts, one after the other, by the lengths of the parts.
use mathlib.Core.Path.{◌≡◌, refl, sym, ap, ◌∙◌}
use mathlib.Core.Bool.{Bool, true, false}
use mathlib.Core.List.{List, [], ◌∷◌, ◌++◌, append_assoc}
use Prim.Native.Nat.{ℕ, suc, ◌+◌, ◌-◌, ◌≤◌, ◌<◌}
use native.Mathlib.Nat.{add_assoc}
use native.Mathlib.Omega.{arith}
use lib.ListN.{length, take, drop, set, length-append, length-drop, length-set, take-append-drop}
use lib.Seq.{length-take-le, take-length, take-append-le, take-append-add, drop-append-add, drop_at, drop-drop, set_split, take-set-le}
use borrow.Author.Tests.{le-leb, lt-leb, leb-true, leb-false}
use lib.Dec.{leb}
use Rattle.emit.specs.Put.{put_at, next_at, Wrote}

module _ (d : List ℕ) (at : ℕ) (s : List ℕ) where
  module _ (h : at + length s ≤ length d) where
    pub next_room : next_at d at s ≡ at + length s
    unfolding next_at
    next_room = rw (le-leb (at + length s) (length d) h)

    pub put_room : put_at d at s ≡ take at d ++ (s ++ drop (at + length s) d)
    unfolding put_at
    put_room = rw (le-leb (at + length s) (length d) h)

  module _ (h : length d < at + length s) where
    pub next_full : next_at d at s ≡ at
    unfolding next_at
    next_full = rw (lt-leb (at + length s) (length d) h)

    pub put_full : put_at d at s ≡ d
    unfolding put_at
    put_full = rw (lt-leb (at + length s) (length d) h)

  pub length_put : length (put_at d at s) ≡ length d
  length_put = go (leb (at + length s) (length d)) refl
    where
      go : (t : Bool) → leb (at + length s) (length d) ≡ t → length (put_at d at s) ≡ length d
      go true e =
          let h : at + length s ≤ length d = leb-true (at + length s) (length d) e in
          rw (put_room h, length-append, length-append, length-drop, length-take-le at d (omega arith)) (omega arith)
      go false e = ap length (put_full (leb-false (at + length s) (length d) e))

-- at the front
pub put_front : (d s : List ℕ) → length s ≤ length d → put_at d 0 s ≡ s ++ drop (length s) d
put_front d s h = let z : 0 + length s ≡ length s = omega arith in put_room d 0 s (omega arith) ∙ rw z

-- nothing is put anywhere
module _ (d : List ℕ) (at : ℕ) where
  pub next_nil : next_at d at [] ≡ at
  next_nil = go (leb (at + 0) (length d)) refl
    where
      go : (t : Bool) → leb (at + 0) (length d) ≡ t → next_at d at [] ≡ at
      go true e = next_room d at [] (leb-true (at + 0) (length d) e) ∙ omega arith
      go false e = next_full d at [] (leb-false (at + 0) (length d) e)

  pub put_nil : put_at d at [] ≡ d
  put_nil = go (leb (at + 0) (length d)) refl
    where
      go : (t : Bool) → leb (at + 0) (length d) ≡ t → put_at d at [] ≡ d
      go true e = let z : at + 0 ≡ at = omega arith in put_room d at [] (leb-true (at + 0) (length d) e) ∙ rw z (take-append-drop at d)
      go false e = put_full d at [] (leb-false (at + 0) (length d) e)

-- ---- by the answer t whether there is room

module _ (d : List ℕ) (at : ℕ) (s : List ℕ) {t : Bool} (e : t ≡ leb (at + length s) (length d)) where
  pub room_yes : t ≡ true → at + length s ≤ length d
  room_yes q = leb-true (at + length s) (length d) (sym e ∙ q)

  pub room_no : t ≡ false → Wrote d at s at d
  room_no q =
      let h : length d < at + length s = leb-false (at + length s) (length d) (sym e ∙ q) in
      record { next = sym (next_full d at s h); holds = sym (put_full d at s h) }

-- ---- two parts, one after the other

-- b is put over the end of a, from the m-th byte on
module _ (d : List ℕ) (at : ℕ) (a : List ℕ) (m : ℕ) (b : List ℕ) where
  module _ (l : m ≤ length a) (k : length a ≤ m + length b) (h : at + (m + length b) ≤ length d) where
    head_length : length (take at d) ≡ at
    head_length = length-take-le at d (omega arith)

    both_length : length (take at d ++ a) ≡ at + length a
    both_length = rw (length-append, head_length)

    kept : (r : List ℕ) → take (at + m) ((take at d ++ a) ++ r) ≡ take at d ++ take m a
    kept r =
        take-append-le (at + m) (take at d ++ a) r (omega (arith, both_length))
        ∙ ap (λ (n : ℕ). take (n + m) (take at d ++ a)) (sym head_length) ∙ take-append-add (take at d) a m

    left : drop (at + m + length b) ((take at d ++ a) ++ drop (at + length a) d) ≡ drop (at + m + length b) d
    left =
        let x : ℕ = m + length b - length a in
        let e : at + m + length b ≡ length (take at d ++ a) + x = omega (arith, both_length) in
        let f : at + length a + x ≡ at + m + length b = omega arith in
        ap (λ (n : ℕ). drop n ((take at d ++ a) ++ drop (at + length a) d)) e
        ∙ drop-append-add (take at d ++ a) (drop (at + length a) d) x ∙ drop-drop x (at + length a) d ∙ rw f

    over_length : length (take m a ++ b) ≡ m + length b
    over_length = rw (length-append, length-take-le m a l)

    pub put_over : put_at (put_at d at a) (at + m) b ≡ put_at d at (take m a ++ b)
    put_over =
        let r : List ℕ = drop (at + length a) d in
        let e : put_at d at a ≡ (take at d ++ a) ++ r = put_room d at a (omega arith) ∙ sym (append_assoc (take at d) a r) in
        put_room (put_at d at a) (at + m) b (rw (length_put d at a) (omega arith))
        ∙ rw (e, kept r, left, put_room d at (take m a ++ b) (rw over_length h), over_length, add_assoc, append_assoc, append_assoc)

module _ (d : List ℕ) (at : ℕ) (a b : List ℕ) (h : at + (length a + length b) ≤ length d) where
  first_fits : at + length a ≤ length d
  first_fits = omega arith

  whole_fits : at + length (a ++ b) ≤ length d
  whole_fits = rw length-append h

  next_next : next_at (put_at d at a) (at + length a) b ≡ next_at d at (a ++ b)
  next_next =
      next_room (put_at d at a) (at + length a) b (rw (length_put d at a) (omega arith))
      ∙ sym (next_room d at (a ++ b) whole_fits ∙ rw length-append (omega arith))

  put_put : put_at (put_at d at a) (at + length a) b ≡ put_at d at (a ++ b)
  put_put = put_over d at a (length a) b (omega arith) (omega arith) h ∙ rw (take-length a)

-- a byte is set after a, and then a is put
pub put_last : (d : List ℕ) (at : ℕ) (a : List ℕ) (b : ℕ) → at + (length a + 1) ≤ length d → put_at (set d (at + length a) b) at a ≡ put_at d at (a ++ (b ∷ []))
put_last d at a b h =
    let i : ℕ = at + length a in
    let s : set d i b ≡ take i d ++ b ∷ drop (suc i) d = set_split d i b (omega arith) in
    let p : drop i (set d i b) ≡ b ∷ drop (suc i) d = ap (drop i) s ∙ drop_at (take i d) (b ∷ drop (suc i) d) i (length-take-le i d (omega arith)) in
    let q : at + (length a + 1) ≡ suc i = omega arith in
    put_room (set d i b) at a (rw length-set (omega arith))
    ∙ rw (take-set-le at d i b (omega arith), p, put_room d at (a ++ (b ∷ [])) (rw length-append h), length-append, q, append_assoc)

-- what is put after a is put with it
module _ {d : List ℕ} {at : ℕ} {a : List ℕ} {n : ℕ} {d₁ : List ℕ} (w : Wrote d at a n d₁) where
  module _ (b : List ℕ) (h : at + (length a + length b) ≤ length d) where
    after : n ≡ at + length a
    after = w.next ∙ next_room d at a (first_fits d at a b h)

    pub next_after : next_at d₁ n b ≡ next_at d at (a ++ b)
    next_after = rw (after, w.holds) (next_next d at a b h)

    pub put_after : put_at d₁ n b ≡ put_at d at (a ++ b)
    put_after = rw (after, w.holds) (put_put d at a b h)

  pub then : {b : List ℕ} {r : ℕ} {d₂ : List ℕ} → Wrote d₁ n b r d₂ → at + (length a + length b) ≤ length d → Wrote d at (a ++ b) r d₂
  then {b} q h = record { next = q.next ∙ next_after b h; holds = q.holds ∙ put_after b h }

  pub wrote_room : at + length a ≤ length d → (n ≡ at + length a) × (d₁ ≡ take at d ++ (a ++ drop (at + length a) d))
  wrote_room h = (w.next ∙ next_room d at a h, w.holds ∙ put_room d at a h)

  pub wrote_length : length d₁ ≡ length d
  wrote_length = ap length w.holds ∙ length_put d at a

  -- the same text, said otherwise
  pub wrote_as : (b : List ℕ) → a ≡ b → Wrote d at b n d₁
  wrote_as b e = rw e at w
