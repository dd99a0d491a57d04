-- The pass over the slots, one slot at a time: what is kept is noted with its canonical value, and the rest of the entries is left.
use mathlib.Core.Path.{◌≡◌, refl, sym, ap, ◌∙◌}
use mathlib.Core.Bool.{Bool, true, false, not, cond}
use mathlib.Core.List.{List, [], ◌∷◌, ◌++◌}
use Prim.Native.Nat.{ℕ, suc, ◌+◌, ◌-◌, ◌≤◌, ◌<◌, ◌^◌}
use native.Mathlib.Numerals.{add-one}
use native.Mathlib.Omega.{arith}
use lib.Dec.{leb}
use lib.ListN.{length, take, drop, length-take, length-drop}
use lib.Seq.{take_at}
use borrow.Author.Tests.{leb-true, not-true, not-false}
use Rattle.octets.specs.Classes.{is_break, is_gap}
use Rattle.octets.specs.Scans.{run, any}
use Rattle.sip.specs.Lines.{joined, folded}
use Rattle.sip.specs.Values.{is_empty}
use Rattle.sip.proofs.Canonical.{folded_byte, folded_run, folded_le}
use Rattle.sip.proofs.Tests.{never}
use Rattle.lines.specs.declared.Slot.{Slot}
use Rattle.lines.specs.Index.{slot_at}
use Rattle.emit.specs.Put.{Wrote}
use Rattle.emit.proofs.Laws.{wrote_room}
use Rattle.judgement.specs.declared.Finding.{Finding}
use Rattle.judgement.specs.declared.Tally.{Tally}
use Rattle.judgement.specs.Sets.{has}
use Rattle.judgement.specs.Entries.{Within, unfolded_by, value_at, entry_at, entries_from}
use Rattle.judgement.specs.Tallies.{finding, noted, no_tally, tallied}
use Rattle.judgement.specs.Judged.{taken_up}
use Rattle.judgement.proofs.Bounds.{tags_grow}
use Rattle.judgement.proofs.Found.{filled, other}
use Rattle.judgement.proofs.Masks.{has_low}

-- ---- a value is folded into a buffer that has room for it

pub front : {z f : List ℕ} {k : ℕ} {d : List ℕ} → Wrote z 0 f k d → length f ≤ length z → take k d ≡ f
front {z} {f} {k} {d} w h =
    let e : (k ≡ 0 + length f) × (d ≡ take 0 z ++ (f ++ drop (0 + length f) z)) = wrote_room w (omega arith) in
    rw e.1 (take_at f (drop (0 + length f) z) k (omega (arith, e.0)))

module _ (method : List ℕ) (n : ℕ) (v : List ℕ) (size : ℕ) (short : length v ≤ size) (least : leb size 8192 ≡ true)
    {z : List ℕ} (room : length z ≡ size) {k : ℕ} {d : List ℕ} (w : Wrote z 0 (folded 0 v) k d) {p : List ℕ} (cut : p ≡ take k d) where
  cut_is : p ≡ folded 0 v
  cut_is = cut ∙ front w (omega (arith, folded_le v))

  pub folded_found : {f : Finding} → f ≡ finding method n p → f ≡ finding method n (folded 0 v)
  folded_found e = e ∙ ap (finding method n) cut_is

  pub folded_bound : {x : ℕ} → x ≤ length p + 99999 → x ≤ 108191
  folded_bound l = omega (arith, ap length cut_is, folded_le v, leb-true size 8192 least)

-- ---- a value that need not be folded

joined_some : (b : ℕ) (g t : List ℕ) → is_empty (joined (b ∷ g) ++ t) ≡ false
unfolding joined is_empty
joined_some b g t = go (any is_break (b ∷ g))
  where
    go : (x : Bool) → is_empty (cond x (32 ∷ []) (b ∷ g) ++ t) ≡ false
    go true = refl
    go false = refl

folded_empty : (v : List ℕ) → is_empty (folded 0 v) ≡ is_empty v
unfolding folded is_empty run
folded_empty [] = refl
folded_empty (b ∷ s) = go (is_gap b) refl
  where
    go : (t : Bool) → is_gap b ≡ t → is_empty (folded 0 (b ∷ s)) ≡ false
    go true q =
        let r : run is_gap (b ∷ s) ≡ suc (run is_gap s) = rw q in
        rw (folded_run (b ∷ s), r) (joined_some b (take (run is_gap s) s) (folded 0 (drop (run is_gap s) s)))
    go false q = rw (folded_byte b s q)

-- no reader is asked of a number that is not in a set of those that are read
module _ (method : List ℕ) (n : ℕ) (v : List ℕ) (set : ℕ) {b : Bool} (e : b ≡ has set n) (q : not b ≡ true) where
  not_read : (k : ℕ) → has set k ≡ true → n ≡ k → ⊥
  not_read k h z = let x : has set n ≡ false = sym e ∙ not-true b q in never (cc)

  pub unread_found : has set 2 ≡ true → has set 3 ≡ true → has set 4 ≡ true → has set 5 ≡ true → has set 6 ≡ true → has set 8 ≡ true
      → has set 14 ≡ true → has set 15 ≡ true → has set 16 ≡ true → {f : Finding} → f ≡ filled n v → f ≡ finding method n (folded 0 v)
  unread_found h2 h3 h4 h5 h6 h8 h14 h15 h16 d =
      other method n (folded 0 v) (not_read 2 h2) (not_read 3 h3) (not_read 4 h4) (not_read 5 h5) (not_read 6 h6) (not_read 8 h8) (not_read 14 h14)
      (not_read 15 h15) (not_read 16 h16) (d ∙ rw (folded_empty v))

-- ---- a slot is taken up

unfolded_le : (b : Bool) (v : List ℕ) → length (unfolded_by b v) ≤ length v
unfolded_le true v = folded_le v
unfolded_le false v = omega arith

module _ (method m : List ℕ) (kept : ℕ) (t : Tally) (s : Slot) {b : Bool} (e : b ≡ has kept s.number) where
  pub skipped : not b ≡ true → t ≡ taken_up method kept m t s
  unfolding taken_up
  skipped q = let z : has kept s.number ≡ false = sym e ∙ not-true b q in rw z

  module _ (q : not b ≡ false) where
    held : has kept s.number ≡ true
    held = sym e ∙ not-false b q

    pub low : kept < 2 ^ 32 → s.number < 32
    low h = has_low 32 kept s.number h held

    module _ {v : List ℕ} (hv : v ≡ take s.len (drop s.start m)) {r : Tally} where
      pub taken_first : not s.folded ≡ true
          → r ≡ noted t s.number (finding method s.number v) → r ≡ taken_up method kept m t s
      unfolding taken_up value_at
      taken_first z h = rw (held, ← hv, not-true s.folded z) h

      pub taken_again : {f : Finding} → f ≡ finding method s.number (unfolded_by s.folded v) → r ≡ noted t s.number f
          → r ≡ taken_up method kept m t s
      unfolding taken_up value_at
      taken_again d h = rw (held, ← hv, ← d) h

module _ (method m : List ℕ) (short : length m ≤ 8192) (t : Tally) (s : Slot) {v : List ℕ} (hv : v ≡ take s.len (drop s.start m)) where
  value_le : length v ≤ 8192
  value_le = rw hv (omega (arith, length-take s.len (drop s.start m), length-drop s.start m))

  pub first_tags : {r : Tally} → r ≡ noted t s.number (finding method s.number v) → r.tags ≤ t.tags + 8192
  first_tags h = rw h (omega (arith, value_le, tags_grow method t s.number v))

  pub again_tags : {r : Tally} {f : Finding} → f ≡ finding method s.number (unfolded_by s.folded v) → r ≡ noted t s.number f
      → r.tags ≤ t.tags + 8192
  again_tags d h = rw (h, d) (omega (arith, value_le, unfolded_le s.folded v, tags_grow method t s.number (unfolded_by s.folded v)))

-- ---- all slots

pub fits : (m ns : List ℕ) (i : ℕ) {s : Slot} → s ≡ slot_at ns i → Within m ns → s.start + s.len ≤ length m
fits m ns i e h = rw e (h i)

module _ (method m : List ℕ) (kept : ℕ) (ns : List ℕ) where
  one_more : (t : Tally) (k i : ℕ)
      → tallied method t (entries_from kept m ns (suc k) i) ≡ tallied method (taken_up method kept m t (slot_at ns i)) (entries_from kept m ns k (suc i))
  unfolding entries_from tallied taken_up
  one_more t k i = go (has kept (slot_at ns i).number)
    where
      go : (b : Bool)
          → tallied method t (cond b (entry_at m (slot_at ns i) ∷ entries_from kept m ns k (suc i)) (entries_from kept m ns k (suc i)))
          ≡ tallied method
          (cond b (noted t (slot_at ns i).number (finding method (slot_at ns i).number (value_at m (slot_at ns i)))) t)
          (entries_from kept m ns k (suc i))
      go true = refl
      go false = refl

  module _ (count : ℕ) where
    abbrev pub whole : Tally
    whole = tallied method no_tally (entries_from kept m ns count 0)

    pub begun : whole ≡ tallied method no_tally (entries_from kept m ns (count - 0) 0)
    begun = let z : count - 0 ≡ count = omega arith in rw z

    module _ (t : Tally) (i : ℕ) (h : whole ≡ tallied method t (entries_from kept m ns (count - i) i)) where
      pub next_slot : {s : Slot} {u : Tally} {j : ℕ} → i < count → s ≡ slot_at ns i → u ≡ taken_up method kept m t s → j ≡ i + 1
          → whole ≡ tallied method u (entries_from kept m ns (count - j) j)
      next_slot {s} {u} {j} l es eu ej =
          let z : count - i ≡ suc (count - j) = omega arith in
          let y : j ≡ suc i = ej ∙ add-one i in
          let x : tallied method t (entries_from kept m ns (suc (count - j)) i) ≡ tallied method u (entries_from kept m ns (count - j) j)
          = one_more t (count - j) i ∙ rw (eu, es) (ap (λ (k : ℕ). tallied method (taken_up method kept m t (slot_at ns i)) (entries_from kept m ns (count - j) k)) (sym y)) in
          h ∙ ap (λ (k : ℕ). tallied method t (entries_from kept m ns k i)) z ∙ x

      pub ended : count ≤ i → {n : ℕ} → count ≡ n → t ≡ tallied method no_tally (entries_from kept m ns n 0)
      unfolding entries_from tallied
      ended l e = let z : count - i ≡ 0 = omega arith in rw (← e) (sym (rw z at h))
