-- Texts by blocks: a test of every byte is the test of the blocks, and blocks that share bytes may be tested twice.
use Rattle.std.proofs.Common.{◌≡◌, refl, sym, ap, ◌∙◌, ℕ, zero, suc, ◌+◌, ◌-◌, ◌≤◌, ◌<◌, Bool, true, false, not, cond, ◌&&◌, nat_eq, List, [], ◌∷◌, length, take, drop, get_or, arith}
use mathlib.Core.Bool.{and-true, and_assoc}
use lib.Dec.{eqb}
use lib.Seq.{drop-drop, take-take}
use borrow.Author.Tests.{eqb-true, eq-eqb}
use Rattle.std.proofs.lemmas.List.{drop-take, nil_from_length}
use Rattle.std.specs.Char.{is_ascii_graphic}
use Rattle.std.specs.List.{list_all}
use Rattle.std.specs.Simd.{first_chunks}
use Prim.Native.Nat.{◌*◌, ◌/◌}
use Rattle.std.specs.Cmp.Lexicographic.{pointwise}
use Rattle.octets.specs.Classes.{is_visible}
use Rattle.octets.specs.Scans.{all, same, run}
use Rattle.octets.proofs.Runs.{run_le, run_whole, whole_all}
use Rattle.sip.proofs.Tests.{never}

-- slices that std calls equal are the same
pub texts_same : (s t : List ℕ) → pointwise nat_eq s t ≡ same s t
unfolding same
texts_same [] [] = refl
texts_same [] (y ∷ t) = refl
texts_same (x ∷ s) [] = refl
texts_same (x ∷ s) (y ∷ t) = go (nat_eq x y) (texts_same s t)
  where
    go : (b : Bool) → pointwise nat_eq s t ≡ same s t → (b && pointwise nat_eq s t) ≡ cond b (same s t) false
    go true e = e
    go false e = refl

pub same_cons : (x y : ℕ) (s t : List ℕ) → same (x ∷ s) (y ∷ t) ≡ (eqb x y && same s t)
unfolding same
same_cons x y s t = go (eqb x y)
  where
    go : (a : Bool) → cond a (same s t) false ≡ (a && same s t)
    go true = refl
    go false = refl

pub same_next : (s t : List ℕ) (j : ℕ) → j < length s → j < length t
    → same (take (suc j) s) (take (suc j) t) ≡ (same (take j s) (take j t) && eqb (get_or s j 0) (get_or t j 0))
unfolding same
same_next [] t j h k = absurd (omega arith)
same_next (x ∷ s) [] j h k = absurd (omega arith)
same_next (x ∷ s) (y ∷ t) zero h k = same_cons x y [] [] ∙ and-true (eqb x y)
same_next (x ∷ s) (y ∷ t) (suc j) h k =
    rw (same_cons x y (take (suc j) s) (take (suc j) t), same_cons x y (take j s) (take j t), same_next s t j (omega arith) (omega arith))
    (sym (and_assoc (eqb x y) (same (take j s) (take j t)) (eqb (get_or s j 0) (get_or t j 0))))

pub not_not : (b : Bool) → not (not b) ≡ b
not_not true = refl
not_not false = refl

-- std's name of the class
pub graphic_visible : (b : ℕ) → is_ascii_graphic b ≡ is_visible b
unfolding is_visible
graphic_visible b = refl

module _ (p : ℕ → Bool) where
  -- one byte more
  all_next : (s : List ℕ) (j : ℕ) → j < length s → all p (take (suc j) s) ≡ (all p (take j s) && p (get_or s j 0))
  unfolding all
  all_next [] j h = absurd (omega arith)
  all_next (b ∷ s) zero h = and-true (p b)
  all_next (b ∷ s) (suc j) h = rw (all_next s j (omega arith)) (sym (and_assoc (p b) (all p (take j s)) (p (get_or s j 0))))

-- one byte of a block more is looked at
pub byte_more : (s : List ℕ) (j : ℕ) → j < length s → {b : Bool} → b ≡ is_ascii_graphic (get_or s j 0) → {v : Bool} → v ≡ all is_visible (take j s)
    → {k : ℕ} → k ≡ j + 1 → (v && b) ≡ all is_visible (take k s)
byte_more s j h eb ev {k} q = let z : k ≡ suc j = omega arith in rw (z, all_next is_visible s j h, eb, graphic_visible (get_or s j 0), ev)

-- ---- the blocks of a text, and its last sixteen bytes

-- one block more
list_next : (p : List ℕ → Bool) (cs : List (List ℕ)) (k : ℕ) → k < length cs → list_all p (take (suc k) cs) ≡ (list_all p (take k cs) && p (get_or cs k []))
list_next p [] k h = absurd (omega arith)
list_next p (c ∷ cs) zero h = and-true (p c)
list_next p (c ∷ cs) (suc k) h = rw (list_next p cs k (omega arith)) (sym (and_assoc (p c) (list_all p (take k cs)) (p (get_or cs k []))))

pub list_more : (p : List ℕ → Bool) (cs : List (List ℕ)) (k : ℕ) → k < length cs → {b : Bool} → b ≡ p (get_or cs k []) → {v : Bool} → v ≡ list_all p (take k cs)
    → {j : ℕ} → j ≡ k + 1 → (v && b) ≡ list_all p (take j cs)
list_more p cs k h eb ev {j} q = let z : j ≡ suc k = omega arith in rw (z, list_next p cs k h, eb, ev)

module _ (p : ℕ → Bool) where
  -- cut in two
  all_cut : (n : ℕ) (s : List ℕ) → all p s ≡ (all p (take n s) && all p (drop n s))
  unfolding all
  all_cut zero s = refl
  all_cut (suc n) [] = refl
  all_cut (suc n) (b ∷ s) = rw (all_cut n s) (sym (and_assoc (p b) (all p (take n s)) (all p (drop n s))))

  all_chunks : (m : ℕ) (s : List ℕ) → list_all (all p) (first_chunks 16 m s) ≡ all p (take (m * 16) s)
  unfolding all
  all_chunks zero s = refl
  all_chunks (suc m) s =
      let z : suc m * 16 ≡ 16 + m * 16 = omega arith in
      let y : take 16 (take (16 + m * 16) s) ≡ take 16 s = take-take 16 (16 + m * 16) s (omega arith) in
      let x : drop 16 (take (16 + m * 16) s) ≡ take (m * 16) (drop 16 s) = drop-take 16 (m * 16) s in
      rw (z, all_chunks m (drop 16 s)) (sym (all_cut 16 (take (16 + m * 16) s) ∙ rw (y, x)))

  -- a run as long as the text is a run of all of it
  pub by_run : (s : List ℕ) {n : ℕ} → n ≡ run p s → nat_eq n (length s) ≡ all p s
  by_run s {n} e = go (nat_eq n (length s)) (all p s) refl refl
    where
      go : (a b : Bool) → nat_eq n (length s) ≡ a → all p s ≡ b → a ≡ b
      go true true x y = refl
      go false false x y = refl
      go true false x y = let z = whole_all p s (omega (arith, eqb-true n (length s) x, run_le p s)) in never (cc)
      go false true x y = let z : nat_eq n (length s) ≡ true = eq-eqb n (length s) (omega (arith, run_whole p s y)) in never (cc)

drop_of_take : (j k n : ℕ) (s : List ℕ) → k ≡ j + n → drop j (take k s) ≡ take n (drop j s)
drop_of_take j k n s e = rw e (drop-take j n s)

-- a block that shares bytes with those before it
both : (a b r : Bool) → (a && b) ≡ true → (b && r) ≡ r
both true true r e = refl
both true false r e = never (cc)
both false b r e = never (cc)

module _ (s : List ℕ) {front : List (List ℕ)} (ef : front ≡ first_chunks 16 (length s / 16) s) {b : Bool} (eb : b ≡ list_all (all is_visible) front) where
  abbrev k : ℕ
  k = length s / 16 * 16

  front_is : b ≡ all is_visible (take k s)
  front_is = eb ∙ rw ef (all_chunks is_visible (length s / 16) s)

  pub blocks_fail : b ≡ false → b ≡ all is_visible s
  blocks_fail y = y ∙ sym (rw (all_cut is_visible k s, ← front_is, y))

  module _ (y : b ≡ true) where
    rest_is : all is_visible s ≡ all is_visible (drop k s)
    rest_is = rw (all_cut is_visible k s, ← front_is, y)

    pub blocks_all : {rest : List ℕ} → rest ≡ drop k s → {e : Bool} → e ≡ nat_eq (length rest) 0 → e ≡ true → e ≡ all is_visible s
    unfolding all
    blocks_all {rest} er ee z =
        let n : drop k s ≡ [] = nil_from_length (drop k s) (ap length (sym er) ∙ eqb-true (length rest) 0 (sym ee ∙ z)) in
        z ∙ sym (rest_is ∙ rw n)

    pub blocks_last : {last : List ℕ} → last ≡ drop (length s - 16) s → 16 ≤ length s → {v : Bool} → v ≡ all is_visible last → v ≡ all is_visible s
    blocks_last el h ev =
        let j : ℕ = length s - 16 in
        let a : j ≤ k = omega arith in
        let back : j + (k - j) ≡ k = omega arith in
        let mid : drop j (take k s) ≡ take (k - j) (drop j s) = drop_of_take j k (k - j) s (sym back) in
        let w : all is_visible (drop j s) ≡ (all is_visible (take (k - j) (drop j s)) && all is_visible (drop k s)) =
        all_cut is_visible (k - j) (drop j s) ∙ rw (drop-drop (k - j) j s, back) in
        let x : all is_visible (take k s) ≡ (all is_visible (take j (take k s)) && all is_visible (take (k - j) (drop j s))) =
        all_cut is_visible j (take k s) ∙ rw mid in
        ev ∙ rw el (w ∙ both (all is_visible (take j (take k s))) (all is_visible (take (k - j) (drop j s))) (all is_visible (drop k s)) (sym x ∙ sym front_is ∙ y))
        ∙ sym rest_is
