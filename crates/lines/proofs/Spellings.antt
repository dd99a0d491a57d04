-- The listed names as a list of spellings, of which a name can only be one of its own length.
use mathlib.Core.Path.{◌≡◌, refl, sym, ap, ◌∙◌}
use mathlib.Core.Bool.{Bool, true, false, cond, ◌&&◌, ◌||◌, and-eq-true_iff, and-false}
use mathlib.Core.List.{List, [], ◌∷◌}
use Rattle.std.specs.Prelude.{Option as Answer, None, Some, unwrap_or, IfSome}
use Rattle.std.specs.Char.{to_ascii_lowercase}
use Rattle.std.proofs.Math.Seq.{drop-cons}
use mathlib.Core.Option.{Option, none, some}
use Prim.Native.Nat.{ℕ, suc, ◌+◌, ◌≤◌, ◌<◌}
use native.Mathlib.Omega.{arith}
use lib.Dec.{eqb, leb, ltb}
use lib.ListN.{length, drop, get_or, drop_of_length-le}
use types.Run.{OneOf}
use borrow.Author.Tests.{eqb-true, eqb-false, ne_eqb, leb-true, lt-leb, le-leb, ltb-true, ltb-false}
use Rattle.octets.specs.Classes.{text, within, among as one_of}
use Rattle.octets.specs.Scans.{lower, same_text}
use Rattle.octets.proofs.Texts.{same_text_length}
use Rattle.sip.specs.Profile.{Row, rows, is_compact, names, lookup, number_of}
use Rattle.sip.proofs.Tests.{range_low, range_high}
use Rattle.lines.specs.Passes.{among}
use Rattle.lines.proofs.Values.{never}

pub record Spelling : Type 0 where
  pub number : ℕ
  pub spelt : List ℕ

abbrev sp : ℕ → List ℕ → Spelling
sp k t = record { number = k; spelt = t }

abbrev with_compact : ℕ → Option (List ℕ) → List Spelling → List Spelling
with_compact k none es = es
with_compact k (some c) es = sp k c ∷ es

unfoldable pub spellings : List Row → List Spelling
spellings [] = []
spellings (r ∷ rs) = sp r.number r.name ∷ with_compact r.number r.compact (spellings rs)

-- the number of the first spelling that the name is
unfoldable pub pick : List Spelling → List ℕ → ℕ
pick [] n = 0
pick (e ∷ es) n = let other = pick es n in cond (same_text e.spelt n) e.number other

lookup_pick : (rs : List Row) (n : List ℕ) → lookup rs n ≡ pick (spellings rs) n
unfolding lookup spellings pick
lookup_pick [] n = refl
lookup_pick (r ∷ rs) n = go (same_text r.name n) r.compact (lookup_pick rs n)
  where
    short : (c : List ℕ) (t : Bool) → lookup rs n ≡ pick (spellings rs) n → cond t r.number (lookup rs n) ≡ cond t r.number (pick (spellings rs) n)
    short c true f = refl
    short c false f = f

    go : (t : Bool) (o : Option (List ℕ)) → lookup rs n ≡ pick (spellings rs) n
        → cond (t || is_compact o n) r.number (lookup rs n) ≡ cond t r.number (pick (with_compact r.number o (spellings rs)) n)
    go true o f = refl
    go false none f = f
    go false (some c) f = short c (same_text c n) f

-- ---- by length

unfoldable pub of_length : ℕ → List Spelling → List Spelling
of_length k [] = []
of_length k (e ∷ es) = let others = of_length k es in cond (eqb (length e.spelt) k) (e ∷ others) others

pick_length : (es : List Spelling) (n : List ℕ) → pick es n ≡ pick (of_length (length n) es) n
unfolding pick of_length
pick_length [] n = refl
pick_length (e ∷ es) n = go (eqb (length e.spelt) (length n)) (same_text e.spelt n) refl refl (pick_length es n)
  where
    go : (t u : Bool) → eqb (length e.spelt) (length n) ≡ t → same_text e.spelt n ≡ u → pick es n ≡ pick (of_length (length n) es) n
        → cond u e.number (pick es n) ≡ pick (cond t (e ∷ of_length (length n) es) (of_length (length n) es)) n
    go true true p q f = rw q
    go true false p q f = rw q f
    go false true p q f = absurd (eqb-false (length e.spelt) (length n) p (same_text_length e.spelt n q))
    go false false p q f = f

module _ (k : ℕ) (n : List ℕ) {x : ℕ} where
  pub by_length : length n ≡ k → x ≡ pick (of_length k (spellings rows)) n → x ≡ number_of n
  unfolding number_of
  by_length h e =
      e ∙ ap (λ (i : ℕ). pick (of_length i (spellings rows)) n) (sym h) ∙ sym (lookup_pick rows n ∙ pick_length (spellings rows) n)

-- ---- a table of the spellings of one length

unfoldable pub pairs : List Spelling → List (List ℕ × ℕ)
pairs [] = []
pairs (e ∷ es) = (e.spelt, e.number) ∷ pairs es

among_pick : (es : List Spelling) (n : List ℕ) → unwrap_or (among n (pairs es)) 0 ≡ pick es n
unfolding pairs among pick
among_pick [] n = refl
among_pick (e ∷ es) n = go (same_text e.spelt n) (among_pick es n)
  where
    go : (t : Bool) → unwrap_or (among n (pairs es)) 0 ≡ pick es n → unwrap_or (cond t (Some e.number) (among n (pairs es))) 0 ≡ cond t e.number (pick es n)
    go true f = refl
    go false f = f

unfoldable pub numbered : List Spelling → Bool
numbered [] = true
numbered (e ∷ es) = within 1 18 e.number && numbered es

among_some : (es : List Spelling) (n : List ℕ) → numbered es ≡ true → IfSome (among n (pairs es)) (λ j. (1 ≤ j) × (j ≤ 18))
unfolding pairs among numbered
among_some [] n e = tt
among_some (e ∷ es) n h = go (same_text e.spelt n) (among_some es n b.1)
  where
    b : (within 1 18 e.number ≡ true) × (numbered es ≡ true)
    b = (and-eq-true_iff (within 1 18 e.number) (numbered es)).0 h

    go : (t : Bool) → IfSome (among n (pairs es)) (λ j. (1 ≤ j) × (j ≤ 18)) → IfSome (cond t (Some e.number) (among n (pairs es))) (λ j. (1 ≤ j) × (j ≤ 18))
    go true f = (range_low 1 18 e.number b.0, range_high 1 18 e.number b.0)
    go false f = f

-- by a table of the spellings of length k
pub by_table : (k : ℕ) (ps : List (List ℕ × ℕ)) (n : List ℕ) → pairs (of_length k (spellings rows)) ≡ ps → numbered (of_length k (spellings rows)) ≡ true → length n ≡ k
    → {r : Answer ℕ} → r ≡ among n ps → (unwrap_or r 0 ≡ number_of n) × IfSome r (λ j. (1 ≤ j) × (j ≤ 18))
by_table k ps n t m h {r} e =
    let z : r ≡ among n (pairs (of_length k (spellings rows))) = rw t e in
    (by_length k n h (rw z (among_pick (of_length k (spellings rows)) n)), rw z (among_some (of_length k (spellings rows)) n m))

-- ---- a look through such a table

module _ (n : List ℕ) (es : List (List ℕ × ℕ)) (i : ℕ) (h : among n es ≡ among n (drop i es)) where
  pub none_among : length es ≤ i → None ≡ among n es
  unfolding among
  none_among l = sym (h ∙ rw (drop_of_length-le es l))

  module _ (l : i < length es) {e : List ℕ × ℕ} (he : e ≡ get_or es i e) {b : Bool} (hb : b ≡ same_text e.0 n) where
    first : among n es ≡ cond b (Some e.1) (among n (drop (suc i) es))
    unfolding among
    first = h ∙ rw (drop-cons es i e l, ← he, ← hb)

    pub hit_among : b ≡ true → Some e.1 ≡ among n es
    hit_among q = sym (first ∙ rw q)

    pub next_among : b ≡ false → {k : ℕ} → k ≡ i + 1 → among n es ≡ among n (drop k es)
    next_among q {k} z = let y : k ≡ suc i = omega arith in first ∙ rw (q, y)

-- ---- a length that no spelling has

-- the number is none of the keys, the last of which stands first
abbrev pub Other : List ℕ → ℕ → Type 0
Other [] l = Unit {0}
Other (k ∷ ks) l = Other ks l × (l ≡ k → ⊥)

none_of : (ks : List ℕ) (l : ℕ) → Other ks l → one_of ks l ≡ false
none_of [] l o = refl
none_of (k ∷ ks) l o = rw (ne_eqb l k o.1, none_of ks l o.0)

unfoldable pub covered : List ℕ → List Spelling → Bool
covered ks [] = true
covered ks (e ∷ es) = one_of ks (length e.spelt) && covered ks es

none_left : (ks : List ℕ) (l : ℕ) (es : List Spelling) → one_of ks l ≡ false → covered ks es ≡ true → of_length l es ≡ []
unfolding of_length covered
none_left ks l [] a c = refl
none_left ks l (e ∷ es) a c = go (eqb (length e.spelt) l) refl (none_left ks l es a b.1)
  where
    b : (one_of ks (length e.spelt) ≡ true) × (covered ks es ≡ true)
    b = (and-eq-true_iff (one_of ks (length e.spelt)) (covered ks es)).0 c

    go : (t : Bool) → eqb (length e.spelt) l ≡ t → of_length l es ≡ [] → cond t (e ∷ of_length l es) (of_length l es) ≡ []
    go true p f = never (sym a ∙ ap (one_of ks) (sym (eqb-true (length e.spelt) l p)) ∙ b.0)
    go false p f = f

pub no_length : (ks : List ℕ) (n : List ℕ) → covered ks (spellings rows) ≡ true → Other ks (length n) → 0 ≡ number_of n
unfolding pick
no_length ks n c o = by_length (length n) n refl (rw (none_left ks (length n) (spellings rows) (none_of ks (length n) o) c))

-- ---- the compact names

-- the byte is none of these
abbrev pub OtherLetter : List ℕ → ℕ → Type 0
OtherLetter [] c = Unit {0}
OtherLetter (x ∷ xs) c = OtherLetter xs c × (OneOf (x ∷ []) c → ⊥)

one_byte : (n : List ℕ) → length n ≡ 1 → n ≡ get_or n 0 0 ∷ []
one_byte [] h = absurd (omega arith)
one_byte (b ∷ []) h = refl
one_byte (b ∷ c ∷ n) h = absurd (omega arith)

module _ (b : ℕ) {c : ℕ} (hc : c ≡ to_ascii_lowercase b) where
  lowered : c ≡ lower b
  unfolding lower
  lowered = go (ltb b 65) (ltb b 91) refl refl
    where
      go : (t u : Bool) → ltb b 65 ≡ t → ltb b 91 ≡ u → c ≡ cond (leb 65 b && leb b 90) (b + 32) b
      go true u p q = hc ∙ rw (p, lt-leb 65 b (ltb-true b 65 p))
      go false true p q = hc ∙ rw (p, q, le-leb 65 b (ltb-false b 65 p), le-leb b 90 (omega (arith, ltb-true b 91 q)))
      go false false p q = hc ∙ rw (p, q, le-leb 65 b (ltb-false b 65 p), lt-leb b 90 (omega (arith, ltb-false b 91 q)))

  twice : lower (lower b) ≡ lower b
  unfolding lower
  twice = go (leb 65 b) (leb b 90) refl refl
    where
      go : (t u : Bool) → leb 65 b ≡ t → leb b 90 ≡ u → lower (cond (t && u) (b + 32) b) ≡ cond (t && u) (b + 32) b
      go true true p q = rw (lt-leb (b + 32) 90 (omega (arith, leb-true 65 b p)), and-false (leb 65 (b + 32)))
      go true false p q = rw (p, q)
      go false u p q = rw p

  number_lower : number_of (lower b ∷ []) ≡ number_of (b ∷ [])
  unfolding number_of lookup rows text same_text
  number_lower = rw twice

  pub letter : (x k : ℕ) → k ≡ number_of (x ∷ []) → OneOf (x ∷ []) c → k ≡ number_of (b ∷ [])
  letter x k p e = let z : lower b ≡ x = sym lowered ∙ e in p ∙ ap (λ (y : ℕ). number_of (y ∷ [])) (sym z) ∙ number_lower

  other_letter : (x : ℕ) → (OneOf (x ∷ []) c → ⊥) → eqb x (lower b) ≡ false
  other_letter x h = ne_eqb x (lower b) (λ z. h (lowered ∙ sym z))

  -- none of these letters, the last of which stands first
  pub no_letter : OtherLetter (107 ∷ 99 ∷ 108 ∷ 109 ∷ 105 ∷ 116 ∷ 102 ∷ 118 ∷ []) c → 0 ≡ number_of (b ∷ [])
  unfolding pick text rows spellings of_length same_text
  no_letter o =
      by_length 1 (b ∷ []) refl
      (rw (
        other_letter 107 o.1,
        other_letter 99 o.0.1,
        other_letter 108 o.0.0.1,
        other_letter 109 o.0.0.0.1,
        other_letter 105 o.0.0.0.0.1,
        other_letter 116 o.0.0.0.0.0.1,
        other_letter 102 o.0.0.0.0.0.0.1,
        other_letter 118 o.0.0.0.0.0.0.0.1,
      ))

pub one_letter : (n : List ℕ) → length n ≡ 1 → {k : ℕ} → k ≡ number_of (get_or n 0 0 ∷ []) → k ≡ number_of n
one_letter n h e = e ∙ ap number_of (sym (one_byte n h))

-- ---- the numbers are those of the rows

bounded : List Row → Bool
bounded [] = true
bounded (r ∷ rs) = leb r.number 18 && bounded rs

lookup_le : (rs : List Row) (n : List ℕ) → bounded rs ≡ true → lookup rs n ≤ 18
unfolding lookup bounded
lookup_le [] n b = omega arith
lookup_le (r ∷ rs) n b = go (names r n) (lookup_le rs n c.1)
  where
    c : (leb r.number 18 ≡ true) × (bounded rs ≡ true)
    c = (and-eq-true_iff (leb r.number 18) (bounded rs)).0 b

    go : (t : Bool) → lookup rs n ≤ 18 → cond t r.number (lookup rs n) ≤ 18
    go true h = leb-true r.number 18 c.0
    go false h = h

pub bounded_number : (n : List ℕ) {x : ℕ} → x ≡ number_of n → (x ≡ number_of n) × (x ≤ 18)
unfolding number_of bounded rows
bounded_number n e = (e, omega (arith, lookup_le rows n refl))
