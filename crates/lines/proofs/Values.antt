-- Laws of `value_size`: value bytes are passed over by one run, by induction on the text; after the run, by what stands there.
use mathlib.Core.Path.{◌≡◌, refl, sym, ap, ◌∙◌}
use mathlib.Core.Bool.{Bool, true, false, not, cond, ◌&&◌, and-eq-true_iff, and-false}
use mathlib.Core.List.{List, [], ◌∷◌}
use mathlib.Core.Option.{Option, none, some}
use Prim.Native.Nat.{ℕ, zero, suc, ◌+◌, ◌*◌, ◌-◌, ◌≤◌, ◌<◌}
use native.Mathlib.Omega.{arith}
use lib.Dec.{eqb, ltb}
use lib.ListN.{length, drop, get_or, drop_of_length-le, length-drop}
use lib.Seq.{drop-drop}
use borrow.Author.Tests.{eqb-true, eqb-false, eq-eqb, ne_eqb, ltb-true, not-true, not-false}
use Rattle.octets.specs.Classes.{bit, is_blank, is_break, is_value}
use Rattle.octets.specs.Scans.{run, any}
use Rattle.octets.proofs.Places.{drop1, drop2}
use Rattle.octets.proofs.Runs.{run_nil, run_yes, run_no, run_after}
use Rattle.sip.specs.Lines.{starts_crlf, starts_blank, one_longer, value_size}
use Rattle.lines.specs.Places.{breaks}
use Rattle.std.specs.Prelude.{None, Some}
use Rattle.lines.specs.Sizes.{end_at, value_end}
use Rattle.lines.specs.Passes.{ValueStands}

pub never : {A : Type 0} → false ≡ true → A
never e = let z : ◌≡◌ {A = ℕ} 0 1 = cc in absurd (omega arith)

nothing : {A : Type 0} {n : ℕ} → ◌≡◌ {A = Option ℕ} none (some n) → A
nothing e = let z : ◌≡◌ {A = ℕ} 0 1 = cc in absurd (omega arith)

pub bit_small : (t : Bool) (n : ℕ) → 1 ≤ n → bit t ≤ n
bit_small true n h = omega arith
bit_small false n h = omega arith

-- ---- a value byte is no byte of a line break

not_break : (b : ℕ) → is_value b ≡ true → (eqb b 13 ≡ false) × (eqb b 10 ≡ false)
unfolding is_value
not_break b v = (ne_eqb b 13 (λ z. never (rw z at v)), ne_eqb b 10 (λ z. never (rw z at v)))

no_crlf : (b : ℕ) (s : List ℕ) → is_value b ≡ true → starts_crlf (b ∷ s) ≡ false
unfolding starts_crlf
no_crlf b [] v = refl
no_crlf b (c ∷ s) v = rw (not_break b v).0

-- ---- sizes with bytes before them

abbrev plus : ℕ → Option ℕ → Option ℕ
plus n none = none
plus n (some m) = some (n + m)

plus_zero : (o : Option ℕ) → plus 0 o ≡ o
plus_zero none = refl
plus_zero (some m) = ap some (omega arith)

longer_plus : (n : ℕ) (o : Option ℕ) → one_longer (plus n o) ≡ plus (suc n) o
longer_plus n none = refl
longer_plus n (some m) = ap some (omega arith)

plus_plus : (n m : ℕ) (o : Option ℕ) → plus n (plus m o) ≡ plus (n + m) o
plus_plus n m none = refl
plus_plus n m (some k) = ap some (omega arith)

longer_inv : (o : Option ℕ) {n : ℕ} → one_longer o ≡ some n → (m : ℕ) × (o ≡ some m) × (n ≡ suc m)
longer_inv none e = nothing e
longer_inv (some m) e = (m, refl, cc)

-- ---- value bytes

pub value_byte : (b : ℕ) (s : List ℕ) → is_value b ≡ true → value_size 0 (b ∷ s) ≡ one_longer (value_size 0 s)
unfolding value_size
value_byte b s v = rw (no_crlf b s v, v)

past_line : (s : List ℕ) → value_size 0 s ≡ plus (run is_value s) (value_size 0 (drop (run is_value s) s))
past_line [] = rw (run_nil is_value) (sym (plus_zero (value_size 0 [])))
past_line (b ∷ s) = go (is_value b) refl (past_line s)
  where
    go : (t : Bool) → is_value b ≡ t → value_size 0 s ≡ plus (run is_value s) (value_size 0 (drop (run is_value s) s))
        → value_size 0 (b ∷ s) ≡ plus (run is_value (b ∷ s)) (value_size 0 (drop (run is_value (b ∷ s)) (b ∷ s)))
    go true e f =
        rw (run_yes is_value b s e) (value_byte b s e ∙ ap one_longer f ∙ longer_plus (run is_value s) (value_size 0 (drop (run is_value s) s)))
    go false e f = rw (run_no is_value b s e) (sym (plus_zero (value_size 0 (b ∷ s))))

-- ---- after the value bytes of a line

abbrev is_fold : List ℕ → Bool
is_fold t = starts_crlf t && starts_blank (drop 2 t)

fold_room : (t : List ℕ) → is_fold t ≡ true → 3 ≤ length t
unfolding starts_crlf starts_blank
fold_room [] e = never e
fold_room (a ∷ []) e = never e
fold_room (a ∷ b ∷ []) e = let f = (and-eq-true_iff (eqb a 13 && eqb b 10) false).0 e in never f.1
fold_room (a ∷ b ∷ c ∷ t) e = omega arith

fold_size : (t : List ℕ) → is_fold t ≡ true → value_size 0 t ≡ plus 3 (value_size 0 (drop 3 t))
unfolding value_size starts_crlf starts_blank
fold_size [] e = never e
fold_size (a ∷ []) e = never e
fold_size (a ∷ b ∷ []) e = let f = (and-eq-true_iff (eqb a 13 && eqb b 10) false).0 e in never f.1
fold_size (a ∷ b ∷ c ∷ t) e =
    let f = (and-eq-true_iff (eqb a 13 && eqb b 10) (is_blank c)).0 e in
    rw (f.0, f.1) (three (value_size 0 t))
  where
    three : (o : Option ℕ) → one_longer (one_longer (one_longer o)) ≡ plus 3 o
    three none = refl
    three (some n) = ap some (omega arith)

pub crlf_room : (t : List ℕ) → starts_crlf t ≡ true → 2 ≤ length t
unfolding starts_crlf
crlf_room [] e = never e
crlf_room (a ∷ []) e = never e
crlf_room (a ∷ b ∷ t) e = omega arith

end_size : (t : List ℕ) → is_fold t ≡ false → starts_crlf t ≡ true → value_size 0 t ≡ some 0
unfolding value_size
end_size [] n e = absurd (omega (arith, crlf_room [] e))
end_size (a ∷ t) n e = let f : starts_blank (drop 2 (a ∷ t)) ≡ false = rw e at n in rw (e, f)

bad_size : (t : List ℕ) → run is_value t ≡ 0 → starts_crlf t ≡ false → value_size 0 t ≡ none
unfolding value_size
bad_size [] z n = refl
bad_size (a ∷ t) z n = go (is_value a) refl
  where
    go : (u : Bool) → is_value a ≡ u → value_size 0 (a ∷ t) ≡ none
    go true v = absurd (omega (arith, run_yes is_value a t v))
    go false v = rw (n, v)

-- ---- a value, and the CRLF that ends it, are part of the text

pub value_fits : (k : ℕ) (s : List ℕ) {n : ℕ} → value_size k s ≡ some n → n + 2 ≤ length s
unfolding value_size
value_fits k [] e = nothing e
value_fits (suc k) (b ∷ s) e = let (m, y, z) = longer_inv (value_size k s) e in omega (arith, value_fits k s y)
value_fits zero (b ∷ s) {n} e =
    go (starts_crlf (b ∷ s)) (starts_blank (drop 2 (b ∷ s))) (is_value b) refl e (λ m y. value_fits 2 s y) (λ m y. value_fits 0 s y)
  where
    go : (c f v : Bool) → starts_crlf (b ∷ s) ≡ c → cond c (cond f (one_longer (value_size 2 s)) (some 0)) (cond v (one_longer (value_size 0 s)) none) ≡ some n
        → ((m : ℕ) → value_size 2 s ≡ some m → m + 2 ≤ length s) → ((m : ℕ) → value_size 0 s ≡ some m → m + 2 ≤ length s)
        → n + 2 ≤ length (b ∷ s)
    go true true v c e x y = let (m, w, z) = longer_inv (value_size 2 s) e in omega (arith, x m w)
    go true false v c e x y = let z : n ≡ 0 = cc in omega (arith, crlf_room (b ∷ s) c)
    go false f true c e x y = let (m, w, z) = longer_inv (value_size 0 s) e in omega (arith, y m w)
    go false f false c e x y = nothing e

-- ---- a line break stands in a value exactly if more than its first line belongs to it

pub crlf_first : (b : ℕ) (s : List ℕ) → starts_crlf (b ∷ s) ≡ true → b ≡ 13
unfolding starts_crlf
crlf_first b [] e = never e
crlf_first b (c ∷ s) e = eqb-true b 13 ((and-eq-true_iff (eqb b 13) (eqb c 10)).0 e).0

pub eqb_suc : (a b : ℕ) → eqb (suc a) (suc b) ≡ eqb a b
eqb_suc a b = go (eqb a b) refl
  where
    go : (t : Bool) → eqb a b ≡ t → eqb (suc a) (suc b) ≡ t
    go true e = eq-eqb (suc a) (suc b) (ap suc (eqb-true a b e))
    go false e = ne_eqb (suc a) (suc b) (λ z. eqb-false a b e (omega arith))

broken : (b : ℕ) (s : List ℕ) (m n : ℕ) → n ≡ suc m → b ≡ 13 → breaks n (b ∷ s) ≡ not (eqb n 0)
unfolding any is_break
broken b s m n z p = rw (z, p, ne_eqb (suc m) 0 (λ w. omega arith))

passed : (b : ℕ) (s : List ℕ) (m n : ℕ) → n ≡ suc m → is_value b ≡ true → breaks m s ≡ not (eqb m (run is_value s))
    → breaks n (b ∷ s) ≡ not (eqb n (run is_value (b ∷ s)))
unfolding any is_break
passed b s m n z v f = rw (z, run_yes is_value b s v, eqb_suc m (run is_value s), (not_break b v).0, (not_break b v).1) f

pub value_breaks : (s : List ℕ) (n : ℕ) → value_size 0 s ≡ some n → breaks n s ≡ not (eqb n (run is_value s))
unfolding any value_size
value_breaks [] n e = nothing e
value_breaks (b ∷ s) n e = go (is_value b) refl (value_breaks s)
  where
    line : (c f : Bool) → is_value b ≡ false → starts_crlf (b ∷ s) ≡ c → starts_blank (drop 2 (b ∷ s)) ≡ f → breaks n (b ∷ s) ≡ not (eqb n 0)
    line true true v p q =
        let x : one_longer (value_size 2 s) ≡ some n = rw (p, q) at e in
        let (m, y, z) = longer_inv (value_size 2 s) x in
        broken b s m n z (crlf_first b s p)
    line true false v p q = let x : ◌≡◌ {A = Option ℕ} (some 0) (some n) = rw (p, q) at e in let z : n ≡ 0 = cc in rw z
    line false f v p q = nothing (rw (p, v) at e)

    go : (t : Bool) → is_value b ≡ t → ((m : ℕ) → value_size 0 s ≡ some m → breaks m s ≡ not (eqb m (run is_value s)))
        → breaks n (b ∷ s) ≡ not (eqb n (run is_value (b ∷ s)))
    go true v f = let (m, y, z) = longer_inv (value_size 0 s) (sym (value_byte b s v) ∙ e) in passed b s m n z v (f m y)
    go false v f = rw (run_no is_value b s v) (line (starts_crlf (b ∷ s)) (starts_blank (drop 2 (b ∷ s))) v refl refl)

-- ---- the lines of a value in a text: where it ends is where what is left of it ends

module _ (s : List ℕ) where
  end_plus : (at n : ℕ) (o : Option ℕ) → end_at (length s) at (plus n o) ≡ end_at (length s) (at + n) o
  end_plus at n none = refl
  end_plus at n (some m) = omega arith

  module _ (at : ℕ) {line : ℕ} (h : line ≡ at + run is_value (drop at s)) where
    rest_is : drop (run is_value (drop at s)) (drop at s) ≡ drop line s
    rest_is = drop-drop (run is_value (drop at s)) at s ∙ ap (λ (i : ℕ). drop i s) (sym h)

    pub line_end : value_end s at ≡ value_end s line
    unfolding value_end
    line_end =
        ap (end_at (length s) at) (past_line (drop at s)) ∙ end_plus at (run is_value (drop at s)) (value_size 0 (drop (run is_value (drop at s)) (drop at s)))
        ∙ rw (rest_is, ← h)

    pub end_after_line : {e : ℕ} → e ≡ value_end s line → e ≡ value_end s at
    end_after_line q = q ∙ sym line_end

    pub folded_line : (e : ℕ) → not (eqb e line) ≡ not (eqb e (at + run is_value (drop at s)))
    folded_line e = rw h

    pub line_over : run is_value (drop line s) ≡ 0
    line_over = ap (run is_value) (sym rest_is) ∙ run_after is_value (drop at s)

  -- a CRLF that no blank follows stands at the place

  module _ (at : ℕ) (h : 3 ≤ length s - at) where
    crlf_at : get_or s at 0 ≡ 13 → get_or s (at + 1) 0 ≡ 10 → starts_crlf (drop at s) ≡ true
    unfolding starts_crlf
    crlf_at a b = rw (drop2 s at (omega arith), a, b)

    blank_at : 32 < get_or s (at + 2) 0 → starts_blank (drop (at + 2) s) ≡ false
    unfolding starts_blank is_blank
    blank_at k = rw (drop1 s (at + 2) (omega arith), ne_eqb (get_or s (at + 2) 0) 32 (λ z. omega arith), ne_eqb (get_or s (at + 2) 0) 9 (λ z. omega arith))

    last_line : get_or s at 0 ≡ 13 → get_or s (at + 1) 0 ≡ 10 → 32 < get_or s (at + 2) 0 → value_end s at ≡ at
    unfolding value_end
    last_line a b k =
        let z : at + 0 ≡ at = omega arith in
        rw (end_size (drop at s) (rw (crlf_at a b, drop-drop 2 at s, blank_at k)) (crlf_at a b), z)

    pub last_test : {x y : ℕ} → x ≡ get_or s at 0 + 256 * get_or s (at + 1) 0 → get_or s at 0 < 256 → get_or s (at + 1) 0 < 256 → y ≡ 13 + 256 * 10 → x ≡ y
        → value_end s at ≡ cond (ltb 32 (get_or s (at + 2) 0)) at (value_end s at)
    last_test hx a b hy e = go (ltb 32 (get_or s (at + 2) 0)) refl
      where
        go : (t : Bool) → ltb 32 (get_or s (at + 2) 0) ≡ t → value_end s at ≡ cond t at (value_end s at)
        go true q = last_line (omega arith) (omega arith) (ltb-true 32 (get_or s (at + 2) 0) q)
        go false q = refl

  pub last_within : (line : ℕ) (r : Bool) → r ≡ true → bit r ≤ length s - line → line < length s
  last_within line r q h = omega (arith, rw q at h)

  -- by what is read of the lines of a value at a place
  module _ (at : ℕ) {line : ℕ} (h : line ≡ at + run is_value (drop at s)) where
    pub bad_value : length s ≡ value_end s line → ValueStands s at None
    bad_value e = let z : length s ≡ value_end s at = end_after_line at h e in record { value_stands = omega arith }

    pub good_value : {e : ℕ} → e ≡ value_end s line → e < length s → ValueStands s at (Some (record { end = e; folded = not (eqb e line) }))
    good_value {e} q l = record { value_stands = (end_after_line at h q, l, folded_line at h e) }

  pub ends_here : (at : ℕ) (r : Bool) → value_end s at ≡ cond r at (value_end s at) → r ≡ true → at ≡ value_end s at
  ends_here at r e q = sym (rw q at e)

  -- the value is read up to `end`
  module _ (line end : ℕ) (e : value_end s line ≡ value_end s end) {c : Bool} (hc : c ≡ starts_crlf (drop end s)) where
    pub room : c ≡ true → end < length s
    room y = omega (arith, crlf_room (drop end s) (sym hc ∙ y), length-drop end s)

    pub ends_bad : c ≡ false → run is_value (drop end s) ≡ 0 → length s ≡ value_end s line
    unfolding value_end
    ends_bad n z = sym (e ∙ rw (bad_size (drop end s) z (sym hc ∙ n)))

    module _ (y : c ≡ true) {after : ℕ} (ha : after ≡ end + 2) {b : Bool} (hb : b ≡ starts_blank (drop after s)) where
      fold_is : is_fold (drop end s) ≡ b
      fold_is = rw (← hc, y, drop-drop 2 end s, ← ha, ← hb)

      pub ends : not b ≡ true → end ≡ value_end s line
      unfolding value_end
      ends q =
          let z : end + 0 ≡ end = omega arith in
          sym (e ∙ rw (end_size (drop end s) (fold_is ∙ not-true b q) (sym hc ∙ y), z))

      -- it goes on, and its next line starts at `next`
      module _ (q : not b ≡ false) where
        next_fits : end + 3 ≤ length s
        next_fits = omega (arith, fold_room (drop end s) (fold_is ∙ not-false b q), length-drop end s)

        module _ {next : ℕ} (hn : next ≡ end + 3) {k : ℕ} (hk : k ≡ next + run is_value (drop next s)) where
          pub next_within : k ≤ next + (length s - next) → k ≤ length s
          next_within h = omega (arith, next_fits)

          pub next_less : length s - k < length s - end
          next_less = omega (arith, next_fits)

          pub next_over : run is_value (drop k s) ≡ 0
          next_over = line_over next hk

          pub next_read : value_end s line ≡ value_end s k
          unfolding value_end
          next_read =
              e ∙ ap (end_at (length s) end) (fold_size (drop end s) (fold_is ∙ not-false b q)) ∙ end_plus end 3 (value_size 0 (drop 3 (drop end s)))
              ∙ rw (drop-drop 3 end s, ← hn) (line_end next hk)

-- ---- a CRLF that a blank follows, by its bytes

module _ (s : List ℕ) (at : ℕ) where
  abbrev folds : Bool
  folds = starts_crlf (drop at s) && starts_blank (drop (at + 2) s)

  pub no_room : length s - at < 3 → false ≡ folds
  unfolding starts_blank
  no_room h = rw (drop_of_length-le s {i = at + 2} (omega arith)) (sym (and-false (starts_crlf (drop at s))))

  module _ (h : 3 ≤ length s - at) {x y : ℕ} (hx : x ≡ get_or s at 0 + 256 * get_or s (at + 1) 0) (a : get_or s at 0 < 256) (b : get_or s (at + 1) 0 < 256) (hy : y ≡ 13 + 256 * 10) where
    crlf_is : starts_crlf (drop at s) ≡ (eqb (get_or s at 0) 13 && eqb (get_or s (at + 1) 0) 10)
    unfolding starts_crlf
    crlf_is = rw (drop2 s at (omega arith))

    blank_is : starts_blank (drop (at + 2) s) ≡ is_blank (get_or s (at + 2) 0)
    unfolding starts_blank
    blank_is = rw (drop1 s (at + 2) (omega arith))

    pub no_fold : (x ≡ y → ⊥) → false ≡ folds
    no_fold n = rw crlf_is (go (eqb (get_or s at 0) 13) (eqb (get_or s (at + 1) 0) 10) refl refl)
      where
        go : (t u : Bool) → eqb (get_or s at 0) 13 ≡ t → eqb (get_or s (at + 1) 0) 10 ≡ u → false ≡ ((t && u) && starts_blank (drop (at + 2) s))
        go true true p q = absurd (n (omega (arith, eqb-true (get_or s at 0) 13 p, eqb-true (get_or s (at + 1) 0) 10 q)))
        go true false p q = refl
        go false u p q = refl

    module _ (e : x ≡ y) where
      crlf_there : starts_crlf (drop at s) ≡ true
      crlf_there = rw (crlf_is, eq-eqb (get_or s at 0) 13 (omega arith), eq-eqb (get_or s (at + 1) 0) 10 (omega arith))

      pub space_there : get_or s (at + 2) 0 ≡ 32 → true ≡ folds
      unfolding is_blank
      space_there q = rw (crlf_there, blank_is, q)

      pub tab_there : (get_or s (at + 2) 0 ≡ 32 → ⊥) → eqb (get_or s (at + 2) 0) 9 ≡ folds
      unfolding is_blank
      tab_there n = rw (crlf_there, blank_is, ne_eqb (get_or s (at + 2) 0) 32 n)

module _ (s : List ℕ) (line end : ℕ) (e : value_end s line ≡ value_end s end) {g : Bool} (hg : g ≡ (starts_crlf (drop end s) && starts_blank (drop (end + 2) s))) where
  module _ (q : g ≡ true) where
    both : (starts_crlf (drop end s) ≡ true) × (starts_blank (drop (end + 2) s) ≡ true)
    both = (and-eq-true_iff (starts_crlf (drop end s)) (starts_blank (drop (end + 2) s))).0 (sym hg ∙ q)

    blank : not (starts_blank (drop (end + 2) s)) ≡ false
    blank = rw both.1

    module _ {next : ℕ} (hn : next ≡ end + 3) {k : ℕ} (hk : k ≡ next + run is_value (drop next s)) where
      pub on_within : k ≤ next + (length s - next) → k ≤ length s
      on_within = next_within s line end e refl both.0 refl refl blank hn hk

      pub on_less : length s - k < length s - end
      on_less = next_less s line end e refl both.0 refl refl blank hn hk

      pub on_over : run is_value (drop k s) ≡ 0
      on_over = next_over s line end e refl both.0 refl refl blank hn hk

      pub on_read : value_end s line ≡ value_end s k
      on_read = next_read s line end e refl both.0 refl refl blank hn hk

  pub ends_at : g ≡ false → {c : Bool} → c ≡ starts_crlf (drop end s) → not c ≡ false → end ≡ value_end s line
  ends_at q {c} hc n =
      let y : starts_crlf (drop end s) ≡ true = sym hc ∙ not-false c n in
      let z : not (starts_blank (drop (end + 2) s)) ≡ true = ap not (rw y at (sym hg ∙ q)) in
      ends s line end e refl y refl refl z

  pub ends_within : {c : Bool} → c ≡ starts_crlf (drop end s) → not c ≡ false → end < length s
  ends_within {c} hc n = room s line end e hc (not-false c n)

  pub ends_badly : {c : Bool} → c ≡ starts_crlf (drop end s) → not c ≡ true → run is_value (drop end s) ≡ 0 → length s ≡ value_end s line
  ends_badly {c} hc n = ends_bad s line end e hc (not-true c n)
