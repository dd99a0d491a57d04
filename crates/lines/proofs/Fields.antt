-- The field by the tests of its readers, and the bounds of a field that is found: by its shape, which leaves room for all its parts.
use mathlib.Core.Path.{◌≡◌, refl, sym, ap, ◌∙◌}
use mathlib.Core.Bool.{Bool, true, false, not, cond, ◌&&◌, and-eq-true_iff}
use mathlib.Core.List.{List}
use mathlib.Core.Option.{Option, none, some}
use Prim.Native.Nat.{ℕ, ◌+◌, ◌-◌, ◌≤◌, ◌<◌}
use native.Mathlib.Omega.{arith}
use lib.Dec.{eqb}
use lib.ListN.{length, drop, get_or, drop_of_length-le, length-drop}
use lib.Seq.{drop-drop}
use borrow.Author.Tests.{eqb-true, eqb-false, eq-eqb, ne_eqb, not-true}
use Rattle.octets.specs.Classes.{is_token, is_blank, is_value}
use Rattle.octets.specs.Scans.{run, starts}
use Rattle.octets.proofs.Places.{drop1}
use Rattle.octets.proofs.Runs.{run_stop, run_end}
use Rattle.sip.specs.Lines.{Shape, shape, shape_of, size, value_size}
use Rattle.lines.specs.Places.{breaks, field_places, field_at}
use Rattle.lines.specs.Sizes.{colon_size, end_at, value_end}
use Rattle.lines.specs.Passes.{ValueStands}
use Rattle.lines.specs.declared.FieldAt.{FieldAt}
use Rattle.lines.specs.declared.field.ValueAt.{ValueAt}
use Rattle.std.specs.Prelude.{Option as Answer, None, Some}
use Rattle.lines.proofs.Values.{value_fits, value_breaks}

-- what the reader answers
abbrev pub Found : ℕ → ℕ → ℕ → Bool → Answer FieldAt
Found x v e d = Some (record { name = x; value = v; end = e; folded = d })

abbrev pub Bad : Answer FieldAt
Bad = None

-- ---- spaces or tabs, and a colon

starts_past : (s : List ℕ) (g : ℕ) → length s ≤ g → starts 58 (drop g s) ≡ false
unfolding starts
starts_past s g h = rw (drop_of_length-le s h)

starts_at : (s : List ℕ) (g : ℕ) → g < length s → starts 58 (drop g s) ≡ eqb (get_or s g 0) 58
unfolding starts
starts_at s g h = rw (drop1 s g h)

-- the spaces or tabs at a place end at g
module _ (s : List ℕ) (at : ℕ) {g : ℕ} (hg : g ≡ at + run is_blank (drop at s)) where
  by_sign : colon_size (drop at s) ≡ cond (starts 58 (drop g s)) (run is_blank (drop at s) + 1) 0
  unfolding colon_size
  by_sign = rw (drop-drop (run is_blank (drop at s)) at s, ← hg)

  no_sign_at : starts 58 (drop g s) ≡ false → at ≡ at + colon_size (drop at s)
  no_sign_at e = omega (arith, rw e at by_sign)

  sign_at : starts 58 (drop g s) ≡ true → {k : ℕ} → k ≡ g + 1 → k ≡ at + colon_size (drop at s)
  sign_at e z = omega (arith, rw e at by_sign)

  pub colon_past : length s ≤ g → at ≡ at + colon_size (drop at s)
  colon_past h = no_sign_at (starts_past s g h)

  module _ (h : g < length s) where
    pub no_colon : (get_or s g 0 ≡ 58 → ⊥) → at ≡ at + colon_size (drop at s)
    no_colon n = no_sign_at (starts_at s g h ∙ ne_eqb (get_or s g 0) 58 n)

    pub a_colon : get_or s g 0 ≡ 58 → {k : ℕ} → k ≡ g + 1 → k ≡ at + colon_size (drop at s)
    a_colon e = sign_at (starts_at s g h ∙ eq-eqb (get_or s g 0) 58 e)

module _ (s : List ℕ) (at : ℕ) where
  pub past_colon : length s ≤ at → at ≡ at + colon_size (drop at s)
  past_colon h = colon_past s at (omega (arith, run_end is_blank s at h)) h

  -- no space or tab stands before it
  pub colon_here : at < length s → get_or s at 0 ≡ 58 → {k : ℕ} → k ≡ at + 1 → k ≡ at + colon_size (drop at s)
  unfolding is_blank
  colon_here h e = a_colon s at (omega (arith, run_stop is_blank s at h (rw e))) h e

colon_no : (w : List ℕ) → colon_size w < 1 → starts 58 (drop (run is_blank w) w) ≡ false
unfolding colon_size
colon_no w h = go (starts 58 (drop (run is_blank w) w)) refl
  where
    go : (t : Bool) → starts 58 (drop (run is_blank w) w) ≡ t → t ≡ false
    go true e = let z : colon_size w ≡ run is_blank w + 1 = rw e in absurd (omega arith)
    go false e = refl

colon_yes : (w : List ℕ) → 1 ≤ colon_size w → (starts 58 (drop (run is_blank w) w) ≡ true) × (colon_size w ≡ run is_blank w + 1)
unfolding colon_size
colon_yes w h = go (starts 58 (drop (run is_blank w) w)) refl
  where
    go : (t : Bool) → starts 58 (drop (run is_blank w) w) ≡ t → (starts 58 (drop (run is_blank w) w) ≡ true) × (colon_size w ≡ run is_blank w + 1)
    go true e = (e, rw e)
    go false e = let z : colon_size w ≡ 0 = rw e in absurd (omega arith)

-- ---- the shape of the field

module _ (f : List ℕ) {n : ℕ} (hn : n ≡ run is_token f) where
  no_name : n < 1 → shape f ≡ none
  unfolding shape
  no_name h = rw (← hn, eq-eqb n 0 (omega arith))

  module _ {a : List ℕ} (ha : a ≡ drop n f) {c : ℕ} (hc : c ≡ colon_size a) (h : 1 ≤ n) where
    c_is : c ≡ colon_size (drop n f)
    c_is = hc ∙ ap colon_size ha

    no_sign : c < 1 → shape f ≡ none
    unfolding shape
    no_sign l =
        let q : starts 58 (drop (n + run is_blank (drop n f)) f) ≡ false =
        ap (starts 58) (sym (drop-drop (run is_blank (drop n f)) n f)) ∙ colon_no (drop n f) (omega (arith, c_is)) in
        rw (← hn, ne_eqb n 0 (λ z. omega arith), q)

    at_value : 1 ≤ c → shape f ≡ shape_of n (c - 1) (value_size 0 (drop (n + c) f))
    unfolding shape
    at_value l =
        let y = colon_yes (drop n f) (omega (arith, c_is)) in
        let q : starts 58 (drop (n + run is_blank (drop n f)) f) ≡ true =
        ap (starts 58) (sym (drop-drop (run is_blank (drop n f)) n f)) ∙ y.0 in
        let b : run is_blank (drop n f) ≡ c - 1 = omega (arith, c_is, y.1) in
        let k : n + (c - 1) + 1 ≡ n + c = omega arith in
        rw (← hn, ne_eqb n 0 (λ z. omega arith), q, b, k)

module _ (f : List ℕ) (g : Shape) where
  pub shape_fits : shape f ≡ some g → (1 ≤ g.name) × (size g ≤ length f)
  unfolding shape
  shape_fits e = go (not (eqb (run is_token f) 0) && starts 58 (drop (run is_token f + run is_blank (drop (run is_token f) f)) f)) refl e
    where
      sized : (n b : ℕ) (o : Option ℕ) → 1 ≤ n → value_size 0 (drop (n + b + 1) f) ≡ o → shape_of n b o ≡ some g → (1 ≤ g.name) × (size g ≤ length f)
      sized n b none h p q = let z : ◌≡◌ {A = ℕ} 0 1 = cc in absurd (omega arith)
      sized n b (some v) h p q =
          let z : record { name = n; gap = b; value = v } ≡ g = cc in
          omega (arith, value_fits 0 (drop (n + b + 1) f) p, length-drop (n + b + 1) f, ap (λ (x : Shape). x.name) z, ap (λ (x : Shape). x.gap) z, ap (λ (x : Shape). x.value) z)

      go : (t : Bool) → (not (eqb (run is_token f) 0) && starts 58 (drop (run is_token f + run is_blank (drop (run is_token f) f)) f)) ≡ t
          → cond t (shape_of (run is_token f) (run is_blank (drop (run is_token f) f)) (value_size 0 (drop (run is_token f + run is_blank (drop (run is_token f) f) + 1) f))) none ≡ some g
          → (1 ≤ g.name) × (size g ≤ length f)
      go true p q =
          let i = (and-eq-true_iff (not (eqb (run is_token f) 0)) (starts 58 (drop (run is_token f + run is_blank (drop (run is_token f) f)) f))).0 p in
          let j : run is_token f ≡ 0 → ⊥ = eqb-false (run is_token f) 0 (not-true (eqb (run is_token f) 0) i.0) in
          sized (run is_token f) (run is_blank (drop (run is_token f) f)) (value_size 0 (drop (run is_token f + run is_blank (drop (run is_token f) f) + 1) f)) (omega arith) refl q
      go false p q = let z : ◌≡◌ {A = ℕ} 0 1 = cc in absurd (omega arith)

-- ---- the places of the field

end_none : (s : List ℕ) (v : ℕ) (o : Option ℕ) → value_size 0 (drop v s) ≡ o → length s ≤ end_at (length s) v o → o ≡ none
end_none s v none p h = refl
end_none s v (some n) p h = absurd (omega (arith, value_fits 0 (drop v s) p, length-drop v s))

end_some : (past v : ℕ) (o : Option ℕ) {e : ℕ} → e ≡ end_at past v o → e < past → (o ≡ some (e - v)) × (v ≤ e)
end_some past v none p h = absurd (omega arith)
end_some past v (some n) p h = (ap some (omega arith), omega arith)

eqb_from : (v x y : ℕ) → v ≤ x → v ≤ y → eqb (x - v) (y - v) ≡ eqb x y
eqb_from v x y a b = go (eqb x y) refl
  where
    go : (t : Bool) → eqb x y ≡ t → eqb (x - v) (y - v) ≡ t
    go true e = eq-eqb (x - v) (y - v) (omega (arith, eqb-true x y e))
    go false e = ne_eqb (x - v) (y - v) (λ z. eqb-false x y e (omega arith))

module _ (s : List ℕ) (at : ℕ) {x : ℕ} (hx : x ≡ at + run is_token (drop at s)) where
  name_long : x - at ≡ run is_token (drop at s)
  name_long = omega arith

  pub nameless : x ≤ at → Bad ≡ field_at s at
  unfolding field_at
  nameless h = rw (no_name (drop at s) name_long (omega arith))

  module _ (h : at < x) {v : ℕ} (hv : v ≡ x + colon_size (drop x s)) where
    at_name : drop x s ≡ drop (x - at) (drop at s)
    at_name = let z : at + (x - at) ≡ x = omega arith in sym (drop-drop (x - at) at s ∙ ap (λ (i : ℕ). drop i s) z)

    colon_long : v - x ≡ colon_size (drop x s)
    colon_long = omega arith

    no_colon_there : v ≤ x → Bad ≡ field_at s at
    unfolding field_at
    no_colon_there l = rw (no_sign (drop at s) name_long at_name colon_long (omega arith) (omega arith))

    module _ (l : x < v) {e : ℕ} (he : e ≡ value_end s v) where
      by_value : field_at s at ≡ field_places s at (shape_of (x - at) (v - x - 1) (value_size 0 (drop v s)))
      unfolding field_at
      by_value =
          let z : at + (x - at + (v - x)) ≡ v = omega arith in
          rw (at_value (drop at s) name_long at_name colon_long (omega arith) (omega arith), drop-drop (x - at + (v - x)) at s, z)

      end_is : e ≡ end_at (length s) v (value_size 0 (drop v s))
      unfolding value_end
      end_is = he

      pub endless : length s ≤ e → Bad ≡ field_at s at
      endless q = rw (by_value, end_none s v (value_size 0 (drop v s)) refl (omega (arith, end_is)))

      module _ (q : e < length s) where
        sized : (value_size 0 (drop v s) ≡ some (e - v)) × (v ≤ e)
        sized = end_some (length s) v (value_size 0 (drop v s)) end_is q

        folds : breaks (e - v) (drop v s) ≡ not (eqb e (v + run is_value (drop v s)))
        folds =
            let r : run is_value (drop v s) ≡ v + run is_value (drop v s) - v = omega arith in
            value_breaks (drop v s) (e - v) sized.0 ∙ ap (λ (k : ℕ). not (eqb (e - v) k)) r
            ∙ ap not (eqb_from v e (v + run is_value (drop v s)) sized.1 (omega arith))

        pub found : {d : Bool} → d ≡ not (eqb e (v + run is_value (drop v s))) → Found x v e d ≡ field_at s at
        found hd =
            let a : at + (x - at) ≡ x = omega arith in
            let b : x + (v - x - 1) + 1 ≡ v = omega arith in
            let c : v + (e - v) ≡ e = omega (arith, sized.1) in
            rw (by_value, sized.0, a, b, c, folds, hd)

  pub colonless : at < x → x ≡ x + colon_size (drop x s) → Bad ≡ field_at s at
  colonless h e = no_colon_there h e (omega arith)

  -- by what is read of its value
  pub endless_value : at < x → {v : ℕ} → v ≡ x + colon_size (drop x s) → x < v → ValueStands s v None → Bad ≡ field_at s at
  endless_value h hv l w = endless h hv l refl w.value_stands

  pub found_value : at < x → {v : ℕ} → v ≡ x + colon_size (drop x s) → x < v → {f : ValueAt} → ValueStands s v (Some f) → Found x v f.end f.folded ≡ field_at s at
  found_value h hv l w = found h hv l w.value_stands.0 w.value_stands.1 w.value_stands.2

-- ---- what a caller knows of a field that is found

pub record FieldRead (s : List ℕ) (at x v e : ℕ) (d : Bool) : Type 0 where
  pub parts : Shape
  pub reads : shape (drop at s) ≡ some parts
  pub name_is : x ≡ at + parts.name
  pub value_is : v ≡ x + parts.gap + 1
  pub end_is : e ≡ v + parts.value
  pub folded_is : d ≡ breaks parts.value (drop v s)

module _ (s : List ℕ) (at : ℕ) {r : Answer FieldAt} (hr : r ≡ field_at s at) where
  pub field_bad : r ≡ Bad → shape (drop at s) ≡ none
  unfolding field_at
  field_bad q = go (shape (drop at s)) (sym q ∙ hr)
    where
      go : (o : Option Shape) → Bad ≡ field_places s at o → o ≡ none
      go none e = refl
      go (some g) e = cc

  module _ {x v e : ℕ} {d : Bool} (q : r ≡ Found x v e d) where
    pub field_read : FieldRead s at x v e d
    unfolding field_at
    field_read = go (shape (drop at s)) refl (sym q ∙ hr)
      where
        go : (o : Option Shape) → shape (drop at s) ≡ o → Found x v e d ≡ field_places s at o → FieldRead s at x v e d
        go none p y = cc
        go (some g) p y =
            let z : ◌≡◌ {A = FieldAt} (record { name = x; value = v; end = e; folded = d }) (record { name = at + g.name; value = at + g.name + g.gap + 1; end = at + g.name + g.gap + 1 + g.value; folded = breaks g.value (drop (at + g.name + g.gap + 1) s) }) = cc in
            let a : x ≡ at + g.name = ap (λ (f : FieldAt). f.name) z in
            let b : v ≡ at + g.name + g.gap + 1 = ap (λ (f : FieldAt). f.value) z in
            let c : e ≡ at + g.name + g.gap + 1 + g.value = ap (λ (f : FieldAt). f.end) z in
            let f : d ≡ breaks g.value (drop (at + g.name + g.gap + 1) s) = ap (λ (f : FieldAt). f.folded) z in
            record { parts = g; reads = p; name_is = a; value_is = rw a b; end_is = rw b c; folded_is = rw b f }

    pub field_fits : (at < x) × (x < v) × (v ≤ e) × (e + 2 ≤ length s)
    field_fits = let f = field_read in let g = shape_fits (drop at s) f.parts f.reads in omega (arith, f, g, length-drop at s)
