-- A well-shaped field in front of anything that does not start with a blank is read as itself, and every field that is read is one.
use mathlib.Core.Path.{◌≡◌, refl, sym, ap, ◌∙◌}
use mathlib.Core.Bool.{Bool, true, false, false≢true, not, cond, ◌&&◌, ◌||◌}
use mathlib.Core.List.{List, [], ◌∷◌, ◌++◌, append_assoc}
use mathlib.Core.Option.{Option, none, some}
use Prim.Native.Nat.{ℕ, ◌+◌, ◌<◌}
use native.Mathlib.Omega.{arith}
use lib.Dec.{eqb}
use lib.ListN.{length, take, drop, length-append, take-append-drop}
use lib.Seq.{length-take-le, take-append_seam, drop-append_seam, take_at, drop_at, drop-drop}
use borrow.Author.Tests.{eqb-true, eqb-false, ne_eqb}
use Rattle.octets.specs.Classes.{is_token, is_blank}
use Rattle.octets.specs.Scans.{run, all, starts}
use Rattle.sip.specs.Lines.{starts_crlf, starts_blank, value_size, Shape, shape_of, shape, size, Field, bytes, field_of}
use Rattle.sip.specs.Change.{WellShaped}
use Rattle.octets.proofs.Runs.{run_no, run_exact, run_all, run_le}
use Rattle.sip.proofs.Tests.{byte_start, all_first}
use Rattle.sip.proofs.ValueSizes.{not_none, value_before, Ended, value_ends}

-- ---- classes

blank_token : (b : ℕ) → is_blank b ≡ true → is_token b ≡ false
unfolding is_blank is_token
blank_token b e = go (eqb b 32) (eqb b 9) refl refl e
  where
    go : (t u : Bool) → eqb b 32 ≡ t → eqb b 9 ≡ u → (t || u) ≡ true → is_token b ≡ false
    go true u p q h = rw (eqb-true b 32 p)
    go false true p q h = rw (eqb-true b 9 q)
    go false false p q h = absurd (false≢true h)

token_blank : (b : ℕ) → is_token b ≡ true → is_blank b ≡ false
token_blank b e = go (is_blank b) refl
  where
    go : (t : Bool) → is_blank b ≡ t → is_blank b ≡ false
    go true q = let f : is_token b ≡ false = blank_token b q in cc
    go false q = q

token_13 : (b : ℕ) → is_token b ≡ true → eqb b 13 ≡ false
unfolding is_token
token_13 b e = ne_eqb b 13 (λ q. false≢true (rw q at e))

gap_stops : (g r : List ℕ) → all is_blank g ≡ true → run is_token (g ++ 58 ∷ r) ≡ 0
unfolding is_token
gap_stops [] r e = run_no is_token 58 r refl
gap_stops (b ∷ g) r e = run_no is_token b (g ++ 58 ∷ r) (blank_token b (all_first is_blank b g e))

-- a token byte in front is no empty line
token_line : (b : ℕ) (s : List ℕ) → is_token b ≡ true → starts_crlf (b ∷ s) ≡ false
unfolding starts_crlf
token_line b [] e = refl
token_line b (c ∷ s) e = rw (token_13 b e)

name_line : (n u : List ℕ) → 0 < length n → all is_token n ≡ true → (starts_crlf (n ++ u) ≡ false) × (starts_blank (n ++ u) ≡ false)
unfolding starts_blank
name_line [] u h e = absurd (omega arith)
name_line (b ∷ n) u h e = let t : is_token b ≡ true = all_first is_token b n e in (token_line b (n ++ u) t, token_blank b t)

-- ---- from the field to what is read

-- the shape of a field
abbrev pub lengths : Field → Shape
lengths d = record { name = length d.name; gap = length d.gap; value = length d.value }

pub length_bytes : (d : Field) → length (bytes d) ≡ size (lengths d)
length_bytes d = simp length-append (omega arith)

module _ (d : Field) (t : List ℕ) where
  whole : bytes d ++ t ≡ d.name ++ (d.gap ++ 58 ∷ (d.value ++ 13 ∷ 10 ∷ t))
  whole = simp append_assoc

  -- its places
  after_name : drop (length d.name) (bytes d ++ t) ≡ d.gap ++ 58 ∷ (d.value ++ 13 ∷ 10 ∷ t)
  after_name = rw whole (drop-append_seam d.name _)

  after_gap : drop (length d.name + length d.gap) (bytes d ++ t) ≡ 58 ∷ (d.value ++ 13 ∷ 10 ∷ t)
  after_gap = rw (← drop-drop (length d.gap) (length d.name) (bytes d ++ t), after_name) (drop-append_seam d.gap _)

  after_colon : drop (length d.name + length d.gap + 1) (bytes d ++ t) ≡ d.value ++ 13 ∷ 10 ∷ t
  after_colon = rw (← drop-drop 1 (length d.name + length d.gap) (bytes d ++ t), after_gap)

  pub rest_back : drop (size (lengths d)) (bytes d ++ t) ≡ t
  rest_back = drop_at (bytes d) t (size (lengths d)) (length_bytes d)

  pub field_back : field_of (lengths d) (bytes d ++ t) ≡ d
  field_back = rw (after_name, after_colon, whole, take-append_seam d.name, take-append_seam d.gap, take-append_seam d.value)

  module _ (w : WellShaped d) where
    pub no_crlf : starts_crlf (bytes d ++ t) ≡ false
    no_crlf = rw whole (name_line d.name _ w.name_long w.name_token).0

    pub no_blank : starts_blank (bytes d ++ t) ≡ false
    no_blank = rw whole (name_line d.name _ w.name_long w.name_token).1

    -- a whole field in front of anything that does not start with a blank is read as itself
    pub shape_bytes : starts_blank t ≡ false → shape (bytes d ++ t) ≡ some (lengths d)
    unfolding shape starts is_blank
    shape_bytes h =
        let u : List ℕ = d.gap ++ 58 ∷ (d.value ++ 13 ∷ 10 ∷ t) in
        let n : run is_token (bytes d ++ t) ≡ length d.name = rw whole (run_exact is_token d.name u w.name_token (gap_stops d.gap _ w.gap_blank)) in
        let g : run is_blank u ≡ length d.gap = run_exact is_blank d.gap (58 ∷ (d.value ++ 13 ∷ 10 ∷ t)) w.gap_blank (run_no is_blank 58 _ refl) in
        let z : eqb (length d.name) 0 ≡ false = ne_eqb (length d.name) 0 (λ e. omega (arith, w.name_long)) in
        let v : value_size 0 (d.value ++ 13 ∷ 10 ∷ t) ≡ some (length d.value) = value_before 0 d.value t w.value_ends h in
        rw (n, after_name, g, after_gap, after_colon, z, v)

-- ---- from what is read to the field

-- the field that is read stands at the front, and no blank after it
pub record FieldHere (s : List ℕ) (f : Shape) : Type 0 where
  pub shaped : WellShaped (field_of f s)
  pub sizes : f ≡ lengths (field_of f s)
  pub here : bytes (field_of f s) ++ drop (size f) s ≡ s
  pub no_blank_after : starts_blank (drop (size f) s) ≡ false

module _ (s : List ℕ) (n g v : ℕ) (name : n ≡ run is_token s) (gap : g ≡ run is_blank (drop n s)) (w : Ended 0 (drop (n + g + 1) s) v) where
  parts_here : 0 < n → starts 58 (drop (n + g) s) ≡ true → FieldHere s (record { name = n; gap = g; value = v })
  parts_here z q =
      let k : drop (n + g) s ≡ 58 ∷ (w.value ++ 13 ∷ 10 ∷ w.after) =
      byte_start 58 (drop (n + g) s) q ∙ ap (λ (x : List ℕ). 58 ∷ x) (drop-drop 1 (n + g) s ∙ w.here) in
      let ln : length (take n s) ≡ n = length-take-le n s (rw name (run_le is_token s)) in
      let lg : length (take g (drop n s)) ≡ g = length-take-le g (drop n s) (rw gap (run_le is_blank (drop n s))) in
      let value : take v (drop (n + g + 1) s) ≡ w.value = ap (take v) w.here ∙ take_at w.value _ v (sym w.long) in
      let after : drop (n + g + 1 + v + 2) s ≡ w.after =
      sym (drop-drop 2 (n + g + 1 + v) s) ∙ ap (drop 2) (sym (drop-drop v (n + g + 1) s) ∙ ap (drop v) w.here ∙ drop_at w.value _ v (sym w.long)) in
      let d : Field = record { name = take n s; gap = take g (drop n s); value = w.value } in
      record {
        shaped =
            record {
              name_long = rw ln z;
              name_token = rw name (run_all is_token s);
              gap_blank = rw gap (run_all is_blank (drop n s));
              value_ends = rw value w.alone;
            };
        sizes = rw (ln, lg, value, w.long);
        here = rw (value, after, whole d w.after, ← k, ← drop-drop g n s, take-append-drop g (drop n s), take-append-drop n s);
        no_blank_after = rw after w.no_blank;
      }

pub field_here : (s : List ℕ) (f : Shape) → shape s ≡ some f → FieldHere s f
unfolding shape
field_here s f e = go (eqb n 0) (starts 58 (drop (n + g) s)) (value_size 0 (drop (n + g + 1) s)) refl refl refl e
  where
    n : ℕ
    n = run is_token s

    g : ℕ
    g = run is_blank (drop n s)

    go : (z c : Bool) (o : Option ℕ) → eqb n 0 ≡ z → starts 58 (drop (n + g) s) ≡ c → value_size 0 (drop (n + g + 1) s) ≡ o
        → cond (not z && c) (shape_of n g o) none ≡ some f → FieldHere s f
    go true c o p q r e = not_none e
    go false false o p q r e = not_none e
    go false true none p q r e = not_none e
    go false true (some v) p q r e =
        let k : f ≡ record { name = n; gap = g; value = v } = cc in
        let z : n ≡ 0 → ⊥ = eqb-false n 0 p in
        rw k (parts_here s n g v refl refl (value_ends 0 (drop (n + g + 1) s) v r) (omega arith) q)

module _ (s : List ℕ) (f : Shape) (e : shape s ≡ some f) where
  pub field_bytes : take (size f) s ≡ bytes (field_of f s)
  field_bytes =
      let w = field_here s f e in
      ap (take (size f)) (sym w.here) ∙ take_at (bytes (field_of f s)) (drop (size f) s) (size f) (length_bytes (field_of f s) ∙ ap size (sym w.sizes))

  -- reading a field depends only on its own bytes and on the next byte being no blank
  pub field_alone : (t : List ℕ) → starts_blank t ≡ false → shape (take (size f) s ++ t) ≡ some f
  field_alone t h = let w = field_here s f e in rw field_bytes (shape_bytes (field_of f s) t w.shaped h ∙ ap some (sym w.sizes))
