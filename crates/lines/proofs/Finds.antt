-- A look through the fields for a name, by the field that stands at a place; and that it goes through the fields of a message that is read, by the
-- recursion of `header`.
use mathlib.Core.Path.{◌≡◌, refl, sym, ap, ◌∙◌}
use mathlib.Core.Bool.{Bool, true, false, ◌||◌}
use mathlib.Core.List.{List, [], ◌∷◌}
use mathlib.Core.Option.{Option, none, some}
use Prim.Native.Nat.{ℕ, zero, suc, ◌+◌, ◌-◌, ◌^◌, ◌≤◌, ◌<◌}
use native.Mathlib.Omega.{arith}
use lib.ListN.{length, take, drop, drop_of_length-le}
use lib.Seq.{drop-drop}
use Rattle.octets.specs.Classes.{is_value}
use Rattle.octets.specs.Scans.{run, same_text}
use Rattle.sip.specs.Lines.{start_size, starts_crlf, Shape, shape, size, Field, field_of, Header, with_field, header}
use Rattle.sip.specs.Readings.{named, has_field}
use Rattle.sip.proofs.ValueSizes.{not_none}
use Rattle.sip.proofs.Change.{lines_inv}
use Rattle.lines.specs.Places.{field_at}
use Rattle.lines.specs.Finds.{named_from, field_named, FieldNamedRead}
use Rattle.lines.specs.declared.FieldAt.{FieldAt}
use Rattle.std.specs.Prelude.{Option as Answer, Some}
use Rattle.lines.proofs.Values.{never}
use Rattle.lines.proofs.Fields.{Bad, FieldRead, field_bad, field_read, field_fits}
use Rattle.lines.proofs.Headers.{field_line}
use Rattle.lines.proofs.FirstLines.{first_line}

-- ---- the fields at the front

module _ (name : List ℕ) where
  named_nil : named_from 0 name [] ≡ false
  unfolding named_from
  named_nil = refl

  -- what was looked at before does not count
  named_pass : (k : ℕ) (s : List ℕ) → named_from k name s ≡ named_from 0 name (drop k s)
  unfolding named_from
  named_pass zero s = refl
  named_pass (suc k) [] = refl
  named_pass (suc k) (b ∷ s) = named_pass k s

  named_bad : (s : List ℕ) → shape s ≡ none → named_from 0 name s ≡ false
  unfolding named_from
  named_bad [] q = refl
  named_bad (b ∷ s) q = rw (q, named_from)

  named_next : (s : List ℕ) (f : Shape) → shape s ≡ some f
      → named_from 0 name s ≡ (same_text name (take f.name s) || named_from 0 name (drop (size f) s))
  unfolding named_from shape run
  named_next [] f q = not_none q
  named_next (b ∷ s) f q =
      let k : suc (size f - 1) ≡ size f = omega arith in
      let after : drop (size f - 1) s ≡ drop (size f) (b ∷ s) = ap (λ (n : ℕ). drop n (b ∷ s)) k in
      rw (q, named_from, named_pass (size f - 1) s, after)

-- ---- the loop: from place first on the same is found as from place at on

module _ (s name : List ℕ) (first at : ℕ) (e : named_from 0 name (drop first s) ≡ named_from 0 name (drop at s)) where
  pub over : length s ≤ at → false ≡ named_from 0 name (drop first s)
  over l = sym (e ∙ rw (drop_of_length-le s l) (named_nil name))

  module _ {r : Answer FieldAt} (hr : r ≡ field_at s at) where
    pub no_field : r ≡ Bad → false ≡ named_from 0 name (drop first s)
    no_field q = sym (e ∙ named_bad name (drop at s) (field_bad s at hr q))

    module _ {f : FieldAt} (q : r ≡ Some f) where
      abbrev x : ℕ
      x = f.name

      abbrev n : ℕ
      n = f.end

      fits : (at < x) × (x < f.value) × (f.value ≤ n) × (n + 2 ≤ length s)
      fits = field_fits s at hr q

      pub name_after : at ≤ x
      name_after = omega (arith, fits)

      pub name_within : x ≤ length s
      name_within = omega (arith, fits)

      pub next_small : length s < 2 ^ 64 → {k : ℕ} → k ≡ n + 2 → k < 2 ^ 64
      next_small l z = omega (arith, fits)

      pub next_less : {k : ℕ} → k ≡ n + 2 → length s - k < length s - at
      next_less z = omega (arith, fits)

      module _ {b : Bool} (hb : b ≡ same_text name (take (x - at) (drop at s))) where
        by_name : named_from 0 name (drop first s) ≡ (b || named_from 0 name (drop (n + 2) s))
        by_name =
            let g : FieldRead s at x f.value n f.folded = field_read s at hr q in
            let y : x - at ≡ g.parts.name = omega (arith, g) in
            let z : at + size g.parts ≡ n + 2 = omega (arith, g) in
            e ∙ named_next name (drop at s) g.parts g.reads ∙ rw (hb, y, drop-drop (size g.parts) at s, z)

        pub hit : b ≡ true → true ≡ named_from 0 name (drop first s)
        hit y = sym (by_name ∙ rw y)

        pub next : b ≡ false → {k : ℕ} → k ≡ n + 2 → named_from 0 name (drop first s) ≡ named_from 0 name (drop k s)
        next y z = rw z (by_name ∙ rw y)

pub after_first : (m name : List ℕ) {n : ℕ} → n ≡ 0 + run is_value (drop 0 m) → {r : Bool} → r ≡ named_from 0 name (drop (n + 2) m) → r ≡ field_named m name
unfolding field_named
after_first m name {n} e q = let z : n ≡ run is_value m = omega arith in q ∙ rw z

-- ---- a message that is read

with_named :
    (name : List ℕ) (d : Field) (t : Bool) (o : Option Header) → ((r : Header) → o ≡ some r → t ≡ named name r.fields)
    → (h : Header) → with_field d o ≡ some h → (same_text name d.name || t) ≡ named name h.fields
unfolding named
with_named name d t none f h e = not_none e
with_named name d t (some r) f h e = let z : h ≡ record { fields = d ∷ r.fields; rest = r.rest } = cc in rw (z, f r refl)

header_named : (name : List ℕ) (k : ℕ) (s : List ℕ) (h : Header) → header k s ≡ some h → named_from k name s ≡ named name h.fields
unfolding header named_from named
header_named name zero [] h e = not_none e
header_named name (suc k) [] h e = not_none e
header_named name (suc k) (b ∷ s) h e = header_named name k s h e
header_named name zero (b ∷ s) h e = go (starts_crlf (b ∷ s)) (shape (b ∷ s)) refl refl (λ k. header_named name k s)
  where
    go : (t : Bool) (o : Option Shape) → starts_crlf (b ∷ s) ≡ t → shape (b ∷ s) ≡ o
        → ((k : ℕ) (r : Header) → header k s ≡ some r → named_from k name s ≡ named name r.fields)
        → named_from 0 name (b ∷ s) ≡ named name h.fields
    go true none p q ih =
        let i : some (record { fields = []; rest = drop 2 (b ∷ s) }) ≡ some h = rw p at e in
        let w : h ≡ record { fields = []; rest = drop 2 (b ∷ s) } = cc in
        rw (q, named_from, w)
    go true (some f) p q ih = never (sym (field_line (b ∷ s) f q) ∙ p)
    go false none p q ih = not_none (rw (p, q) at e)
    go false (some f) p q ih =
        rw (q, named_from) (with_named name (field_of f (b ∷ s)) (named_from (size f - 1) name s) (header (size f - 1) s) (ih (size f - 1)) h (rw (p, q) at e))

pub field_named_read : FieldNamedRead
unfolding field_named has_field
field_named_read m name l h e =
    let r = lines_inv m l h e in
    rw (e, ← first_line m l r.has_start) (header_named name 0 (drop (start_size l) m) h r.has_header)
