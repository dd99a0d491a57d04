-- Reading the bytes of well-shaped fields gives them back, and every header that is read is of such fields.
use mathlib.Core.Path.{◌≡◌, refl, ap, ◌∙◌}
use mathlib.Core.Bool.{Bool, true, false}
use mathlib.Core.List.{List, [], ◌∷◌, ◌++◌}
use mathlib.Core.Option.{Option, none, some}
use Prim.Native.Nat.{ℕ, zero, suc, ◌-◌}
use native.Mathlib.Omega.{arith}
use lib.ListN.{drop}
use Rattle.octets.specs.Classes.{is_blank}
use Rattle.octets.specs.Scans.{run}
use Rattle.sip.specs.Lines.{starts_crlf, starts_blank, Shape, shape, size, Field, bytes, field_of, Header, with_field, header}
use Rattle.sip.specs.Change.{WellShaped, AllShaped, none_left, one_more, header_bytes}
use Rattle.sip.proofs.ValueSizes.{not_none, crlf_start}
use Rattle.sip.proofs.Fields.{lengths, rest_back, field_back, no_crlf, no_blank, shape_bytes, FieldHere, field_here}

-- what stands before a field does not change how it is read
pub header_pass : (k : ℕ) (s : List ℕ) → header k s ≡ header 0 (drop k s)
unfolding header
header_pass zero s = refl
header_pass (suc k) [] = refl
header_pass (suc k) (b ∷ s) = header_pass k s

-- the bytes after a field, from its second byte on
after_field : (f : Shape) (b : ℕ) (s : List ℕ) → drop (size f - 1) s ≡ drop (size f) (b ∷ s)
after_field f b s = let k : suc (size f - 1) ≡ size f = omega arith in ap (λ (n : ℕ). drop n (b ∷ s)) k

pub header_next :
    (s : List ℕ) (f : Shape) → starts_crlf s ≡ false → shape s ≡ some f
    → header 0 s ≡ with_field (field_of f s) (header 0 (drop (size f) s))
unfolding header shape run
header_next [] f e q = not_none q
header_next (b ∷ s) f e q = rw (e, q, header_pass (size f - 1) s, after_field f b s)

-- ---- from the fields to what is read

-- a whole field in front of anything that does not start with a blank
pub field_next : (d : Field) (t : List ℕ) → WellShaped d → starts_blank t ≡ false → header 0 (bytes d ++ t) ≡ with_field d (header 0 t)
field_next d t w h =
    let n = header_next (bytes d ++ t) (lengths d) (no_crlf d t w) (shape_bytes d t w h) in
    n ∙ rw (rest_back d t, field_back d t)

-- a header starts with no blank
header_no_blank : (fs : List Field) (rest : List ℕ) → AllShaped fs → starts_blank (header_bytes fs rest) ≡ false
unfolding starts_blank is_blank
header_no_blank fs rest none_left = refl
header_no_blank fs rest (one_more {f = f} {fs = gs} w h) = no_blank f (header_bytes gs rest) w

pub header_bytes_lem : (fs : List Field) (rest : List ℕ) → AllShaped fs → header 0 (header_bytes fs rest) ≡ some (record { fields = fs; rest = rest })
unfolding header starts_crlf
header_bytes_lem fs rest none_left = refl
header_bytes_lem fs rest (one_more {f = f} {fs = gs} w h) =
    field_next f (header_bytes gs rest) w (header_no_blank gs rest h) ∙ ap (with_field f) (header_bytes_lem gs rest h)

-- ---- from what is read to the fields

with_field_lem : (d : Field) (o : Option Header) (h : Header) → with_field d o ≡ some h
    → (r : Header) × (o ≡ some r) × (h ≡ record { fields = d ∷ r.fields; rest = r.rest })
with_field_lem d none h e = not_none e
with_field_lem d (some r) h e = (r, refl, cc)

pub record HeaderHere (s : List ℕ) (h : Header) : Type 0 where
  pub shaped : AllShaped h.fields
  pub here : header_bytes h.fields h.rest ≡ s

-- a field in front of a header
header_cons :
    (s : List ℕ) (f : Shape) (r : Header) → FieldHere s f → HeaderHere (drop (size f) s) r
    → HeaderHere s (record { fields = field_of f s ∷ r.fields; rest = r.rest })
header_cons s f r v a = record { shaped = one_more v.shaped a.shaped; here = rw a.here v.here }

pub header_here : (k : ℕ) (s : List ℕ) (h : Header) → header k s ≡ some h → HeaderHere (drop k s) h
unfolding header
header_here zero [] h e = not_none e
header_here (suc k) [] h e = not_none e
header_here (suc k) (b ∷ s) h e = header_here k s h e
header_here zero (b ∷ s) h e = go (starts_crlf (b ∷ s)) (shape (b ∷ s)) refl refl (λ k. header_here k s)
  where
    go : (t : Bool) (o : Option Shape) → starts_crlf (b ∷ s) ≡ t → shape (b ∷ s) ≡ o
        → ((k : ℕ) (r : Header) → header k s ≡ some r → HeaderHere (drop k s) r) → HeaderHere (b ∷ s) h
    go true o p q ih =
        let i : some (record { fields = []; rest = drop 2 (b ∷ s) }) ≡ some h = rw p at e in
        let w : h ≡ record { fields = []; rest = drop 2 (b ∷ s) } = cc in
        rw w (record { shaped = none_left; here = crlf_start (b ∷ s) p })
    go false none p q ih = not_none (rw (p, q) at e)
    go false (some f) p q ih =
        let (r, i, w) = with_field_lem (field_of f (b ∷ s)) (header (size f - 1) s) h (rw (p, q) at e) in
        rw w (header_cons (b ∷ s) f r (field_here (b ∷ s) f q) (rw (← after_field f b s) (ih (size f - 1) r i)))
