-- What is read of a message has together no more bytes than the message.
use mathlib.Core.Path.{◌≡◌, refl}
use mathlib.Core.Bool.{Bool, true, false, cond}
use mathlib.Core.List.{List, [], ◌∷◌}
use mathlib.Core.Option.{Option, none, some}
use Prim.Native.Nat.{ℕ, zero, suc, ◌+◌, ◌-◌, ◌≤◌}
use native.Mathlib.Omega.{arith}
use lib.ListN.{length, drop, length-append, length-take, length-drop}
use Rattle.sip.specs.Lines.{Start, start_size, starts_crlf, Shape, shape, size, Field, bytes, field_of, Header, with_field, header}
use Rattle.sip.specs.Change.{header_bytes}
use Rattle.sip.specs.Refusals.{lines, read}
use Rattle.sip.proofs.Tests.{never}
use Rattle.sip.proofs.Change.{lines_inv}

bytes_le : (f : Shape) (s : List ℕ) → length (bytes (field_of f s)) ≤ size f
bytes_le f s =
    simp length-append
    (omega (
      arith,
      length-take f.name s,
      length-take f.gap (drop f.name s),
      length-take f.value (drop (f.name + f.gap + 1) s),
    ))

crlf_le : (s : List ℕ) → starts_crlf s ≡ true → 2 + length (drop 2 s) ≤ length s
unfolding starts_crlf
crlf_le [] e = never (cc)
crlf_le (a ∷ []) e = never (cc)
crlf_le (a ∷ b ∷ s) e = omega arith

with_inv : (f : Field) (o : Option Header) (h : Header) → with_field f o ≡ some h
    → (r : Header) × (o ≡ some r) × (h ≡ record { fields = f ∷ r.fields; rest = r.rest })
with_inv f none h e = never (cc)
with_inv f (some r) h e = (r, refl, cc)

header_le : (k : ℕ) (s : List ℕ) (h : Header) → header k s ≡ some h → k + length (header_bytes h.fields h.rest) ≤ length s
unfolding header
header_le k [] h e = never (cc)
header_le (suc k) (b ∷ s) h e = omega (arith, header_le k s h e)
header_le zero (b ∷ s) h e = go (starts_crlf (b ∷ s)) (shape (b ∷ s)) refl e (λ k r. header_le k s r)
  where
    go : (t : Bool) (o : Option Shape) → starts_crlf (b ∷ s) ≡ t
        → cond t (some (record { fields = []; rest = drop 2 (b ∷ s) }))
        (elim o [ none ↦ none | some f ↦ with_field (field_of f (b ∷ s)) (header (size f - 1) s) ]) ≡ some h
        → ((k : ℕ) (r : Header) → header k s ≡ some r → k + length (header_bytes r.fields r.rest) ≤ length s)
        → 0 + length (header_bytes h.fields h.rest) ≤ suc (length s)
    go true o p e ih =
        let w : h ≡ record { fields = []; rest = drop 2 (b ∷ s) } = cc in
        rw w (omega (arith, crlf_le (b ∷ s) p))
    go false none p e ih = never (cc)
    go false (some f) p e ih =
        let g : Field = field_of f (b ∷ s) in
        let (r, q, w) = with_inv g (header (size f - 1) s) h e in
        rw (w, length-append (bytes g) (header_bytes r.fields r.rest)) (omega (arith, bytes_le f (b ∷ s), ih (size f - 1) r q))

-- what is read of the message m
pub record Read (m : List ℕ) (l : Start) (h : Header) : Type 0 where
  pub few : length h.fields ≤ 96
  pub fits : start_size l + length (header_bytes h.fields h.rest) ≤ length m

header_bytes_two : (fs : List Field) (rest : List ℕ) → 2 ≤ length (header_bytes fs rest)
header_bytes_two [] rest = omega arith
header_bytes_two (f ∷ fs) rest = omega (arith, length-append (bytes f) (header_bytes fs rest), header_bytes_two fs rest)

pub read_inv : (m : List ℕ) (l : Start) (h : Header) → lines m ≡ read l h → Read m l h
read_inv m l h e =
    let r = lines_inv m l h e in
    record {
      few = r.within_fields;
      fits = omega (arith, header_le 0 (drop (start_size l) m) h r.has_header, length-drop (start_size l) m, header_bytes_two h.fields h.rest);
    }
