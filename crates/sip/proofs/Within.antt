-- The value of a field lies within the field's bytes, so what is read of a message by number and place lies within the message.
use mathlib.Core.Path.{◌≡◌, refl}
use mathlib.Core.Bool.{Bool, true, false, cond}
use mathlib.Core.List.{List, [], ◌∷◌}
use Prim.Native.Nat.{ℕ, zero, suc, ◌+◌, ◌≤◌}
use native.Mathlib.Omega.{arith}
use lib.Dec.{eqb}
use lib.ListN.{length, drop, length-append, length-drop}
use Rattle.octets.specs.Classes.{is_gap}
use Rattle.octets.specs.Scans.{run}
use Rattle.octets.proofs.Runs.{run_le}
use Rattle.sip.specs.Lines.{start_size, Field, bytes, trim}
use Rattle.sip.specs.Profile.{number_of}
use Rattle.sip.specs.Values.{is_empty}
use Rattle.sip.specs.Refusals.{Lines, unread, read, lines}
use Rattle.sip.specs.Readings.{no_span, value_span, value_spans, spans, place, reading_at}
use Rattle.sip.specs.Change.{header_bytes}
use Rattle.sip.proofs.Lengths.{trim_end_le}
use Rattle.sip.proofs.Fields.{length_bytes}
use Rattle.sip.proofs.Sizes.{read_inv}

trim_le : (v : List ℕ) → run is_gap v + length (trim is_gap v) ≤ length v
unfolding trim
trim_le v = omega (arith, trim_end_le is_gap (drop (run is_gap v) v), length-drop (run is_gap v) v, run_le is_gap v)

-- a field that starts at place at
pub span_within : (at : ℕ) (f : Field) → (value_span at f).start + (value_span at f).len ≤ at + length (bytes f)
unfolding value_span
span_within at f = go (is_empty (trim is_gap f.value))
  where
    go : (t : Bool)
        → let p = cond t no_span (record { start = at + length f.name + length f.gap + 1 + run is_gap f.value; len = length (trim is_gap f.value) }) in
        p.start + p.len ≤ at + length (bytes f)
    go true = omega arith
    go false = omega (arith, trim_le f.value, length_bytes f)

-- fields and a rest, the first field being at place at of a text of n bytes
spans_within : (n at number k : ℕ) (fs : List Field) (rest : List ℕ) → at + length (header_bytes fs rest) ≤ n
    → (place k (value_spans number at fs)).start + (place k (value_spans number at fs)).len ≤ n
unfolding value_spans place
spans_within n at number k [] rest h = omega arith
spans_within n at number k (f ∷ fs) rest h = go (eqb (number_of f.name) number) k (λ j. spans_within n (at + length (bytes f)) number j fs rest fits)
  where
    fits : at + length (bytes f) + length (header_bytes fs rest) ≤ n
    fits = omega (arith, length-append (bytes f) (header_bytes fs rest))

    go : (t : Bool) (k : ℕ)
        → ((j : ℕ) → (place j (value_spans number (at + length (bytes f)) fs)).start + (place j (value_spans number (at + length (bytes f)) fs)).len ≤ n)
        → let ps = cond t (value_span at f ∷ value_spans number (at + length (bytes f)) fs) (value_spans number (at + length (bytes f)) fs) in
        (place k ps).start + (place k ps).len ≤ n
    go false k others = others k
    go true zero others = omega arith
    go true (suc zero) others = omega (arith, span_within at f, fits)
    go true (suc (suc k)) others = others (suc k)

pub reading_within : (m : List ℕ) (n k : ℕ) → (reading_at m n k).start + (reading_at m n k).len ≤ length m
unfolding reading_at spans place
reading_within m n k = go (lines m) refl
  where
    go : (x : Lines) → lines m ≡ x → (reading_at m n k).start + (reading_at m n k).len ≤ length m
    go (unread r) e = rw e (omega arith)
    go (read l h) e = rw e (listed (eqb n 0))
      where
        listed : (t : Bool)
            → let ps = cond t [] (value_spans n (start_size l) h.fields) in
            (place k ps).start + (place k ps).len ≤ length m
        listed true = omega arith
        listed false = spans_within (length m) (start_size l) n k h.fields h.rest (read_inv m l h e).fits
