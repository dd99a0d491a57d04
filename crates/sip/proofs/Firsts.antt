-- The first value of a number among the kept fields: none where it is ignored, else that of the first field of all, and where it is read.
use mathlib.Core.Path.{◌≡◌, refl, sym, ap, ◌∙◌}
use mathlib.Core.Bool.{Bool, true, false, cond}
use mathlib.Core.List.{List, [], ◌∷◌}
use mathlib.Core.Option.{Option, none, some}
use Prim.Native.Nat.{ℕ, ◌+◌}
use lib.Dec.{eqb}
use lib.ListN.{length, drop}
use borrow.Author.Tests.{eqb-true, ne_eqb}
use Rattle.sip.specs.declared.Column.{Column}
use Rattle.sip.specs.declared.Span.{Span}
use Rattle.sip.specs.Lines.{StatusLine, Start, response, start_size, Field, bytes, Header, folded, canonical}
use Rattle.sip.specs.Profile.{number_of, ignored}
use Rattle.sip.specs.Refusals.{read, lines, kept, value_of, first_cseq_method, response_column_of, message_column, kept_of}
use Rattle.sip.specs.Readings.{part, value_spans, spans, asserted}
use Rattle.sip.specs.Change.{header_bytes}
use Rattle.sip.proofs.Tests.{never}
use Rattle.sip.proofs.Canonical.{canonical_core}
use Rattle.sip.proofs.Change.{cseq_kept}
use Rattle.sip.proofs.Spans.{value_part, next_here, read_parts}

first_value : ℕ → List Field → Option (List ℕ)
first_value n [] = none
first_value n (f ∷ fs) = let later = first_value n fs in cond (eqb (number_of f.name) n) (some (canonical f.value)) later

module _ (c : Option Column) (n : ℕ) where
  pub ignored_none : ignored c n ≡ true → (fs : List Field) → value_of n (kept c fs) ≡ none
  unfolding value_of kept
  ignored_none i [] = refl
  ignored_none i (f ∷ fs) = go (ignored c (number_of f.name)) (eqb (number_of f.name) n) refl refl (ignored_none i fs)
    where
      go : (t u : Bool) → ignored c (number_of f.name) ≡ t → eqb (number_of f.name) n ≡ u → value_of n (kept c fs) ≡ none
          → value_of n (kept c (f ∷ fs)) ≡ none
      go true u p q h = rw p h
      go false true p q h = let z : ignored c n ≡ false = rw (eqb-true (number_of f.name) n q) at p in never (cc)
      go false false p q h = rw (p, q) h

  kept_first : ignored c n ≡ false → (fs : List Field) → value_of n (kept c fs) ≡ first_value n fs
  unfolding value_of kept first_value
  kept_first i [] = refl
  kept_first i (f ∷ fs) = go (ignored c (number_of f.name)) (eqb (number_of f.name) n) refl refl (kept_first i fs)
    where
      go : (t u : Bool) → ignored c (number_of f.name) ≡ t → eqb (number_of f.name) n ≡ u → value_of n (kept c fs) ≡ first_value n fs
          → value_of n (kept c (f ∷ fs)) ≡ first_value n (f ∷ fs)
      go true true p q h = let z : ignored c n ≡ true = rw (eqb-true (number_of f.name) n q) at p in never (cc)
      go true false p q h = rw (p, q) h
      go false true p q h = rw (p, q)
      go false false p q h = rw (p, q) h

-- where P-Asserted-Identity is ignored no identity is asserted
pub none_asserted : (c : Option Column) → ignored c 15 ≡ true → (k : ℕ) (fs : List Field) → asserted k (kept c fs) ≡ []
unfolding kept asserted
none_asserted c i k [] = refl
none_asserted c i k (f ∷ fs) = go (ignored c (number_of f.name)) (eqb (number_of f.name) 15) refl refl (none_asserted c i k fs)
  where
    go : (t u : Bool) → ignored c (number_of f.name) ≡ t → eqb (number_of f.name) 15 ≡ u → asserted k (kept c fs) ≡ []
        → asserted k (kept c (f ∷ fs)) ≡ []
    go true u p q h = rw p h
    go false true p q h = let z : ignored c 15 ≡ false = rw (eqb-true (number_of f.name) 15 q) at p in never (cc)
    go false false p q h = rw (p, q) h

-- ---- the column of a response is one: by its first CSeq among all listed fields, and among those that it keeps

pub method_kept : (c : Option Column) (fs : List Field) → value_of 6 (kept c fs) ≡ value_of 6 (kept none fs)
method_kept c fs = kept_first c 6 (cseq_kept c) fs ∙ sym (kept_first none 6 (cseq_kept none) fs)

pub column_once : (l : StatusLine) (fs : List Field) → response_column_of l (kept_of (response l) fs) ≡ message_column (response l) fs
unfolding response_column_of first_cseq_method
column_once l fs = rw (method_kept (message_column (response l) fs) fs)

-- ---- where it is read

abbrev pub read_first : List ℕ → List Span → Option (List ℕ)
read_first m [] = none
read_first m (p ∷ ps) = some (folded 0 (part p m))

first_read : (m rest : List ℕ) (n at : ℕ) (fs : List Field) → drop at m ≡ header_bytes fs rest → first_value n fs ≡ read_first m (value_spans n at fs)
unfolding first_value value_spans
first_read m rest n at [] here = refl
first_read m rest n at (f ∷ fs) here =
    go (eqb (number_of f.name) n) refl (first_read m rest n (at + length (bytes f)) fs (next_here m at f (header_bytes fs rest) here))
  where
    go : (t : Bool) → eqb (number_of f.name) n ≡ t → first_value n fs ≡ read_first m (value_spans n (at + length (bytes f)) fs)
        → first_value n (f ∷ fs) ≡ read_first m (value_spans n at (f ∷ fs))
    go true q h = rw q (ap some (canonical_core f.value ∙ ap (folded 0) (sym (value_part m at f (header_bytes fs rest) here))))
    go false q h = rw q h

-- the first kept value of a listed number that is not ignored is what is read first of that number
pub value_read : (m : List ℕ) (l : Start) (h : Header) → lines m ≡ read l h → (n : ℕ) → (n ≡ 0 → ⊥) → (c : Option Column) → ignored c n ≡ false
    → value_of n (kept c h.fields) ≡ read_first m (spans m n)
unfolding spans
value_read m l h e n z c i =
    kept_first c n i h.fields
    ∙ first_read m h.rest n (start_size l) h.fields (read_parts m l h e).header_part
    ∙ rw (e, ne_eqb n 0 z)
