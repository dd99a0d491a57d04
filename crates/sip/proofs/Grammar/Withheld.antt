-- An accepted message is withheld by a Privacy that it keeps: the first, which is the only one.
use mathlib.Core.Path.{◌≡◌, refl}
use mathlib.Core.Bool.{Bool, true, false, cond}
use mathlib.Core.List.{List, [], ◌∷◌}
use mathlib.Core.Option.{Option, none, some}
use Prim.Native.Nat.{ℕ, ◌+◌, ◌≤◌}
use native.Mathlib.Omega.{arith}
use lib.Dec.{eqb}
use borrow.Author.Tests.{eqb-true}
use Rattle.sip.specs.declared.Column.{Column}
use Rattle.sip.specs.Lines.{Field, canonical}
use Rattle.sip.specs.Profile.{number_of, once, find, rows, ignored}
use Rattle.sip.specs.Values.{restricts}
use Rattle.sip.specs.Refusals.{Entry, kept, value_of, withheld, message_column, kept_of, judgement}
use Rattle.sip.specs.Grammar.{HoldsAny, here, later}
use Rattle.sip.specs.GrammarPromises.{Withholding, WithheldRead}
use Rattle.sip.proofs.Tests.{never}
use Rattle.sip.proofs.Once.{times, at_most_once}
use Rattle.sip.proofs.Accepted.{Accepted, judged_inv}
use Rattle.sip.proofs.Grammar.Tokens.{restricts_complete, restricts_sound}

abbrev Restricted : Option (List ℕ) → Type 0
Restricted none = ⊥
Restricted (some v) = restricts v ≡ true

withheld_so : (es : List Entry) → withheld es ≡ true → Restricted (value_of 16 es)
unfolding withheld
withheld_so es e = go (value_of 16 es) refl
  where
    go : (o : Option (List ℕ)) → value_of 16 es ≡ o → Restricted o
    go none p = let z : false ≡ true = rw p at e in never (cc)
    go (some v) p = rw p at e

so_withheld : (es : List Entry) → Restricted (value_of 16 es) → withheld es ≡ true
unfolding withheld
so_withheld es h = go (value_of 16 es) refl
  where
    go : (o : Option (List ℕ)) → value_of 16 es ≡ o → withheld es ≡ true
    go none p = absurd (rw p at h)
    go (some v) p = let k : restricts v ≡ true = rw p at h in rw p k

module _ (c : Option Column) where
  -- such a field is kept
  counted : (fs : List Field) → HoldsAny (Withholding c) fs → 1 ≤ times 16 (kept c fs)
  unfolding times kept
  counted [] x' = elim x' [ ]
  counted (f ∷ fs) (here w) = rw (w.a_privacy, w.not_ignored) (omega arith)
  counted (f ∷ fs) (later h) = go (ignored c (number_of f.name)) (counted fs h)
    where
      go : (t : Bool) → 1 ≤ times 16 (kept c fs)
          → 1 ≤ times 16 (cond t (kept c fs) (record { number = number_of f.name; value = canonical f.value } ∷ kept c fs))
      go true l = l
      go false l = omega arith

  taken : (fs : List Field) → times 16 (kept c fs) ≤ 1 → HoldsAny (Withholding c) fs → Restricted (value_of 16 (kept c fs))
  unfolding times kept value_of
  taken [] l x' = elim x' [ ]
  taken (f ∷ fs) l (here w) = rw (w.a_privacy, w.not_ignored) (restricts_complete w.derived w.restricting)
  taken (f ∷ fs) l (later h) = go (ignored c (number_of f.name)) (eqb (number_of f.name) 16) refl refl (counted fs h) (λ k. taken fs k h)
    where
      go : (t u : Bool) → ignored c (number_of f.name) ≡ t → eqb (number_of f.name) 16 ≡ u → 1 ≤ times 16 (kept c fs)
          → (times 16 (kept c fs) ≤ 1 → Restricted (value_of 16 (kept c fs))) → Restricted (value_of 16 (kept c (f ∷ fs)))
      go true u p q n ih = rw p (ih (rw p at l))
      go false true p q n ih = let k : 1 + times 16 (kept c fs) ≤ 1 = rw (p, q) at l in absurd (omega arith)
      go false false p q n ih = let k : 0 + times 16 (kept c fs) ≤ 1 = rw (p, q) at l in rw (p, q) (ih (omega arith))

  -- a kept Privacy that restricts is such a field
  found : (fs : List Field) → Restricted (value_of 16 (kept c fs)) → HoldsAny (Withholding c) fs
  unfolding value_of kept
  found [] h = absurd h
  found (f ∷ fs) h = go (ignored c (number_of f.name)) (eqb (number_of f.name) 16) refl refl (found fs)
    where
      first : number_of f.name ≡ 16 → ignored c (number_of f.name) ≡ false → restricts (canonical f.value) ≡ true → Withholding c f
      first n i r =
          let (ts, d, s) = restricts_sound (canonical f.value) r in
          record { a_privacy = n; not_ignored = rw n at i; priv_values = ts; derived = d; restricting = s }

      go : (t u : Bool) → ignored c (number_of f.name) ≡ t → eqb (number_of f.name) 16 ≡ u
          → (Restricted (value_of 16 (kept c fs)) → HoldsAny (Withholding c) fs) → HoldsAny (Withholding c) (f ∷ fs)
      go true u p q ih = later (ih (rw p at h))
      go false true p q ih = here (first (eqb-true (number_of f.name) 16 q) p (rw (p, q) at h))
      go false false p q ih = later (ih (rw (p, q) at h))

-- also where the message is refused
pub withheld_found : (c : Option Column) (fs : List Field) → withheld (kept c fs) ≡ true → HoldsAny (Withholding c) fs
withheld_found c fs w = found c fs (withheld_so (kept c fs) w)

pub withheld_read : WithheldRead
unfolding judgement once find rows
withheld_read m l h r e a =
    let c : Option Column = message_column l h.fields in
    let es : List Entry = kept_of l h.fields in
    let i : Accepted l es h.rest r = judged_inv l es h.rest r (rw e at a) in
    rw i.made (
      (λ w. withheld_found c h.fields w),
      (λ w. so_withheld es (taken c h.fields (at_most_once 16 refl es i.unrepeated) w)),
    )
