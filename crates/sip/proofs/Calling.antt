-- The calling number stands as a part in the message or the trunk number: `calling_part` is `calling_number`.
use mathlib.Core.Path.{◌≡◌, refl, sym, ap, ◌∙◌}
use mathlib.Core.Bool.{Bool, true, false, cond}
use mathlib.Core.List.{List, [], ◌∷◌, ◌++◌, map}
use mathlib.Core.Option.{Option, none, some}
use Prim.Native.Nat.{ℕ, zero, suc, ◌+◌, ◌≤◌, ◌<◌}
use native.Mathlib.Omega.{arith}
use lib.Dec.{eqb}
use lib.ListN.{length, take, drop, length-take, length-drop}
use lib.Seq.{length-take-le, take-length, take-take, drop-drop}
use borrow.Author.Tests.{eqb-true, ne_eqb}
use Rattle.octets.specs.Classes.{is_gap}
use Rattle.octets.specs.Scans.{any}
use Rattle.sip.specs.declared.Column.{Column}
use Rattle.sip.specs.declared.Span.{Span}
use Rattle.sip.specs.declared.IdentityAt.{IdentityAt}
use Rattle.sip.specs.declared.CallerAt.{CallerAt}
use Rattle.sip.specs.Lines.{Start, start_size, Header, Field, bytes, folded, canonical, unfolded_at}
use Rattle.sip.specs.Profile.{number_of, ignored}
use Rattle.sip.specs.Values.{number_in, is_global}
use Rattle.sip.specs.Refusals.{Lines, lines, unread, read, refusal, kept}
use Rattle.sip.specs.Refusals.{Passed, Judgement, refused, accepted, judged, message_column, kept_of, judgement}
use Rattle.sip.specs.Readings.{part, value_span, value_spans, spans, place, reading_at, Asserted, asserted, sip_or, preferred, caller_in}
use Rattle.sip.specs.Readings.{caller_at, placed_in, calling_number, calling_at, calling_part}
use Rattle.sip.specs.Change.{header_bytes}
use Rattle.sip.specs.Promises.{CallingPart}
use Rattle.sip.proofs.Tests.{never}
use Rattle.sip.proofs.Canonical.{canonical_core}
use Rattle.sip.proofs.Unfolded.{unfolded_le, unfolded_part}
use Rattle.sip.proofs.Accepted.{judged_inv}
use Rattle.sip.proofs.Firsts.{none_asserted}
use Rattle.sip.proofs.Identities.{Stands, plain, AllStand, none_stands, also_stands, identities_stand}
use Rattle.sip.proofs.Spans.{value_part, next_here, read_parts}

-- ---- an identity where it stands

-- a part of a part
part_part : (u n k : ℕ) (s : List ℕ) → u + n ≤ k → take n (drop u (take k s)) ≡ take n (drop u s)
part_part zero n k s h = take-take n k s (omega arith)
part_part (suc u) n zero s h = absurd (omega arith)
part_part (suc u) n (suc k) [] h = refl
part_part (suc u) n (suc k) (b ∷ s) h = part_part u n k s (omega arith)

-- an identity of a value v, and the part of the message that folds to the value
module _ (m : List ℕ) (p : Span) (v : List ℕ) (i : IdentityAt) (e : Stands v i) (q : v ≡ folded 0 (part p m)) (c : CallerAt) (hs : c.start ≡ i.start)
    (hl : c.len ≡ i.len) where
  abbrev raw : List ℕ
  raw = part p m

  abbrev from : ℕ
  from = i.start

  abbrev size : ℕ
  size = i.len

  found : take size (drop (unfolded_at from 0 raw) raw) ≡ number_in v i
  found =
      unfolded_part raw from size (ap (λ (x : List ℕ). any is_gap (take size (drop from x))) (sym q) ∙ plain e)
      ∙ ap (λ (x : List ℕ). take size (drop from x)) (sym q)

  fits : unfolded_at from 0 raw + size ≤ p.len
  fits =
      let u : ℕ = unfolded_at from 0 raw in
      let taken : length (take size (drop u raw)) ≡ length (number_in v i) = ap length found in
      let there : length (number_in v i) ≡ size = length-take-le size (drop from v) (omega (arith, e.within_bytes, length-drop from v)) in
      omega (arith, length-take size (drop u raw), length-drop u raw, unfolded_le from raw, length-take p.len (drop p.start m))

  placed_within : (placed_in m p c).start + (placed_in m p c).len ≤ p.start + p.len
  unfolding placed_in
  placed_within = rw (hs, hl) (omega (arith, fits))

  placed_part : take (placed_in m p c).len (drop (placed_in m p c).start m) ≡ number_in v i
  unfolding placed_in
  placed_part =
      let u : ℕ = unfolded_at from 0 raw in
      rw (hs, hl, ← drop-drop u p.start m, ← part_part u size p.len (drop p.start m) fits) found

-- ---- the identities of a message

-- an asserted identity stands where its field is read
pub record Placed (m : List ℕ) (a : Asserted) : Type 0 where
  pub some_field : 0 < a.field
  pub value_read : a.value ≡ folded 0 (part (reading_at m 15 a.field) m)
  pub stands : Stands a.value a.identity

data AllPlaced (m : List ℕ) : List Asserted → Type 0 where
  none_placed : AllPlaced m []
  also_placed : {a : Asserted} {others : List Asserted} → Placed m a → AllPlaced m others → AllPlaced m (a ∷ others)

-- those of one field, and those after it
field_placed : (m : List ℕ) (k : ℕ) (v : List ℕ) → v ≡ folded 0 (part (reading_at m 15 (suc k)) m) → {is : List IdentityAt} → AllStand v is
    → {others : List Asserted} → AllPlaced m others
    → AllPlaced m (map (λ (i : IdentityAt). record { field = suc k; value = v; identity = i }) is ++ others)
field_placed m k v e none_stands s = s
field_placed m k v e (also_stands {i = i} h hs) s =
    let here : Placed m (record { field = suc k; value = v; identity = i }) = record { some_field = omega arith; value_read = e; stands = h } in
    also_placed here (field_placed m k v e hs s)

module _ (m rest : List ℕ) (c : Option Column) where
  fields_placed : ignored c 15 ≡ false → (k at : ℕ) (fs : List Field) → drop at m ≡ header_bytes fs rest
      → ((j : ℕ) → place (suc j) (value_spans 15 at fs) ≡ reading_at m 15 (suc (k + j))) → AllPlaced m (asserted k (kept c fs))
  unfolding kept asserted value_spans place
  fields_placed i k at [] here r = none_placed
  fields_placed i k at (f ∷ fs) here r =
      go (ignored c (number_of f.name)) (eqb (number_of f.name) 15) refl refl
      (λ k. fields_placed i k (at + length (bytes f)) fs (next_here m at f (header_bytes fs rest) here))
    where
      next : ℕ
      next = at + length (bytes f)

      go : (t u : Bool) → ignored c (number_of f.name) ≡ t → eqb (number_of f.name) 15 ≡ u
          → ((k : ℕ) → ((j : ℕ) → place (suc j) (value_spans 15 (at + length (bytes f)) fs) ≡ reading_at m 15 (suc (k + j)))
          → AllPlaced m (asserted k (kept c fs)))
          → AllPlaced m (asserted k (kept c (f ∷ fs)))
      go true true p q others = let z : ignored c 15 ≡ true = rw (eqb-true (number_of f.name) 15 q) at p in never (cc)
      go true false p q others = rw p (others k (λ j. rw q at (r j)))
      go false false p q others = rw (p, q) (others k (λ j. rw q at (r j)))
      go false true p q others =
          let first : value_span at f ≡ reading_at m 15 (suc (k + 0)) = rw q at (r 0) in
          let z : k + 0 ≡ k = omega arith in
          let read_here : canonical f.value ≡ folded 0 (part (reading_at m 15 (suc k)) m)
          = canonical_core f.value ∙ ap (folded 0) (sym (value_part m at f (header_bytes fs rest) here))
          ∙ ap (λ (s : Span). folded 0 (part s m)) (rw z at first) in
          let later : (j : ℕ) → place (suc j) (value_spans 15 next fs) ≡ reading_at m 15 (suc (suc k + j))
          = λ j. let y : k + suc j ≡ suc k + j = omega arith in rw (q, y) at (r (suc j)) in
          rw (p, q)
          (field_placed m k (canonical f.value) read_here (identities_stand (canonical f.value)) (others (suc k) later))

-- of a message that reads
all_placed : (m : List ℕ) (l : Start) (h : Header) → lines m ≡ read l h → AllPlaced m (asserted 0 (kept_of l h.fields))
unfolding reading_at spans
all_placed m l h e = go (ignored (message_column l h.fields) 15) refl
  where
    go : (t : Bool) → ignored (message_column l h.fields) 15 ≡ t → AllPlaced m (asserted 0 (kept_of l h.fields))
    go true i = rw (none_asserted (message_column l h.fields) i 0 h.fields) none_placed
    go false i =
        fields_placed m h.rest (message_column l h.fields) i 0 (start_size l) h.fields (read_parts m l h e).header_part
        (λ j. let z : 0 + j ≡ j = omega arith in rw (e, z))

-- ---- the one that the number is taken from is one of them

sip_placed : (m : List ℕ) (a : Asserted) {others : List Asserted} → Placed m a → AllPlaced m others → Placed m (sip_or a others)
unfolding sip_or
sip_placed m a s none_placed = s
sip_placed m a s (also_placed {a = b} {others = os} h hs) = go b.identity.tel (sip_placed m a s hs)
  where
    go : (t : Bool) → Placed m (sip_or a os) → Placed m (cond t (sip_or a os) b)
    go true later = later
    go false later = h

preferred_placed : (m : List ℕ) {all : List Asserted} → AllPlaced m all → (a : Asserted) → preferred all ≡ some a → Placed m a
preferred_placed m none_placed a e = never (cc)
preferred_placed m (also_placed {a = b} {others = os} h hs) a e =
    let z : sip_or b (b ∷ os) ≡ a = cc in
    rw z at (sip_placed m b h (also_placed h hs))

-- ---- the calling number

pub caller_placed : (m : List ℕ) (r : Passed) → judgement m ≡ accepted r → (a : Asserted) → caller_in r.fields ≡ some a → Placed m a
unfolding judgement caller_in
caller_placed m r e a q = go (lines m) refl
  where
    go : (x : Lines) → lines m ≡ x → Placed m a
    go (unread n) p = let z : refused (refusal n 0 0 0) ≡ accepted r = rw p at e in never (cc)
    go (read l h) p =
        let j : judged l (kept_of l h.fields) h.rest ≡ accepted r = rw p at e in
        let s : preferred (asserted 0 (kept_of l h.fields)) ≡ some a = rw (judged_inv l (kept_of l h.fields) h.rest r j).made at q in
        preferred_placed m (all_placed m l h p) a s

module _ (m : List ℕ) (a : Asserted) (s : Placed m a) where
  abbrev at : Span
  at = reading_at m 15 a.field

  pub caller_within : (placed_in m at (caller_at (some a))).start + (placed_in m at (caller_at (some a))).len ≤ at.start + at.len
  caller_within = placed_within m at a.value a.identity s.stands s.value_read (caller_at (some a)) refl refl

  caller_part : take (placed_in m at (caller_at (some a))).len (drop (placed_in m at (caller_at (some a))).start m) ≡ number_in a.value a.identity
  caller_part = placed_part m at a.value a.identity s.stands s.value_read (caller_at (some a)) refl refl

pub calling_part_lem : CallingPart
unfolding calling_part calling_at calling_number placed_in
calling_part_lem m trunk = go (is_global trunk) refl
  where
    by_caller : (r : Passed) → judgement m ≡ accepted r → (o : Option Asserted) → caller_in r.fields ≡ o → is_global trunk ≡ true
        → calling_part m trunk ≡ calling_number m trunk
    by_caller r j none q g = rw (g, j, q) (take-length trunk)
    by_caller r j (some a) q g =
        let s = caller_placed m r j a q in
        rw (g, j, q, ne_eqb a.field 0 (λ z. omega (arith, s.some_field))) (caller_part m a s)

    judge : (j : Judgement) → judgement m ≡ j → is_global trunk ≡ true → calling_part m trunk ≡ calling_number m trunk
    judge (refused a) e g = rw (g, e)
    judge (accepted r) e g = by_caller r e (caller_in r.fields) refl g

    go : (t : Bool) → is_global trunk ≡ t → calling_part m trunk ≡ calling_number m trunk
    go true g = judge (judgement m) refl g
    go false g = rw g
