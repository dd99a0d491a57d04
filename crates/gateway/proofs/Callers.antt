-- What `calling_at` gives, case by case, of what judging a message found.
use mathlib.Core.Path.{◌≡◌, refl, sym, ap, ◌∙◌}
use mathlib.Core.Bool.{true, false}
use mathlib.Core.List.{List, []}
use mathlib.Core.Option.{Option, none, some}
use Rattle.std.proofs.Common.{Option as Maybe, Some, None, Result, Ok, Err, MatchResult}
use Rattle.std.specs.Result.{result_ok}
use Rattle.sip.proofs.Tests.{never}
use Prim.Native.Nat.{ℕ, ◌+◌, ◌≤◌}
use native.Mathlib.Omega.{arith}
use lib.Dec.{eqb}
use lib.ListN.{length, take, drop}
use borrow.Author.Tests.{le-ltb, ne_eqb}
use Rattle.sip.specs.declared.Span.{Span}
use Rattle.sip.specs.declared.CallerAt.{CallerAt}
use Rattle.sip.specs.Lines.{unfolded_at}
use Rattle.sip.specs.Values.{is_global}
use Rattle.sip.specs.Readings.{part, place, reading_at, Asserted, caller_in, caller_at, no_calling, placed_in, caller_or, calling_at, calling_part, calling_number}
use Rattle.sip.proofs.Within.{reading_within}
use Rattle.sip.proofs.Calling.{caller_placed, caller_within, calling_part_lem}
use Rattle.lines.specs.Index.{index}
use Rattle.lines.specs.Passes.{at_most96, first_slots, spans_in}
use Rattle.lines.proofs.Counts.{message_spans}
use Rattle.judgement.specs.declared.Judged.{Judged}
use Rattle.judgement.specs.declared.Refusal.{Refusal}
use Rattle.judgement.specs.Judges.{Passes, Refuses, caller_found}
use Rattle.gateway.specs.declared.CallingAt.{CallingAt as Place}
use Rattle.gateway.specs.declared.CallingAt.TheVariants.{Trunk, Message}
use Rattle.gateway.specs.Callers.{Calling}

-- ---- no calling number

module _ (m t : List ℕ) where
  empty_within : calling_at m t ≡ no_calling → Calling m t None
  empty_within e = record { stands = sym e; within = omega arith }

  pub bad_trunk : is_global t ≡ false → Calling m t None
  unfolding calling_at
  bad_trunk g = empty_within (rw g)

  pub refused_caller : is_global t ≡ true → {r : Refusal} → Refuses m r → Calling m t None
  unfolding calling_at
  refused_caller g e = empty_within (rw (g, e.is_refused))

-- what holds of the error where there is no value
pub of_error : {T E : Type 0} (P : T → Type 0) (Q : E → Type 0) (r : Result T E) {o : Maybe T} → o ≡ result_ok r → o ≡ None → MatchResult r P Q
    → (e : E) × Q e
of_error P Q (Ok x) f g h = never (cc)
of_error P Q (Err e) f g h = (e, h)

-- ---- an accepted message

-- the caller as the judge has it, case by case
none_found : (o : Option Asserted) → None ≡ caller_found o → caller_at o ≡ caller_at none
none_found none e = refl
none_found (some a) e = never (cc)

some_found : (o : Option Asserted) {k : CallerAt} → Some k ≡ caller_found o → (a : Asserted) × (o ≡ some a) × (k ≡ caller_at (some a))
some_found none e = never (cc)
some_found (some a) e = (a, refl, cc)

module _ (m t : List ℕ) (g : is_global t ≡ true) {slots : List ℕ} {j : Judged} (p : Passes m slots j) where
  stands_as : calling_at m t ≡ caller_or m t (caller_at (caller_in p.message.fields))
  unfolding calling_at
  stands_as = rw (g, p.is_accepted)

  pub trunk_said : j.caller ≡ None → {n : ℕ} → n ≡ length t → Calling m t (Some (Trunk (record { start = 0; len = n })))
  trunk_said z e =
      record { stands = rw e (sym (stands_as ∙ rw (none_found (caller_in p.message.fields) (sym z ∙ p.caller_is)))); within = omega (arith, e) }

  module _ (es : slots ≡ (index m).slots) (ec : j.count ≡ (index m).head.count) {k : CallerAt} (ek : j.caller ≡ Some k) where
    abbrev at : Span
    at = reading_at m 15 k.field

    named : 1 ≤ k.field
    named = rw ek at p.caller_named

    -- the slots say where the field's value is read
    is_read : {q : Span} → q ≡ place k.field (spans_in 15 (first_slots (at_most96 j.count) slots)) → q ≡ at
    unfolding reading_at
    is_read e = e ∙ rw (le-ltb 96 j.count p.few, es, ec, message_spans 15 (λ z. omega arith) m)

    asserts : (a : Asserted) × (caller_in p.message.fields ≡ some a) × (k ≡ caller_at (some a))
    asserts = some_found (caller_in p.message.fields) (sym ek ∙ p.caller_is)

    stands_at : calling_at m t ≡ placed_in m at k
    stands_at =
        let n : eqb k.field 0 ≡ false = ne_eqb k.field 0 (λ z. omega (arith, named)) in
        let z : caller_at (caller_in p.message.fields) ≡ k = ap caller_at asserts.1 ∙ sym asserts.2 in
        stands_as ∙ rw z (rw n)

    lies_within : (placed_in m at k).start + (placed_in m at k).len ≤ length m
    lies_within =
        let a = asserts.0 in
        let s = caller_placed m p.message p.is_accepted a asserts.1 in
        rw asserts.2 (omega (arith, caller_within m a s, reading_within m 15 a.field))

    module _ {q : Span} (hq : q ≡ place k.field (spans_in 15 (first_slots (at_most96 j.count) slots))) where
      -- it lies within the message, so that no sum wraps
      pub read_within : q.start + q.len ≤ 8192
      read_within = rw (is_read hq) (omega (arith, reading_within m 15 k.field, p.short))

      pub caller_said : {v : List ℕ} → v ≡ take q.len (drop q.start m) → {u : ℕ} → u ≡ unfolded_at k.start 0 v
          → {s l : ℕ} → s ≡ q.start + u → l ≡ k.len → Calling m t (Some (Message (record { start = s; len = l })))
      unfolding placed_in
      caller_said hv hu hs hl =
          let z : record { from_trunk = false; start = q.start + unfolded_at k.start 0 (part q m); len = k.len } ≡ placed_in m at k
          = rw (is_read hq) in
          let w : Calling m t (Some (Message (record { start = q.start + unfolded_at k.start 0 (part q m); len = k.len })))
          = record {
            stands = z ∙ sym stands_at;
            within = let l : q.start + unfolded_at k.start 0 (part q m) + k.len ≤ length m = rw (is_read hq) lies_within in l;
          } in
          rw (hs, hl, hu, hv) w

-- ---- the part itself

module _ (m t : List ℕ) {v : List ℕ} where
  module _ {x : Maybe Place} (c : Calling m t x) where
    is_number : v ≡ calling_part m t → (v ≡ calling_part m t) × (v ≡ calling_number m t)
    is_number e = (e, e ∙ calling_part_lem m t)

    pub no_part : x ≡ None → v ≡ [] → (v ≡ calling_part m t) × (v ≡ calling_number m t)
    unfolding calling_part
    no_part e hv = is_number (rw (← c.stands, e, hv))

    pub trunk_part : {p : Span} → x ≡ Some (Trunk p) → v ≡ take p.len (drop p.start t) → (v ≡ calling_part m t) × (v ≡ calling_number m t)
    unfolding calling_part
    trunk_part e hv = is_number (rw (← c.stands, e, hv))

    pub message_part : {p : Span} → x ≡ Some (Message p) → v ≡ take p.len (drop p.start m) → (v ≡ calling_part m t) × (v ≡ calling_number m t)
    unfolding calling_part
    message_part e hv = is_number (rw (← c.stands, e, hv))
