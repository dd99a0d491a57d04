-- What the steps of producing answer: whether the message is an initial INVITE, each refusal, and the parameter of its calling number.
use mathlib.Core.Path.{◌≡◌, refl, sym, ap, ◌∙◌}
use mathlib.Core.Bool.{Bool, true, false, not, ◌&&◌}
use mathlib.Core.List.{List, [], ◌∷◌}
use Prim.Native.Nat.{ℕ}
use native.Mathlib.Omega.{arith}
use lib.Dec.{leb}
use lib.ListN.{length, take, drop, length-take, length-drop}
use borrow.Author.Tests.{le-leb, le-ltb, not-true, not-false}
use Rattle.octets.specs.Classes.{is_digit}
use Rattle.octets.specs.Scans.{run, starts}
use Rattle.sip.specs.declared.Span.{Span}
use Rattle.sip.specs.Lines.{folded}
use Rattle.sip.specs.Values.{is_tagged, is_global}
use Rattle.sip.specs.Readings.{part, place, reading_at, calling_number}
use Rattle.lines.specs.Index.{index}
use Rattle.lines.specs.Passes.{at_most96, first_slots, spans_in}
use Rattle.lines.proofs.Counts.{message_spans}
use Rattle.judgement.specs.declared.Judged.{Judged}
use Rattle.judgement.specs.declared.Refusal.{Refusal}
use Rattle.judgement.specs.Judges.{Passes, Refuses}
use Rattle.judgement.specs.Sets.{has}
use Rattle.isup.specs.Forward.{is_code, encoded, no_parameter, parameter_of, is_initial_invite, calling_of, produced}
use Rattle.isup.specs.Steps.{initial_in}
use Rattle.isup.proofs.Initial.{initial_is, tagged_is, calling_is, calling_any}

-- ---- an initial INVITE

module _ (m : List ℕ) {slots : List ℕ} {j : Judged} (p : Passes m slots j) where
  initial_said : initial_in m ≡ (has j.kept 15 && not (is_tagged (folded 0 (part (reading_at m 4 1) m))))
  unfolding initial_in
  initial_said =
      rw (p.is_accepted, p.kept_is 15, ← tagged_is m p.message.line p.header p.message p.is_read p.is_accepted)
      (initial_is m p.message.line p.header p.message p.is_read p.is_accepted)

  pub no_invite : {t : Bool} → t ≡ has j.kept 15 → not t ≡ true → false ≡ initial_in m
  no_invite {t} e q = sym (initial_said ∙ rw (← e, not-true t q))

  value_short : (start len : ℕ) → leb (length (take len (drop start m))) 8192 ≡ true
  value_short start len = le-leb (length (take len (drop start m))) 8192 (omega (arith, length-take len (drop start m), length-drop start m, p.short))

  module _ (es : slots ≡ (index m).slots) (ec : j.count ≡ (index m).head.count) {q : Span}
      (hq : q ≡ place 1 (spans_in 4 (first_slots (at_most96 j.count) slots))) where
    is_read : q ≡ reading_at m 4 1
    unfolding reading_at
    is_read = hq ∙ rw (le-ltb 96 j.count p.few, es, ec, message_spans 4 (λ z. omega arith) m)

    pub by_tag : {t : Bool} → t ≡ has j.kept 15 → not t ≡ false → {v : List ℕ} → v ≡ take q.len (drop q.start m)
        → {b : Bool} → b ≡ (leb (length v) 8192 && is_tagged (folded 0 v)) → not b ≡ initial_in m
    by_tag {t} e f hv hb = rw (hb, hv, value_short q.start q.len, is_read) (sym (initial_said ∙ rw (← e, not-false t f)))

-- ---- the answer

-- the trunk number that the code lends: any good one
abbrev trunk : List ℕ
trunk = 43 ∷ 49 ∷ 48 ∷ 48 ∷ 48 ∷ 48 ∷ 48 ∷ 48 ∷ []

trunk_good : is_global trunk ≡ true
unfolding is_global starts run is_digit
trunk_good = refl

module _ (m code : List ℕ) (home : Bool) {slots : List ℕ} {j : Judged} (p : Passes m slots j) {t : Bool} (e : t ≡ initial_in m) where
  is_initial : is_initial_invite p.message ≡ t
  unfolding initial_in
  is_initial = sym (e ∙ rw p.is_accepted)

  pub gives_42 : t ≡ false → no_parameter 42 0 0 0 ≡ produced m code home
  unfolding produced
  gives_42 q = rw (p.is_accepted, is_initial, q)

  module _ (q : t ≡ true) where
    initial : is_initial_invite p.message ≡ true
    initial = is_initial ∙ q

    good : is_global (calling_of p.message) ≡ true
    good = calling_is m p.message.line p.header p.message p.is_read p.is_accepted initial

    pub number_good : {v : List ℕ} → v ≡ calling_number m trunk → is_global v ≡ true
    number_good f = rw (f, calling_any m p.message p.is_accepted good trunk trunk_good) good

    module _ {u : Bool} (g : u ≡ is_code code) where
      pub gives_41 : u ≡ false → no_parameter 41 0 0 0 ≡ produced m code home
      unfolding produced
      gives_41 h = rw (p.is_accepted, initial, ← g, h)

      pub gives_parameter : u ≡ true → {v : List ℕ} → v ≡ calling_number m trunk → {os : List ℕ}
          → os ≡ encoded code home j.withheld v → parameter_of os ≡ produced m code home
      unfolding produced
      gives_parameter h k f =
          rw (p.is_accepted, initial, ← g, h, p.withheld_is)
          (ap parameter_of (f ∙ rw (k, calling_any m p.message p.is_accepted good trunk trunk_good)))

pub gives_own : (m code : List ℕ) (home : Bool) {r : Refusal} → Refuses m r → no_parameter r.reason r.reply r.detail r.missing ≡ produced m code home
unfolding produced
gives_own m code home k = rw k.is_refused
