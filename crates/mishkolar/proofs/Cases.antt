-- The numbers of a verdict, case by case, are those of the answer that it equals.
use mathlib.Core.Path.{◌≡◌, ap, ◌∙◌}
use mathlib.Core.List.{List}
use Prim.Native.Nat.{ℕ}
use Rattle.sip.specs.Refusals.{Answer}
use Rattle.sip.specs.Screen.{Screened}
use Rattle.judgement.specs.declared.Refusal.{Refusal}
use Rattle.gateway.specs.declared.Verdict.{Verdict}
use Rattle.gateway.specs.declared.Verdict.TheVariants.{Accepted, Refused}
use Rattle.gateway.specs.Verdicts.{numbers_of}
use Rattle.mishkolar.specs.Numbers.{Screens}

module _ (s : Screened) (v : Verdict) {d t : List ℕ} (numbers : numbers_of v ≡ s.answer) (buffer : d ≡ s.buffer)
    (calls : t ≡ s.table) where
  of_answer : {n : ℕ} (f : Answer → ℕ) → n ≡ f (numbers_of v) → n ≡ f s.answer
  of_answer f e = e ∙ ap f numbers

  screens : {a b c e n : ℕ} → a ≡ (numbers_of v).reason → b ≡ (numbers_of v).reply → c ≡ (numbers_of v).detail → e ≡ (numbers_of v).missing
      → n ≡ (numbers_of v).length → Screens s a b c e n d t
  screens p q r y u =
      record {
        same_reason = of_answer (λ (x : Answer). x.reason) p;
        same_reply = of_answer (λ (x : Answer). x.reply) q;
        same_detail = of_answer (λ (x : Answer). x.detail) r;
        same_missing = of_answer (λ (x : Answer). x.missing) y;
        same_length = of_answer (λ (x : Answer). x.length) u;
        same_buffer = buffer;
        same_calls = calls;
      }

  pub accepted_numbers : {n : ℕ} → v ≡ Accepted n → Screens s 0 0 0 0 n d t
  accepted_numbers e = screens (rw e) (rw e) (rw e) (rw e) (rw e)

  pub refused_numbers : {r : Refusal} → v ≡ Refused r → {a b c e : ℕ} → a ≡ r.reason → b ≡ r.reply → c ≡ r.detail → e ≡ r.missing → Screens s a b c e 0 d t
  refused_numbers f p q r y = screens (rw (f, p)) (rw (f, q)) (rw (f, r)) (rw (f, y)) (rw f)
