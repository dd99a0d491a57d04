-- The status and the method of a response, as the code reads them: the three digits by their number, the method by the first slot of a
-- CSeq.
use mathlib.Core.Path.{◌≡◌, refl, sym, ap, ◌∙◌}
use mathlib.Core.Bool.{Bool, true, false, cond}
use mathlib.Core.List.{List, [], ◌∷◌}
use Prim.Native.Nat.{ℕ, zero, suc, ◌≤◌}
use native.Mathlib.Omega.{arith}
use lib.Dec.{eqb}
use lib.ListN.{length, take}
use lib.Seq.{take-length}
use borrow.Author.Tests.{eqb-true, le-leb}
use Rattle.octets.specs.Classes.{is_digit}
use Rattle.octets.specs.Scans.{run, all, decimal, number}
use Rattle.octets.proofs.Runs.{run_whole}
use Rattle.sip.specs.Refusals.{value_of, first_cseq_method}
use Rattle.sip.specs.Values.{cseq_method}
use Rattle.sip.proofs.Tests.{never, range_high, all_first, all_others}
use Rattle.lines.specs.Index.{no_slot, slot_at}
use Rattle.judgement.specs.Sets.{has}
use Rattle.judgement.specs.Entries.{value_at, entry_at, entries_from, first_slot}
use Rattle.judgement.specs.Judged.{method_at}

-- ---- the status

three_digits : (s : List ℕ) → length s ≡ 3 → all is_digit s ≡ true → decimal 0 s ≤ 999
unfolding decimal is_digit
three_digits (a ∷ b ∷ c ∷ []) l e =
    let x : a ≤ 57 = range_high 48 57 a (all_first is_digit a (b ∷ c ∷ []) e) in
    let f : all is_digit (b ∷ c ∷ []) ≡ true = all_others is_digit a (b ∷ c ∷ []) e in
    let y : b ≤ 57 = range_high 48 57 b (all_first is_digit b (c ∷ []) f) in
    let z : c ≤ 57 = range_high 48 57 c (all_first is_digit c [] (all_others is_digit b (c ∷ []) f)) in
    omega arith
three_digits [] l e = absurd (omega arith)
three_digits (a ∷ []) l e = absurd (omega arith)
three_digits (a ∷ b ∷ []) l e = absurd (omega arith)
three_digits (a ∷ b ∷ c ∷ d ∷ s) l e = absurd (omega arith)

pub status_said : (s : List ℕ) → length s ≡ 3 → all is_digit s ≡ true → (number 3 999 s).value ≡ decimal 0 s
unfolding number
status_said s l e =
    let r : run is_digit s ≡ 3 = run_whole is_digit s e ∙ l in
    let w : take 3 s ≡ s = ap (λ (k : ℕ). take k s) (sym l) ∙ take-length s in
    rw (r, w, le-leb (decimal 0 s) 999 (three_digits s l e))

-- ---- the method

no_slot_named : (m : List ℕ) → [] ≡ method_at m no_slot
unfolding method_at value_at cseq_method number
no_slot_named m = refl

module _ (m ns : List ℕ) where
  -- the first CSeq of a set that keeps it is the first slot of a CSeq
  pub method_is : (set : ℕ) → has set 6 ≡ true → (k i : ℕ) → first_cseq_method (entries_from set m ns k i) ≡ method_at m (first_slot 6 ns k i)
  unfolding entries_from first_slot first_cseq_method value_of method_at
  method_is set h zero i = no_slot_named m
  method_is set h (suc k) i = go (eqb (slot_at ns i).number 6) (has set (slot_at ns i).number) refl refl (method_is set h k (suc i))
    where
      go : (a b : Bool) → eqb (slot_at ns i).number 6 ≡ a → has set (slot_at ns i).number ≡ b
          → first_cseq_method (entries_from set m ns k (suc i)) ≡ method_at m (first_slot 6 ns k (suc i))
          → first_cseq_method (cond b (entry_at m (slot_at ns i) ∷ entries_from set m ns k (suc i)) (entries_from set m ns k (suc i)))
          ≡ method_at m (cond a (slot_at ns i) (first_slot 6 ns k (suc i)))
      go true true p q f = rw p
      go true false p q f = let z : has set 6 ≡ false = rw (eqb-true (slot_at ns i).number 6 p) at q in never (cc)
      go false true p q f = rw p f
      go false false p q f = f
