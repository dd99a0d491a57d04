-- What is put at the front of a lent array that has room for it, and the numbers beside it, are those of the answer.
use mathlib.Core.Path.{◌≡◌, refl, ap, ◌∙◌}
use mathlib.Core.Bool.{Bool}
use mathlib.Core.List.{List, ◌++◌}
use Prim.Native.Nat.{ℕ, ◌-◌, ◌≤◌}
use native.Mathlib.Omega.{arith}
use lib.ListN.{length, take, replicate}
use lib.Seq.{take-append_seam}
use Rattle.octets.specs.Classes.{bit}
use Rattle.emit.specs.Put.{Wrote}
use Rattle.emit.proofs.Laws.{put_front}
use Rattle.isup.specs.Forward.{padded, parameter_of, produced}
use Rattle.isup.specs.Backward.{caller_with, decoded}
use Rattle.mishkolar_isup.specs.Numbers.{written, Gives, Calls}

-- as many bytes as there are, into an array that is as long
put_written : (size : ℕ) (s : List ℕ) → length s ≤ size → {p d d' : List ℕ} {r : ℕ} → length d ≡ size → p ≡ s → Wrote d 0 p r d'
    → d' ≡ written (length s) (padded size s) d
unfolding padded
put_written size s l {p} {d} ld e w =
    let k : length p ≡ length s = ap length e in
    let z : take (length s) (s ++ replicate (size - length s) 0) ≡ s = take-append_seam s (replicate (size - length s) 0) in
    w.holds ∙ put_front d p (omega arith) ∙ rw (e, z)

module _ (m code : List ℕ) (home : Bool) (octets : List ℕ) (e : parameter_of octets ≡ produced m code home) where
  pub gives : {t d d' : List ℕ} {r len : ℕ} → length t ≤ 10 → length d ≡ 10 → t ≡ octets → Wrote d 0 t r d' → len ≡ length octets
      → Gives (produced m code home) 0 0 0 0 len d d'
  gives h ld f w n =
      rw (← e)
      (record {
        same_reason = refl;
        same_reply = refl;
        same_detail = refl;
        same_missing = refl;
        same_length = n;
        same_array = put_written 10 octets (rw f at h) ld f w;
      })

module _ (bytes code : List ℕ) (id : Bool) (number : List ℕ) (e : caller_with id number ≡ decoded code bytes) where
  pub calls : {i : ℕ} → i ≡ bit id → {t d d' : List ℕ} {r len : ℕ} → length t ≤ 16 → length d ≡ 16 → t ≡ number → Wrote d 0 t r d'
      → len ≡ length number → Calls (decoded code bytes) i 0 len d d'
  unfolding caller_with
  calls j h ld f w n =
      rw (← e)
      (record {
        same_id = j;
        same_refusal = refl;
        same_length = n;
        same_array = put_written 16 number (rw f at h) ld f w;
      })
