-- The invariant: the texts are the same where they are from i on; by the loop of all comparisons in `Texts`.
use mathlib.Core.Path.{◌≡◌, refl, sym, ◌∙◌}
use mathlib.Core.Bool.{Bool, true, false, not}
use mathlib.Core.List.{List}
use Prim.Native.Nat.{ℕ, ◌+◌, ◌<◌}
use native.Mathlib.Omega.{arith}
use lib.Dec.{eqb}
use lib.ListN.{length, drop, get_or}
use borrow.Author.Tests.{eqb-true, eqb-false, not-true, not-false}
use Rattle.octets.specs.Scans.{lower, same_text}
use Rattle.octets.proofs.Texts.{same_text_agree, lengths_differ, ended, bytes_differ, bytes_agree}
use Rattle.octets.proofs.same_text.Goals as goal

module _ (s t : List ℕ) (l : length s ≡ length t) (i : ℕ) (e : same_text s t ≡ same_text (drop i s) (drop i t)) (h : i < length s)
    {r : Bool} (q : r ≡ eqb (lower (get_or s i 0)) (lower (get_or t i 0))) where
  differ : not r ≡ true → false ≡ same_text s t
  differ n =
      bytes_differ same_text lower same_text_agree s t l i e h refl refl
      (eqb-false (lower (get_or s i 0)) (lower (get_or t i 0)) (sym q ∙ not-true r n))

  agrees : {k : ℕ} → not r ≡ false → k ≡ i + 1 → same_text s t ≡ same_text (drop k s) (drop k t)
  agrees n z =
      bytes_agree same_text lower same_text_agree s t l i e h refl refl
      (eqb-true (lower (get_or s i 0)) (lower (get_or t i 0)) (sym q ∙ not-false r n)) z

pub returns-then-a-b : goal.returns-then-a-b
returns-then-a-b c = search (lengths_differ same_text lower same_text_agree, arith)

pub returns-then-not-alike : goal.returns-then-not-alike
returns-then-not-alike c = search (differ, arith)

pub loop-i-preserved : goal.loop-i-preserved
loop-i-preserved c = search (agrees, arith)

pub returns : goal.returns
returns c = search (ended same_text lower same_text_agree, arith)
