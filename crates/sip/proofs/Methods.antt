-- The method that a CSeq names: a value names a method exactly where it is a CSeq with this method. The cases of what stands in the value.
use mathlib.Core.Path.{◌≡◌, refl}
use mathlib.Core.Bool.{Bool, true, false, not, cond, ◌&&◌}
use mathlib.Core.List.{List, [], ◌∷◌}
use Prim.Native.Nat.{ℕ, ◌+◌, ◌<◌}
use native.Mathlib.Omega.{arith}
use lib.Dec.{eqb}
use lib.ListN.{length, drop}
use Rattle.octets.specs.Classes.{is_token, is_blank}
use Rattle.octets.specs.Scans.{run, all, number, same}
use Rattle.sip.specs.Values.{is_cseq, cseq_method}
use Rattle.sip.proofs.Tests.{never}
use Rattle.sip.proofs.Texts.{same_eq}

same_nothing : (s : List ℕ) → 0 < length s → same s [] ≡ false
unfolding same
same_nothing [] h = absurd (omega arith)
same_nothing (b ∷ s) h = refl

pub cseq_names : (method v : List ℕ) → 0 < length method → all is_token method ≡ true → same method (cseq_method v) ≡ is_cseq method v
unfolding is_cseq cseq_method
cseq_names method v long token = go (eqb n 0) (eqb b 0) (all is_token t) (same method t) refl refl
  where
    n : ℕ
    n = (number 10 2147483647 v).size

    b : ℕ
    b = run is_blank (drop n v)

    t : List ℕ
    t = drop (n + b) v

    go : (p q a s : Bool) → all is_token t ≡ a → same method t ≡ s
        → same method (cond (not p && (not q && a)) t []) ≡ (not p && (not q && s))
    go true q a s e f = same_nothing method long
    go false true a s e f = same_nothing method long
    go false false true s e f = f
    go false false false true e f = let k : all is_token t ≡ true = rw (same_eq method t f) at token in never (cc)
    go false false false false e f = same_nothing method long
