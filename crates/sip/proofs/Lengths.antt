-- A canonical value, a body and a tag are not longer than what they are taken from, and a numeral has at most five digits.
use mathlib.Core.Bool.{Bool, true, false, cond}
use mathlib.Core.List.{List, [], ◌∷◌, ◌++◌}
use mathlib.Core.Option.{Option, none, some}
use Prim.Native.Nat.{ℕ, zero, suc, ◌/◌, ◌%◌, ◌+◌, ◌≤◌}
use native.Mathlib.Omega.{arith}
use lib.Dec.{ltb}
use lib.ListN.{length, take, drop, length-append, length-take, length-drop}
use Rattle.octets.specs.Classes.{is_blank}
use Rattle.octets.specs.Scans.{run}
use Rattle.sip.specs.Lines.{folded, unless_last, trim_end, trim, canonical}
use Rattle.sip.proofs.Canonical.{folded_le}
use Rattle.sip.specs.Values.{party, tag_of}
use Rattle.sip.specs.Refusals.{Entry, content_length, body_of}
use Rattle.sip.specs.Output.{digits}

-- ---- canonical values

pub trim_end_le : (p : ℕ → Bool) (s : List ℕ) → length (trim_end p s) ≤ length s
unfolding trim_end
trim_end_le p [] = omega arith
trim_end_le p (b ∷ s) = go (trim_end p s) (trim_end_le p s)
  where
    last : (t : Bool) → length (cond t [] (b ∷ [])) ≤ 1
    last true = omega arith
    last false = omega arith

    go : (y : List ℕ) → length y ≤ length s → length (unless_last p b y) ≤ suc (length s)
    go [] l = omega (arith, last (p b))
    go (c ∷ y) l = omega arith

pub canonical_le : (v : List ℕ) → length (canonical v) ≤ length v
unfolding canonical trim
canonical_le v =
    let f : List ℕ = folded zero v in
    omega (arith, trim_end_le is_blank (drop (run is_blank f) f), length-drop (run is_blank f) f, folded_le v)

-- ---- parts

pub tag_le : (v : List ℕ) → length (tag_of v) ≤ length v
unfolding tag_of
tag_le v =
    omega (arith, length-take (party v).len (drop (party v).tag v), length-drop (party v).tag v)

pub body_le : (es : List Entry) (rest : List ℕ) → length (body_of es rest) ≤ length rest
unfolding body_of
body_le es rest = go (content_length es)
  where
    go : (o : Option ℕ) → length {A = ℕ} (elim o [ none ↦ rest | some n ↦ take n rest ]) ≤ length rest
    go none = omega arith
    go (some n) = omega (arith, length-take n rest)

-- ---- numerals

pub digits_le : (k n : ℕ) → length (digits k n) ≤ k
unfolding digits
digits_le zero n = omega arith
digits_le (suc k) n = go (ltb n 10) (digits_le k (n / 10))
  where
    go : (t : Bool) → length (digits k (n / 10)) ≤ k → length (cond t ((48 + n) ∷ []) (digits k (n / 10) ++ ((48 + n % 10) ∷ []))) ≤ suc k
    go true l = omega arith
    go false l = rw (length-append (digits k (n / 10))) (omega arith)
