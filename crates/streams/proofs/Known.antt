-- What two reads gave, one after the other, is what the input had.
use mathlib.Core.Path.{◌≡◌, subst, sym, ◌∙◌}
use mathlib.Core.List.{List, ◌++◌}
use Prim.Native.Nat.{ℕ, ◌+◌, ◌≤◌}
use lib.ListN.{length, take, drop}
use lib.Seq.{length-take-le, take-append-add, take-append-le}
use borrow.Rule.Slice.PartMut.{put_mid}
use Rattle.std.specs.Prelude.{Option, Result, Ok, Err}
use Rattle.std.specs.Result.{result_unwrap_or}
use Rattle.std.specs.Io.{ReadsAtMost}
use Rattle.std.specs.Io.KnownBytes.{Consumes, ReadConsumes}
use Rattle.std.proofs.KnownBytes.{Consumes-trans}

both_read : (d k n : ℕ) (xs ys : List ℕ) → d ≤ length xs → n ≤ length ys → take (d + n) (put_mid d k xs ys) ≡ take d xs ++ take n ys
both_read d k n xs ys h l =
    let e : length (take d xs) ≡ d = length-take-le d xs h in
    let f : take (length (take d xs) + n) (take d xs ++ (ys ++ drop k (drop d xs))) ≡ take d xs ++ take n (ys ++ drop k (drop d xs)) = take-append-add (take d xs) (ys ++ drop k (drop d xs)) n in
    (rw e at f) ∙ rw (take-append-le n ys (drop k (drop d xs)) l)

pub more_read : (a b c : Option (List ℕ)) (d k n : ℕ) (xs ys : List ℕ) {E : Type 0} (r : Result ℕ E) → d ≤ length xs → ReadsAtMost r ys → n ≡ result_unwrap_or r 0
    → (n ≡ 0 → ⊥) → Consumes a b (take d xs) → ReadConsumes b c r ys → Consumes a c (take (d + n) (put_mid d k xs ys))
more_read a b c d k n xs ys (Ok m) h l e z p q =
    subst (Consumes a c) (sym (both_read d k n xs ys h (rw e l.0))) (Consumes-trans a b c (take d xs) (take n ys) p (rw e q.0))
more_read a b c d k n xs ys (Err x) h l e z p q = absurd (z e)
