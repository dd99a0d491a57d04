-- A name that is listed, in either form and any letter case, is a token of one byte or more.
use mathlib.Core.Path.{◌≡◌, refl}
use mathlib.Core.Bool.{Bool, true, false, false≢true, cond, ◌&&◌, ◌||◌}
use mathlib.Core.List.{List, [], ◌∷◌}
use mathlib.Core.Option.{Option, none, some}
use Prim.Native.Nat.{ℕ, ◌<◌}
use native.Mathlib.Omega.{arith}
use lib.Dec.{ltb}
use lib.ListN.{length}
use borrow.Author.Tests.{ltb-true}
use Rattle.octets.specs.Classes.{is_token}
use Rattle.octets.specs.Scans.{all, same_text}
use Rattle.sip.specs.Profile.{Row, rows, is_compact, lookup, number_of}
use Rattle.octets.proofs.Texts.{same_text_length}
use Rattle.sip.proofs.Tests.{and_left, and_right}
use Rattle.sip.proofs.Texts.{same_token}

is_name : List ℕ → Bool
is_name n = ltb 0 (length n) && all is_token n

same_name : (x n : List ℕ) → same_text x n ≡ true → is_name x ≡ true → is_name n ≡ true
unfolding is_name
same_name x n e h =
    let l = same_text_length x n e in
    let t = same_token x n e (and_right (ltb 0 (length x)) (all is_token x) h) in
    rw (← l, t, and_left (ltb 0 (length x)) (all is_token x) h)

are_names : Option (List ℕ) → Bool
are_names none = true
are_names (some c) = is_name c

compact_name : (c : Option (List ℕ)) (n : List ℕ) → is_compact c n ≡ true → are_names c ≡ true → is_name n ≡ true
unfolding are_names
compact_name none n e h = absurd (false≢true e)
compact_name (some c) n e h = same_name c n e h

-- both forms of every row
all_names : List Row → Bool
all_names [] = true
all_names (r ∷ rs) = (is_name r.name && are_names r.compact) && all_names rs

lookup_name : (rs : List Row) (n : List ℕ) → all_names rs ≡ true → 0 < lookup rs n → is_name n ≡ true
unfolding lookup all_names
lookup_name [] n a h = absurd (omega arith)
lookup_name (r ∷ rs) n a h =
    go (same_text r.name n) (is_compact r.compact n) refl refl h
    (lookup_name rs n (and_right (is_name r.name && are_names r.compact) (all_names rs) a))
  where
    both : (is_name r.name && are_names r.compact) ≡ true
    both = and_left (is_name r.name && are_names r.compact) (all_names rs) a

    go : (t u : Bool) → same_text r.name n ≡ t → is_compact r.compact n ≡ u → 0 < cond (t || u) r.number (lookup rs n)
        → (0 < lookup rs n → is_name n ≡ true) → is_name n ≡ true
    go true u p q h ih = same_name r.name n p (and_left (is_name r.name) (are_names r.compact) both)
    go false true p q h ih = compact_name r.compact n q (and_right (is_name r.name) (are_names r.compact) both)
    go false false p q h ih = ih h

pub record NameShaped (n : List ℕ) : Type 0 where
  pub long : 0 < length n
  pub token : all is_token n ≡ true

pub listed_name : (n : List ℕ) → 0 < number_of n → NameShaped n
unfolding number_of rows all_names are_names is_name is_token all
listed_name n h =
    let k : is_name n ≡ true = lookup_name rows n refl h in
    record { long = ltb-true 0 (length n) (and_left (ltb 0 (length n)) (all is_token n) k); token = and_right (ltb 0 (length n)) (all is_token n) k }
