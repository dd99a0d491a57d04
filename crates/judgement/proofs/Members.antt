-- The profile's sets are the tests that they are made of: what is listed by induction over the list, what is not listed passes no test.
use mathlib.Core.Path.{◌≡◌, refl, sym, ap, ◌∙◌}
use mathlib.Core.Bool.{Bool, true, false, not, cond, ◌&&◌, ◌||◌, and-false}
use mathlib.Core.List.{List, [], ◌∷◌, ◌++◌, map, append-nil}
use mathlib.Core.Option.{none, some}
use Prim.Native.Nat.{ℕ, zero, suc, ◌+◌, ◌-◌, ◌^◌, ◌≤◌, ◌<◌}
use native.Mathlib.Nat.{zero-add}
use native.Mathlib.Omega.{arith}
use lib.Bits.{bit_and, and_le_l}
use lib.Count.{ones, count_trailing_zeros}
use Rattle.std.proofs.lemmas.Nat.{zero_from_ones}
use lib.Dec.{eqb}
use lib.ListN.{length}
use borrow.Author.Tests.{eqb-true, not-true}
use Rattle.octets.specs.Classes.{among}
use Rattle.sip.specs.declared.Column.{Column}
use Rattle.sip.specs.Profile.{Mark, I, Row, rows, find, once, mark, is_ignored, ignored, is_mandatory, mandatory, numbers}
use Rattle.sip.specs.Refusals.{Entry, occurs, missing_of, head_or}
use Rattle.sip.proofs.Tests.{never, and_left, and_right, eqb_turned}
use Rattle.judgement.specs.declared.Lack.{Lack}
use Rattle.judgement.specs.Sets.{has, set_of, kept_set, mandatory_set, once_set, pick, lack_of, lack_at}
use Rattle.judgement.proofs.Masks.{has_none, has_plus, has_without, from, Shown, count_is, lowest_is}

-- ---- the set of a list of numbers

abbrev is_distinct : List ℕ → Bool
is_distinct [] = true
is_distinct (n ∷ ns) = not (among ns n) && is_distinct ns

module _ (p : ℕ → Bool) (n : ℕ) (s : ℕ) (is_in : ℕ → Bool) (new : not (is_in n) ≡ true) (others : (k : ℕ) → has s k ≡ (is_in k && p k)) where
  added : (k : ℕ) → has (2 ^ n + s) k ≡ (eqb n k || (is_in k && p k))
  added k = has_plus s n k (others n ∙ rw (not-true (is_in n) new)) ∙ rw (others k)

  has_one : (k : ℕ) → has (cond (p n) (2 ^ n + s) s) k ≡ ((eqb n k || is_in k) && p k)
  has_one k = go (p n) (eqb n k) refl refl
    where
      go : (t u : Bool) → p n ≡ t → eqb n k ≡ u → has (cond t (2 ^ n + s) s) k ≡ ((u || is_in k) && p k)
      go true true q e = let w : p k ≡ true = rw (eqb-true n k e) at q in added k ∙ rw (e, w)
      go true false q e = added k ∙ rw e
      go false true q e = let w : p k ≡ false = rw (eqb-true n k e) at q in others k ∙ rw w (and-false (is_in k))
      go false false q e = others k

has_set : (p : ℕ → Bool) (ns : List ℕ) (k : ℕ) → is_distinct ns ≡ true → has (set_of p ns) k ≡ (among ns k && p k)
unfolding set_of
has_set p [] k d = has_none k
has_set p (n ∷ ns) k d =
    rw (eqb_turned k n)
    (has_one p n (set_of p ns) (λ (j : ℕ). among ns j) (and_left (not (among ns n)) (is_distinct ns) d)
    (λ j. has_set p ns j (and_right (not (among ns n)) (is_distinct ns) d)) k)

-- ---- the profile's numbers

-- no row has a number that is not listed
pub find_none : (rs : List Row) (k : ℕ) → among (map (λ (r : Row). r.number) rs) k ≡ false → find rs k ≡ none
unfolding find
find_none [] k e = refl
find_none (r ∷ rs) k e = go (eqb r.number k) (rw (eqb_turned k r.number) at e) (find_none rs k)
  where
    go : (t : Bool) → (t || among (map (λ (r : Row). r.number) rs) k) ≡ false
        → (among (map (λ (r : Row). r.number) rs) k ≡ false → find rs k ≡ none) → cond t (some r) (find rs k) ≡ none
    go true e f = never (cc)
    go false e f = f e

distinct : is_distinct numbers ≡ true
unfolding numbers rows
distinct = refl

-- the set of a test that no unlisted number passes is the test
module _ (p : ℕ → Bool) (unlisted : (k : ℕ) → find rows k ≡ none → p k ≡ false) where
  has_listed : (k : ℕ) → has (set_of p numbers) k ≡ p k
  unfolding numbers
  has_listed k = has_set p numbers k distinct ∙ go (among numbers k) refl
    where
      go : (t : Bool) → among numbers k ≡ t → (t && p k) ≡ p k
      go true e = refl
      go false e = sym (unlisted k (find_none rows k e))

mark_none : (c : Column) (k : ℕ) → find rows k ≡ none → mark c k ≡ I
unfolding mark
mark_none c k e = rw (mark, e)

once_none : (k : ℕ) → find rows k ≡ none → once k ≡ false
unfolding once
once_none k e = rw (once, e)

pub kept_has : (c : Column) (n : ℕ) → has (kept_set c) n ≡ not (ignored (some c) n)
unfolding kept_set ignored
kept_has c n = has_listed (λ (k : ℕ). not (ignored (some c) k)) (λ k e. ap (λ (m : Mark). not (is_ignored m)) (mark_none c k e)) n

mandatory_has : (c : Column) (empty : Bool) (n : ℕ) → has (mandatory_set c empty) n ≡ mandatory c empty n
unfolding mandatory_set mandatory
mandatory_has c empty n = has_listed (mandatory c empty) (λ k e. ap (is_mandatory empty) (mark_none c k e)) n

pub once_has : (n : ℕ) → has once_set n ≡ once n
unfolding once_set
once_has n = has_listed once once_none n

-- ---- what is missing

pick_append : (p : ℕ → Bool) (xs ys : List ℕ) → pick p (xs ++ ys) ≡ pick p xs ++ pick p ys
unfolding pick
pick_append p [] ys = refl
pick_append p (x ∷ xs) ys = go (p x) (pick_append p xs ys)
  where
    go : (t : Bool) → pick p (xs ++ ys) ≡ pick p xs ++ pick p ys
        → cond t (x ∷ pick p (xs ++ ys)) (pick p (xs ++ ys)) ≡ cond t (x ∷ pick p xs) (pick p xs) ++ pick p ys
    go true e = rw e
    go false e = e

-- the listed numbers among all of a mask
listed : from 0 32 ≡ 0 ∷ (numbers ++ from 19 13)
unfolding from numbers rows
listed = refl

module _ (c : Column) (empty : Bool) (seen : ℕ) where
  abbrev is_lacking : ℕ → Bool
  is_lacking n = mandatory c empty n && not (has seen n)

  zero_out : (ns : List ℕ) → pick is_lacking (0 ∷ ns) ≡ pick is_lacking ns
  unfolding pick mandatory mark find rows
  zero_out ns = refl

  past_out : pick is_lacking (from 19 13) ≡ []
  unfolding from pick mandatory mark find rows
  past_out = refl

  lack_all : pick is_lacking (from 0 32) ≡ lack_of c empty seen
  lack_all =
      ap (pick is_lacking) listed ∙ zero_out (numbers ++ from 19 13) ∙ pick_append is_lacking numbers (from 19 13)
      ∙ rw (past_out, append-nil (pick is_lacking numbers))

  module _ (hs : seen < 2 ^ 32) {m : ℕ} (hm : m < 2 ^ 32) (e : m ≡ mandatory_set c empty) where
    left : ℕ
    left = bit_and m (2 ^ 32 - 1 - seen)

    left_lt : left < 2 ^ 32
    unfolding left
    left_lt = omega (arith, and_le_l m (2 ^ 32 - 1 - seen))

    shown : Shown is_lacking 0 left
    unfolding left
    shown =
        record {
          shows =
              λ j. let z : 0 + j ≡ j = omega arith in
              rw z (sym (has_without 32 m seen j hm hs ∙ rw (e, mandatory_has c empty j)));
        }

    count : ones left ≡ length (lack_of c empty seen)
    count = rw (← lack_all) (count_is is_lacking 32 0 left left_lt shown)

    lowest : (left ≡ 0 → ⊥) → count_trailing_zeros 32 left ≡ head_or 0 (lack_of c empty seen)
    lowest n = rw (← lack_all) (sym (zero-add (count_trailing_zeros 32 left)) ∙ lowest_is is_lacking 32 0 left 0 left_lt n shown)

    pub lacks_none : bit_and m (2 ^ 32 - 1 - seen) ≡ 0 → record { count = 0; lowest = 0 } ≡ lack_at c empty seen
    unfolding lack_at left ones
    lacks_none z = go (lack_of c empty seen) (rw z at count)
      where
        go : (ns : List ℕ) → 0 ≡ length ns → ◌≡◌ {A = Lack} (record { count = 0; lowest = 0 }) (record { count = length ns; lowest = head_or 0 ns })
        go [] q = refl
        go (n ∷ ns) q = absurd (omega arith)

    pub some_lack : (bit_and m (2 ^ 32 - 1 - seen) ≡ 0 → ⊥) → 1 ≤ ones (bit_and m (2 ^ 32 - 1 - seen))
    some_lack n = go (ones (bit_and m (2 ^ 32 - 1 - seen))) refl
      where
        go : (k : ℕ) → ones (bit_and m (2 ^ 32 - 1 - seen)) ≡ k → 1 ≤ k
        go zero q = absurd (n (zero_from_ones (bit_and m (2 ^ 32 - 1 - seen)) q))
        go (suc k) q = omega arith

    pub lacks_some : (bit_and m (2 ^ 32 - 1 - seen) ≡ 0 → ⊥)
        → record { count = ones (bit_and m (2 ^ 32 - 1 - seen)); lowest = count_trailing_zeros 32 (bit_and m (2 ^ 32 - 1 - seen)) } ≡ lack_at c empty seen
    unfolding lack_at left
    lacks_some n = rw (count, lowest n)

-- where the set has just what occurs, just that is missing which does not occur
pub lack_missing : (c : Column) (empty : Bool) (seen : ℕ) (es : List Entry) → ((n : ℕ) → has seen n ≡ occurs n es)
    → lack_of c empty seen ≡ missing_of c empty es numbers
unfolding pick missing_of
lack_missing c empty seen es h = go numbers
  where
    go : (ns : List ℕ) → pick (λ (n : ℕ). mandatory c empty n && not (has seen n)) ns ≡ missing_of c empty es ns
    go [] = refl
    go (n ∷ ns) = rw (h n, go ns)
