-- A test of the table by a mask is the class of the mask's bit: an and by halves, by induction on the bit's place; the table's entries by induction on its length.
use mathlib.Core.Path.{◌≡◌, refl, sym, ap, ◌∙◌, fun_ext}
use mathlib.Core.Bool.{Bool, true, false, not, ◌&&◌, ◌||◌, and-false, or-false}
use mathlib.Core.List.{List, [], ◌∷◌}
use Prim.Native.Nat.{ℕ, zero, suc, ◌+◌, ◌*◌, ◌/◌, ◌%◌, ◌^◌, min, ◌≤◌, ◌<◌}
use native.Mathlib.Nat.{pow-suc}
use native.Mathlib.Omega.{arith}
use lib.Dec.{eqb, leb, ltb}
use lib.ListN.{get_or, get_or-eq_default}
use borrow.Author.Tests.{eq-eqb, ne_eqb, lt-leb, ltb-true, ltb-false}
use lib.Bits.{bit_and, and_step, and_zero_r}
use Rattle.octets.specs.Classes.{bit, classes, mask_of, class_of, class_table, in_table, is_token, is_blank, is_digit, is_visible, is_user, is_parameter, is_host, is_value}

-- ---- bits

-- n and the mask m have a bit in common
abbrev hit : ℕ → ℕ → Bool
hit n m = not (eqb (bit_and n m) 0)

half : (t : Bool) (n : ℕ) → ((bit t + 2 * n) / 2 ≡ n) × ((bit t + 2 * n) % 2 ≡ bit t)
half true n = (omega arith, omega arith)
half false n = (omega arith, omega arith)

min_bit : (t u : Bool) → min (bit t) (bit u) ≡ bit (u && t)
min_bit true true = refl
min_bit true false = refl
min_bit false true = refl
min_bit false false = refl

low_bit : (t u : Bool) (n m : ℕ) → bit_and (bit t + 2 * n) (bit u + 2 * m) ≡ bit_and n m * 2 + bit (u && t)
low_bit t u n m =
    and_step (bit t + 2 * n) (bit u + 2 * m) ∙ rw ((half t n).0, (half t n).1, (half u m).0, (half u m).1, min_bit t u)

set : (t : Bool) (x : ℕ) → not (eqb (x * 2 + bit t) 0) ≡ (t || not (eqb x 0))
set true x = ap not (ne_eqb (x * 2 + 1) 0 (λ z. omega arith))
set false zero = refl
set false (suc x) = ap not (ne_eqb (suc x * 2 + 0) 0 (λ z. omega arith) ∙ sym (ne_eqb (suc x) 0 (λ z. omega arith)))

-- a bit that is 0, and one that is not
pub bit_no : (t : Bool) {n : ℕ} → n ≡ bit t → n < 1 → t ≡ false
bit_no true e h = absurd (omega arith)
bit_no false e h = refl

pub bit_yes : (t : Bool) {n : ℕ} → n ≡ bit t → 1 ≤ n → t ≡ true
bit_yes true e h = refl
bit_yes false e h = absurd (omega arith)

-- the lowest bits, and then the others
hit_step : (t u : Bool) (n m : ℕ) → hit (bit t + 2 * n) (bit u + 2 * m) ≡ ((u && t) || hit n m)
hit_step t u n m = rw (low_bit t u n m) (set (u && t) (bit_and n m))

hit_none : (n : ℕ) → hit n 0 ≡ false
hit_none n = rw (and_zero_r n)

-- ---- a test of any table

module _ (t : List ℕ) (m b : ℕ) where
  pub in_no : bit_and (get_or t b 0) m ≡ 0 → in_table t m b ≡ false
  unfolding in_table
  in_no e = ap not (eq-eqb (bit_and (get_or t b 0) m) 0 e)

  pub in_yes : (bit_and (get_or t b 0) m ≡ 0 → ⊥) → in_table t m b ≡ true
  unfolding in_table
  in_yes n = ap not (ne_eqb (bit_and (get_or t b 0) m) 0 n)

-- ---- the mask of a list of tests

-- the k-th test of the list; past its end nothing passes
abbrev pub nth : List (ℕ → Bool) → ℕ → ℕ → Bool
nth [] k = λ b. false
nth (p ∷ ps) zero = p
nth (p ∷ ps) (suc k) = nth ps k

pub bit_test : (ps : List (ℕ → Bool)) (k b : ℕ) → not (eqb (bit_and (mask_of ps b) (2 ^ k)) 0) ≡ nth ps k b
unfolding mask_of
bit_test [] k b = refl
bit_test (p ∷ ps) zero b = hit_step (p b) true (mask_of ps b) 0 ∙ rw (hit_none (mask_of ps b)) (or-false (p b))
bit_test (p ∷ ps) (suc k) b =
    let e : 2 ^ suc k ≡ bit false + 2 * 2 ^ k = pow-suc 2 k ∙ omega arith in
    rw e (hit_step (p b) false (mask_of ps b) (2 ^ k) ∙ bit_test ps k b)

-- ---- the table

entries : ℕ → ℕ → List ℕ
entries zero b = []
entries (suc n) b = class_of b ∷ entries n (suc b)

entry : (n b k : ℕ) → k < n → get_or (entries n b) k 0 ≡ class_of (b + k)
unfolding entries
entry zero b k h = absurd (omega arith)
entry (suc n) b zero h = ap class_of (omega arith)
entry (suc n) b (suc k) h = entry n (suc b) k (omega arith) ∙ ap class_of (omega arith)

module _ (b : ℕ) (h : 256 ≤ b) where
  leb_past : (x : ℕ) → ltb x 256 ≡ true → leb b x ≡ false
  leb_past x t = lt-leb b x (omega (arith, ltb-true x 256 t))

  eqb_past : (x : ℕ) → ltb x 256 ≡ true → eqb b x ≡ false
  eqb_past x t = ne_eqb b x (λ z. omega (arith, ltb-true x 256 t))

  class_past : class_of b ≡ 0
  unfolding class_of is_token is_blank is_digit is_visible is_user is_parameter is_host is_value
  class_past = simp (leb_past, eqb_past, and-false)

-- at every number, past the bytes too
pub table_at : (b : ℕ) → get_or class_table b 0 ≡ class_of b
unfolding class_table entries
table_at b = go (ltb b 256) refl
  where
    go : (t : Bool) → ltb b 256 ≡ t → get_or class_table b 0 ≡ class_of b
    go true e = entry 256 0 b (ltb-true b 256 e) ∙ ap class_of (omega arith)
    go false e = let h : 256 ≤ b = ltb-false b 256 e in get_or-eq_default class_table 0 h ∙ sym (class_past b h)

-- ---- the classes

class : (k : ℕ) → in_table class_table (2 ^ k) ≡ nth classes k
unfolding in_table class_of
class k = fun_ext (λ b. rw (table_at b) (bit_test classes k b))

pub token_class : in_table class_table 1 ≡ is_token
unfolding classes
token_class = class 0

pub blank_class : in_table class_table 2 ≡ is_blank
unfolding classes
blank_class = class 1

pub digit_class : in_table class_table 4 ≡ is_digit
unfolding classes
digit_class = class 2

pub visible_class : in_table class_table 8 ≡ is_visible
unfolding classes
visible_class = class 3

pub user_class : in_table class_table 16 ≡ is_user
unfolding classes
user_class = class 4

pub parameter_class : in_table class_table 32 ≡ is_parameter
unfolding classes
parameter_class = class 5

pub host_class : in_table class_table 64 ≡ is_host
unfolding classes
host_class = class 6

pub value_class : in_table class_table 128 ≡ is_value
unfolding classes
value_class = class 7

two : (b : ℕ) → hit (mask_of classes b) 3 ≡ (is_token b || is_blank b)
unfolding mask_of classes
two b =
    hit_step (is_token b) true _ 1 ∙ ap (λ (t : Bool). is_token b || t) (hit_step (is_blank b) true _ 0 ∙ rw hit_none (or-false (is_blank b)))

pub token_or_blank_class : in_table class_table 3 ≡ (λ b. is_token b || is_blank b)
unfolding in_table class_of
token_or_blank_class = fun_ext (λ b. rw (table_at b) (two b))
