-- What the steps of encoding answer: the country code, the two first octets, and the pairs of digits written behind them.
use mathlib.Core.Path.{◌≡◌, refl, sym, ap, ◌∙◌}
use mathlib.Core.Bool.{Bool, true, false, cond}
use mathlib.Core.List.{List, [], ◌∷◌, ◌++◌, map, append_assoc, append-nil}
use Prim.Native.Nat.{ℕ, zero, min, suc, ◌+◌, ◌-◌, ◌*◌, ◌%◌, ◌≤◌, ◌<◌}
use native.Mathlib.Omega.{arith}
use lib.ListN.{length, take, drop, get_or, length-append, length-map}
use Rattle.octets.specs.Classes.{bit, is_digit}
use Rattle.octets.specs.Scans.{all, same}
use Rattle.sip.proofs.Tests.{all_first, all_others}
use Rattle.sip.specs.Values.{is_global}
use Rattle.isup.specs.Fields.{packed, octets}
use Rattle.isup.specs.Forward.{starts_with, is_national, sent, signal, fields_for, encoded}
use Rattle.isup.specs.Steps.{second_for}
use Rattle.isup.specs.Views.{nature_number, is_national_nature}
use Rattle.isup.specs.declared.fields.Nature.{Nature}
use Rattle.isup.specs.declared.fields.Nature.TheVariants.{National, International}
use Rattle.isup.proofs.Numbers.{global_plus, sent_digits, sent_length}
use Rattle.isup.proofs.Signals.{digit_least as least, digit_most, packed_count}

-- ---- nature of address

module _ (code ds : List ℕ) where
  pub away : (home : Bool) → home ≡ false → home ≡ is_national code home ds
  unfolding is_national
  away home q = rw q

  pub at_home : (home : Bool) → home ≡ true → {t : List ℕ} → t ≡ take (length code) ds → {r : Bool} → r ≡ same code t → r ≡ is_national code home ds
  unfolding is_national starts_with
  at_home home q e f = rw q (f ∙ rw e)

-- ---- pairs

pub digit_least : (ds : List ℕ) (i : ℕ) → all is_digit ds ≡ true → i < length ds → 48 ≤ get_or ds i 0
digit_least [] i e h = absurd (omega arith)
digit_least (a ∷ ds) zero e h = least a (all_first is_digit a ds e)
digit_least (a ∷ ds) (suc i) e h = digit_least ds i (all_others is_digit a ds e) (omega arith)

pub digit_at : (ds : List ℕ) (i : ℕ) → all is_digit ds ≡ true → get_or ds i 0 ≤ 57
digit_at [] i e = omega arith
digit_at (a ∷ ds) zero e = digit_most a (all_first is_digit a ds e)
digit_at (a ∷ ds) (suc i) e = digit_at ds i (all_others is_digit a ds e)

pub pair_product : (ds : List ℕ) → all is_digit ds ≡ true → 16 * (get_or ds 1 0 - 48) < 256
pair_product ds e = omega (arith, digit_at ds 1 e)

pub pair_sum : (ds : List ℕ) → all is_digit ds ≡ true → get_or ds 0 0 - 48 + 16 * (get_or ds 1 0 - 48) < 256
pair_sum ds e = omega (arith, digit_at ds 0 e, digit_at ds 1 e)

pub one_packed : (ds : List ℕ) → 1 ≤ length ds → length ds < 2 → packed (map signal ds) ≡ (get_or ds 0 0 - 48) ∷ []
unfolding packed
one_packed [] l h = absurd (omega arith)
one_packed (a ∷ []) l h = let z : a - 48 + 16 * 0 ≡ a - 48 = omega arith in rw z
one_packed (a ∷ b ∷ ds) l h = absurd (omega arith)

pub two_packed : (ds : List ℕ) → 2 ≤ length ds → length ds < 3 → packed (map signal ds) ≡ (get_or ds 0 0 - 48 + 16 * (get_or ds 1 0 - 48)) ∷ []
unfolding packed
two_packed [] l h = absurd (omega arith)
two_packed (a ∷ []) l h = absurd (omega arith)
two_packed (a ∷ b ∷ []) l h = refl
two_packed (a ∷ b ∷ c ∷ ds) l h = absurd (omega arith)

-- two digits in front, or all that there are
pub packed_front : (x ds : List ℕ) → length x ≡ min 2 (length (x ++ ds)) → packed (map signal (x ++ ds)) ≡ packed (map signal x) ++ packed (map signal ds)
unfolding packed
packed_front [] [] h = refl
packed_front [] (a ∷ ds) h = absurd (omega arith)
packed_front (a ∷ []) [] h = refl
packed_front (a ∷ []) (b ∷ ds) h = absurd (omega arith)
packed_front (a ∷ b ∷ []) ds h = refl
packed_front (a ∷ b ∷ c ∷ x) ds h = absurd (omega (arith, length-append x ds))

all_of : (p : ℕ → Bool) (x y : List ℕ) → all p (x ++ y) ≡ true → (all p x ≡ true) × (all p y ≡ true)
unfolding all
all_of p [] y e = (refl, e)
all_of p (b ∷ x) y e =
    let r = all_of p x y (all_others p b (x ++ y) e) in
    (rw (all_first p b (x ++ y) e, r.0), r.1)

-- ---- the octets

-- what is left to pack stands behind what is packed
pub record Packing (all_of_them ds items left : List ℕ) : Type 0 where
  pub stands : items ++ packed (map signal left) ≡ all_of_them ++ packed (map signal ds)
  pub digits : all is_digit left ≡ true

pub packing_begin : (o ds : List ℕ) {left : List ℕ} → left ≡ ds → all is_digit ds ≡ true → Packing o ds o left
packing_begin o ds e d = record { stands = rw e; digits = rw e d }

module _ (o ds items left : List ℕ) (p : Packing o ds items left) where
  pub all_packed : length left ≡ 0 → items ≡ o ++ packed (map signal ds)
  unfolding packed
  all_packed z = go left refl
    where
      go : (s : List ℕ) → left ≡ s → items ≡ o ++ packed (map signal ds)
      go [] q = sym (append-nil items) ∙ rw q at p.stands
      go (a ∷ s) q = absurd (omega (arith, ap length q))

  module _ (x after : List ℕ) (e : left ≡ x ++ after) {size : ℕ} (two : size ≡ 2) (h : length x ≡ min size (length left)) where
    pub pair_digits : all is_digit x ≡ true
    pair_digits = (all_of is_digit x after (rw e at p.digits)).0

    pub pair_room : length o ≡ 2 → length ds ≤ 15 → 0 < length left → length items < 10
    pair_room k l m =
        omega (
          arith,
          ap length p.stands,
          length-append items (packed (map signal left)),
          length-append o (packed (map signal ds)),
          packed_count left,
          packed_count ds,
        )

    pub packing_next : {d : ℕ} → packed (map signal x) ≡ d ∷ [] → {others : List ℕ} → others ≡ items ++ d ∷ [] → Packing o ds others after
    packing_next {d} q f =
        let g : length x ≡ min 2 (length (x ++ after)) = h ∙ rw (two, e) in
        let s : packed (map signal left) ≡ d ∷ packed (map signal after) = rw e (packed_front x after g ∙ rw q) in
        record {
          stands = rw (f, append_assoc items (d ∷ []) (packed (map signal after)), ← s) p.stands;
          digits = (all_of is_digit x after (rw e at p.digits)).1;
        }

-- ---- the parameter

second_is : (w : Bool) → 128 * 0 + 16 * 1 + 4 * bit w + 3 ≡ second_for w
second_is true = refl
second_is false = refl

nature_is : (x : Nature) → nature_number x ≡ cond (is_national_nature x) 3 4
nature_is National = refl
nature_is International = refl

module _ (code : List ℕ) (number : List ℕ) (g : is_global number ≡ true) {ds : List ℕ} (hd : ds ≡ drop 1 number) (n : Bool) {t : List ℕ}
    (ht : t ≡ sent code n ds) where
  pub are_digits : all is_digit t ≡ true
  are_digits = rw (ht, hd) (sent_digits code n (drop 1 number) (global_plus number g).digits)

  pub are_few : length t ≤ 15
  are_few = rw (ht, hd) (sent_length code n (drop 1 number) (global_plus number g).few)

module _ (code number : List ℕ) {ds : List ℕ} (hd : ds ≡ drop 1 number) (home w : Bool) (x : Nature) (hx : is_national_nature x ≡ is_national code home ds)
    {t : List ℕ} (ht : t ≡ sent code (is_national_nature x) ds) where
  pub octets_are : {a b : ℕ} → a ≡ 128 * (length t % 2) + nature_number x → b ≡ second_for w → {o p q r : List ℕ} → o ≡ [] → p ≡ o ++ a ∷ []
      → q ≡ p ++ b ∷ [] → r ≡ q ++ packed (map signal t) → r ≡ encoded code home w number
  unfolding encoded octets fields_for
  octets_are {a} {b} ha hb eo ep eq er =
      let y : length (map signal t) ≡ length t = length-map t signal in
      let os : a ∷ b ∷ packed (map signal t) ≡ encoded code home w number = rw (← hd, ← hx, ← ht, y, second_is w, ← hb, ← nature_is x, ← ha) in
      er ∙ rw (eq, ep, eo) os
