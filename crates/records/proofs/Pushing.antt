-- The report is put together of texts that are pushed one after the other.
use mathlib.Core.Path.{◌≡◌, refl, sym, ap, ◌∙◌}
use mathlib.Core.List.{List, [], ◌∷◌, ◌++◌, append_assoc}
use Prim.Native.Nat.{ℕ, zero, suc, ◌+◌, ◌-◌, ◌*◌, ◌/◌, ◌^◌, ◌≤◌, ◌<◌}
use native.Mathlib.Omega.{arith}
use lib.ListN.{length, take, drop, get_or, length-drop}
use lib.Seq.{drop-cons, take_all}
use borrow.Author.Tests.{ne_eqb}
use Rattle.std.proofs.Common.{Fits, w32}
use Rattle.std.specs.List.{sum}
use Rattle.std.proofs.lemmas.List.Sums.{sum_by-cons}
use Rattle.std.specs.Prelude.{Option, Some}
use Rattle.sip.specs.Output.{whole_numeral, spaced}
use Rattle.emit.specs.Texts.{pushed}
use Rattle.emit.proofs.Pushes.{pushed_append, pushed_whole}
use Rattle.records.specs.Report.{pair, pairs, rate, line_text, printed}
use Rattle.records.specs.Running.{State, total, row_line, shares_text, report_of}
use Rattle.records.proofs.Lengths.{report_room}

-- ---- a pair

pub pair_none : (reason n : ℕ) → n ≡ 0 → pair reason n ≡ []
unfolding pair
pair_none reason n e = rw e

pub pair_some : (reason n : ℕ) → (n ≡ 0 → ⊥) → pair reason n ≡ spaced reason ++ 61 ∷ whole_numeral n
unfolding pair
pair_some reason n e = rw (ne_eqb n 0 e)

-- ---- all pairs

module _ (ns : List ℕ) (i : ℕ) where
  pub pairs_next : i < length ns → pairs (1 + i) (drop i ns) ≡ pair (1 + i) (get_or ns i 0) ++ pairs (1 + (i + 1)) (drop (i + 1) ns)
  unfolding pairs
  pairs_next h =
      let z : suc (1 + i) ≡ 1 + (i + 1) = omega arith in
      let y : suc i ≡ i + 1 = omega arith in
      ap (pairs (1 + i)) (drop-cons ns i 0 h)
      ∙ ap (λ (k : ℕ). pair (1 + i) (get_or ns i 0) ++ pairs k (drop (suc i) ns)) z
      ∙ ap (λ (k : ℕ). pair (1 + i) (get_or ns i 0) ++ pairs (1 + (i + 1)) (drop k ns)) y

  pub pairs_done : length ns ≤ i → pairs (1 + i) (drop i ns) ≡ []
  unfolding pairs
  pairs_done h = go ns i h
    where
      go : (s : List ℕ) (k : ℕ) → length s ≤ k → pairs (1 + i) (drop k s) ≡ []
      go [] zero l = refl
      go [] (suc k) l = refl
      go (b ∷ s) zero l = absurd (omega arith)
      go (b ∷ s) (suc k) l = go s k (omega arith)

-- ---- sums

pub sum_total : (ns : List ℕ) → sum ns ≡ total ns
unfolding total
sum_total [] = refl
sum_total (n ∷ ns) = sum_by-cons (λ (x : ℕ). x) n ns ∙ rw (sum_total ns)

pub total_most : (ns : List ℕ) → ((i : ℕ) → Fits w32 (get_or ns i 0)) → total ns ≤ length ns * 4294967295
unfolding total
total_most [] f = omega arith
total_most (n ∷ ns) f =
    let h : n < 2 ^ 32 = (f 0).fits in
    omega (arith, total_most ns (λ i. f (suc i)))

pub total_first : (ns : List ℕ) → get_or ns 0 0 ≤ total ns
unfolding total
total_first [] = omega arith
total_first (n ∷ ns) = omega arith

-- ---- the rate

pub none_came : (n all : ℕ) → all ≡ 0 → 0 ≡ rate n all
unfolding rate
none_came n all l = sym (rw l)

pub some_came : (n all : ℕ) → (all ≡ 0 → ⊥) → 10000 * n / all ≡ rate n all
unfolding rate
some_came n all l = sym (rw (ne_eqb all 0 l))

-- ---- a line

pub row_pushed : (o : Option (List ℕ)) (row : List ℕ) {came accepted : ℕ} → came ≡ sum row → accepted ≡ get_or row 0 0 → {a b c : Option (List ℕ)}
    → a ≡ pushed 4096 o (shares_text came accepted) → b ≡ pushed 4096 a (pairs 1 (take (length row - 1) (drop 1 row))) → c ≡ pushed 4096 b (10 ∷ [])
    → c ≡ pushed 4096 o (line_text (row_line row))
unfolding line_text row_line
row_pushed o row {came} {accepted} hc ha {a} {b} p q r =
    let x : List ℕ = shares_text came accepted in
    let y : List ℕ = pairs 1 (drop 1 row) in
    let t : came ≡ total row = hc ∙ sum_total row in
    let e : x ++ (y ++ 10 ∷ []) ≡ line_text (row_line row) = rw (t, ha) in
    let whole : take (length row - 1) (drop 1 row) ≡ drop 1 row = take_all (length row - 1) (drop 1 row) (omega (arith, length-drop 1 row)) in
    let f : b ≡ pushed 4096 o (x ++ y) = q ∙ rw whole (ap (λ (z : Option (List ℕ)). pushed 4096 z y) p) ∙ pushed_append 4096 o x y in
    r ∙ ap (λ (z : Option (List ℕ)). pushed 4096 z (10 ∷ [])) f ∙ pushed_append 4096 o (x ++ y) (10 ∷ [])
    ∙ ap (pushed 4096 o) (append_assoc x y (10 ∷ []) ∙ e)

-- ---- the whole

pub report_pushed : (st : State) → pushed 4096 (Some []) (printed (report_of st)) ≡ Some (printed (report_of st))
report_pushed st = pushed_whole 4096 (printed (report_of st)) (report_room st)
