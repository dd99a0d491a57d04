-- Pieces pushed one after the other are one piece, whether there is room or not.
use mathlib.Core.Path.{◌≡◌, refl, sym, ◌∙◌}
use mathlib.Core.Bool.{Bool, true, false, cond}
use mathlib.Core.List.{List, [], ◌∷◌, ◌++◌, append_assoc, append-nil}
use Prim.Native.Nat.{ℕ, ◌+◌, ◌-◌, ◌≤◌, ◌<◌, ◌/◌, ◌%◌}
use native.Mathlib.Omega.{arith}
use lib.Dec.{leb, ltb}
use lib.ListN.{length, take, drop, length-append}
use lib.Seq.{take-append_seam, length-take-le}
use borrow.Author.Tests.{le-leb, lt-leb, leb-true, leb-false}
use Rattle.std.specs.Prelude.{Option, None, Some, option_map, IfSome}
use Rattle.std.specs.Bool.{then_some}
use Rattle.std.proofs.lemmas.Bool.{lt-ltb, le-ltb}
use Rattle.sip.specs.Output.{digits, whole_numeral}
use Rattle.emit.specs.Put.{Wrote}
use Rattle.emit.specs.Texts.{pushed}
use Rattle.emit.proofs.Laws.{next_full, wrote_room}

module _ (n : ℕ) (t s : List ℕ) where
  pub pushed_room : length s ≤ n - length t → pushed n (Some t) s ≡ Some (t ++ s)
  unfolding pushed
  pushed_room h = rw (le-leb (length s) (n - length t) h)

  pub pushed_full : n - length t < length s → pushed n (Some t) s ≡ None
  unfolding pushed
  pushed_full h = rw (lt-leb (length s) (n - length t) h)

pub pushed_none : (n : ℕ) (s : List ℕ) → pushed n None s ≡ None
unfolding pushed
pushed_none n s = refl

pub pushed_nil : (n : ℕ) (o : Option (List ℕ)) → pushed n o [] ≡ o
pushed_nil n None = pushed_none n []
pushed_nil n (Some t) = pushed_room n t [] (omega arith) ∙ rw (append-nil t)

-- where the first piece has no room, both have none
some_append : (n : ℕ) (t a b : List ℕ) → pushed n (pushed n (Some t) a) b ≡ pushed n (Some t) (a ++ b)
some_append n t a b = go (leb (length a) (n - length t)) refl (leb (length b) (n - length (t ++ a))) refl
  where
    go : (u : Bool) → leb (length a) (n - length t) ≡ u → (v : Bool) → leb (length b) (n - length (t ++ a)) ≡ v
        → pushed n (pushed n (Some t) a) b ≡ pushed n (Some t) (a ++ b)
    go true e true f =
        let h : length a ≤ n - length t = leb-true (length a) (n - length t) e in
        let l : length b ≤ n - length (t ++ a) = leb-true (length b) (n - length (t ++ a)) f in
        let k : length (a ++ b) ≤ n - length t = rw length-append (omega (arith, rw length-append at l)) in
        rw (pushed_room n t a h, pushed_room n (t ++ a) b l, pushed_room n t (a ++ b) k, append_assoc)
    go true e false f =
        let h : length a ≤ n - length t = leb-true (length a) (n - length t) e in
        let l : n - length (t ++ a) < length b = leb-false (length b) (n - length (t ++ a)) f in
        let k : n - length t < length (a ++ b) = rw length-append (omega (arith, rw length-append at l)) in
        rw (pushed_room n t a h, pushed_full n (t ++ a) b l, pushed_full n t (a ++ b) k)
    go false e v f =
        let h : n - length t < length a = leb-false (length a) (n - length t) e in
        let k : n - length t < length (a ++ b) = rw length-append (omega arith) in
        rw (pushed_full n t a h, pushed_full n t (a ++ b) k, pushed_none n b)

pub pushed_append : (n : ℕ) (o : Option (List ℕ)) (a b : List ℕ) → pushed n (pushed n o a) b ≡ pushed n o (a ++ b)
pushed_append n None a b = rw (pushed_none n a, pushed_none n b, pushed_none n (a ++ b))
pushed_append n (Some t) a b = some_append n t a b

-- a text of at most n bytes, pushed in pieces from the start, is there
pub pushed_whole : (n : ℕ) (t : List ℕ) → length t ≤ n → pushed n (Some []) t ≡ Some t
pushed_whole n t h = pushed_room n [] t (omega arith)

-- the text is the first bytes of d, as many as it has
pub seen : (d : List ℕ) {l : Option ℕ} {at : ℕ} → l ≡ Some at → (o : Option (List ℕ)) → option_map (λ (n : ℕ). take n d) l ≡ o → o ≡ Some (take at d)
seen d e o v = sym v ∙ rw e

-- s is copied behind the first bytes of d
module _ {d : List ℕ} {at : ℕ} {s : List ℕ} {r : ℕ} {d' : List ℕ} (w : Wrote d at s r d') {n : ℕ} (l : length d ≡ n) (h : at + length s ≤ n) where
  fits : at + length s ≤ length d
  fits = omega arith

  before : length (take at d) ≡ at
  before = length-take-le at d (omega arith)

  both : length (take at d ++ s) ≡ at + length s
  both = rw (length-append, before)

  stand : take r d' ≡ take at d ++ s
  stand =
      let e : r ≡ length (take at d ++ s) = omega (arith, both, (wrote_room w fits).0) in
      let f : d' ≡ (take at d ++ s) ++ drop (at + length s) d = (wrote_room w fits).1 ∙ sym (append_assoc (take at d) s (drop (at + length s) d)) in
      rw (e, f) (take-append_seam (take at d ++ s) (drop (at + length s) d))

  pub copied_end : r ≤ n
  copied_end = omega (arith, (wrote_room w fits).0)

  pub copied : (o : Option (List ℕ)) → o ≡ Some (take at d) → Some (take r d') ≡ pushed n o s
  copied o e = rw (e, stand, pushed_room n (take at d) s (omega (arith, before)))

pub no_room : (d : List ℕ) (at n : ℕ) (s : List ℕ) → length d ≡ n → at ≤ n → n < at + length s → (o : Option (List ℕ)) → o ≡ Some (take at d) → None ≡ pushed n o s
no_room d at n s l k h o e = rw (e, pushed_full n (take at d) s (omega (arith, length-take-le at d (omega arith))))

-- a number has a digit
one_digit : (m : ℕ) → 1 ≤ length (whole_numeral m)
unfolding digits
one_digit m = go (ltb m 10)
  where
    go : (b : Bool) → 1 ≤ length (cond b ((48 + m) ∷ []) (digits 19 (m / 10) ++ ((48 + m % 10) ∷ [])))
    go true = omega arith
    go false = rw length-append (omega arith)

-- a number is put behind the first bytes of d: the place stays only where there is no room for it
module _ (m : ℕ) {d : List ℕ} {at : ℕ} {r : ℕ} {d' : List ℕ} (w : Wrote d at (whole_numeral m) r d') {n : ℕ} (l : length d ≡ n) (k : at ≤ n)
    {o : Option ℕ} (e : o ≡ then_some (ltb at r) r) where
  in_room : at + length (whole_numeral m) ≤ n → o ≡ Some r
  in_room h = e ∙ rw (lt-ltb at r (omega (arith, one_digit m, (wrote_room w (fits w l h)).0)))

  nowhere : n < at + length (whole_numeral m) → o ≡ None
  nowhere h = let z : r ≡ at = w.next ∙ next_full d at (whole_numeral m) (omega arith) in e ∙ rw (le-ltb at r (omega arith))

  pub number_end : IfSome o (λ j. j ≤ n)
  number_end = go (leb (at + length (whole_numeral m)) n) refl
    where
      go : (b : Bool) → leb (at + length (whole_numeral m)) n ≡ b → IfSome o (λ j. j ≤ n)
      go true q = let h = leb-true (at + length (whole_numeral m)) n q in rw (in_room h) (copied_end w l h)
      go false q = rw (nowhere (leb-false (at + length (whole_numeral m)) n q)) tt

  pub number_pushed : (v : Option (List ℕ)) → v ≡ Some (take at d) → option_map (λ j. take j d') o ≡ pushed n v (whole_numeral m)
  number_pushed v f = go (leb (at + length (whole_numeral m)) n) refl
    where
      go : (b : Bool) → leb (at + length (whole_numeral m)) n ≡ b → option_map (λ j. take j d') o ≡ pushed n v (whole_numeral m)
      go true q = let h = leb-true (at + length (whole_numeral m)) n q in rw (in_room h) (copied w l h v f)
      go false q = let h = leb-false (at + length (whole_numeral m)) n q in rw (nowhere h) (no_room d at n (whole_numeral m) l k h v f)
