-- Escapes and quoted strings: a reader finds at the front of a text exactly what the grammar derives there.
use mathlib.Core.Path.{◌≡◌, refl}
use mathlib.Core.Bool.{Bool, true, false, cond}
use mathlib.Core.List.{List, [], ◌∷◌, ◌++◌}
use Prim.Native.Nat.{ℕ, suc, ◌≤◌}
use native.Mathlib.Omega.{arith}
use lib.Dec.{eqb}
use lib.ListN.{length}
use borrow.Author.Tests.{ne_eqb, eqb-true, eqb-false}
use Rattle.octets.specs.Classes.{is_hex}
use Rattle.octets.specs.Scans.{escape, run_escaped, more, closes, quoted}
use Rattle.sip.specs.Grammar.{BytesOrEscapes, no_bytes, one_byte, one_escape, QuotedRest, close_quote, qdtext, quoted_pair, QuotedString}
use Rattle.sip.specs.Grammar.{quoted_string}
use Rattle.sip.proofs.Tests.{and_left, and_right}

-- ---- escapes

pub record EscapedEnds (p : ℕ → Bool) (r : List ℕ) : Type 0 where
  pub ends : run_escaped p 0 r ≡ 0

pub data EscapedView (p : ℕ → Bool) : List ℕ → ℕ → Type 0 where
  went : {x r : List ℕ} → BytesOrEscapes p x → EscapedEnds p r → EscapedView p (x ++ r) (length x)

module _ (p : ℕ → Bool) where
  pub escaped_end : EscapedEnds p []
  unfolding run_escaped
  escaped_end = record { ends = refl }

  pub escaped_stop : {b : ℕ} {s : List ℕ} → p b ≡ false → escape (b ∷ s) ≡ false → EscapedEnds p (b ∷ s)
  unfolding run_escaped
  escaped_stop e q = record { ends = rw (e, q) }

  view_byte : (b : ℕ) (s : List ℕ) (n : ℕ) → p b ≡ true → EscapedView p s n → EscapedView p (b ∷ s) (suc n)
  view_byte b _ _ e (went d r) = went (one_byte e d) r

  view_escape : (b h l : ℕ) (s : List ℕ) (n : ℕ) → b ≡ 37 → is_hex h ≡ true → is_hex l ≡ true → EscapedView p s n → EscapedView p (b ∷ h ∷ l ∷ s) (suc (suc (suc n)))
  view_escape b h l _ _ q e f (went d r) = rw q (went (one_escape e f d) r)

  view_none : (b : ℕ) (s : List ℕ) → p b ≡ false → escape (b ∷ s) ≡ false → EscapedView p (b ∷ s) 0
  view_none b s e q = went {x = []} no_bytes (escaped_stop e q)

  view_short : (b : ℕ) (s : List ℕ) (n : ℕ) → escape (b ∷ s) ≡ false → EscapedView p s (run_escaped p 0 s)
      → EscapedView p (b ∷ s) (cond (p b) (suc (run_escaped p 0 s)) (cond (escape (b ∷ s)) n 0))
  view_short b s n f w = go (p b) refl
    where
      go : (t : Bool) → p b ≡ t → EscapedView p (b ∷ s) (cond t (suc (run_escaped p 0 s)) (cond (escape (b ∷ s)) n 0))
      go true e = view_byte b s (run_escaped p 0 s) e w
      go false e = rw f (view_none b s e f)

  view_long : (b h l : ℕ) (s : List ℕ) → EscapedView p (h ∷ l ∷ s) (run_escaped p 0 (h ∷ l ∷ s)) → EscapedView p s (run_escaped p 0 s)
      → EscapedView p (b ∷ h ∷ l ∷ s) (cond (p b) (suc (run_escaped p 0 (h ∷ l ∷ s))) (cond (escape (b ∷ h ∷ l ∷ s)) (suc (suc (suc (run_escaped p 0 s)))) 0))
  unfolding escape
  view_long b h l s w z = go (p b) (escape (b ∷ h ∷ l ∷ s)) refl refl
    where
      go : (t u : Bool) → p b ≡ t → escape (b ∷ h ∷ l ∷ s) ≡ u
          → EscapedView p (b ∷ h ∷ l ∷ s) (cond t (suc (run_escaped p 0 (h ∷ l ∷ s))) (cond u (suc (suc (suc (run_escaped p 0 s)))) 0))
      go true u e f = view_byte b (h ∷ l ∷ s) (run_escaped p 0 (h ∷ l ∷ s)) e w
      go false true e f =
          view_escape b h l s (run_escaped p 0 s) (eqb-true b 37 (and_left _ _ f)) (and_left _ (is_hex l) (and_right (eqb b 37) _ f))
          (and_right (is_hex h) _ (and_right (eqb b 37) _ f)) z
      go false false e f = view_none b (h ∷ l ∷ s) e f

  pub escaped_view : (s : List ℕ) → EscapedView p s (run_escaped p 0 s)
  unfolding run_escaped
  escaped_view [] = went {x = []} no_bytes escaped_end
  escaped_view (b ∷ []) = view_short b [] 0 refl (escaped_view [])
  escaped_view (b ∷ h ∷ []) = view_short b (h ∷ []) 0 refl (escaped_view (h ∷ []))
  escaped_view (b ∷ h ∷ l ∷ s) = view_long b h l s (escaped_view (h ∷ l ∷ s)) (escaped_view s)

  pub escaped_of : {x r : List ℕ} → p 37 ≡ false → BytesOrEscapes p x → EscapedEnds p r → run_escaped p 0 (x ++ r) ≡ length x
  unfolding run_escaped
  escaped_of z no_bytes g = g.ends
  escaped_of z (one_byte e d) g = rw (e, escaped_of z d g)
  escaped_of z (one_escape e f d) g = rw (z, e, f, escaped_of z d g)

-- ---- quoted strings

pub data QuotedView : List ℕ → ℕ → Type 0 where
  quoted_here : {q : List ℕ} → QuotedString q → (r : List ℕ) → QuotedView (q ++ r) (length q)
  not_quoted : {s : List ℕ} → QuotedView s 0

data ClosesView : List ℕ → ℕ → Type 0 where
  closed_here : {q : List ℕ} → QuotedRest q → (r : List ℕ) → ClosesView (q ++ r) (length q)
  not_closed : {s : List ℕ} → ClosesView s 0

more_length : {q : List ℕ} → QuotedRest q → more (length q) ≡ suc (length q)
more_length close_quote = refl
more_length (qdtext e f d) = refl
more_length (quoted_pair d) = refl

view_plain : (b : ℕ) (s : List ℕ) (n : ℕ) → (b ≡ 34 → ⊥) → (b ≡ 92 → ⊥) → ClosesView s n → ClosesView (b ∷ s) (more n)
view_plain b _ _ e f (closed_here d r) = rw (more_length d) (closed_here (qdtext e f d) r)
view_plain b _ _ e f not_closed = not_closed

view_slash : (b c : ℕ) (s : List ℕ) (n : ℕ) → b ≡ 92 → ClosesView s n → ClosesView (b ∷ c ∷ s) (more (more n))
view_slash b c _ _ e (closed_here d r) = rw (more_length d, e) (closed_here (quoted_pair d) r)
view_slash b c _ _ e not_closed = not_closed

view_closes : (b : ℕ) (s : List ℕ) (n : ℕ) → (b ≡ 92 → ClosesView (b ∷ s) n) → ClosesView s (closes false s)
    → ClosesView (b ∷ s) (cond (eqb b 34) 1 (cond (eqb b 92) n (more (closes false s))))
view_closes b s n w z = go (eqb b 34) (eqb b 92) refl refl
  where
    go : (t u : Bool) → eqb b 34 ≡ t → eqb b 92 ≡ u → ClosesView (b ∷ s) (cond t 1 (cond u n (more (closes false s))))
    go true u e f = rw (eqb-true b 34 e) (closed_here close_quote s)
    go false true e f = w (eqb-true b 92 f)
    go false false e f = view_plain b s (closes false s) (eqb-false b 34 e) (eqb-false b 92 f) z

closes_view : (s : List ℕ) → ClosesView s (closes false s)
unfolding closes
closes_view [] = not_closed
closes_view (b ∷ []) = view_closes b [] 0 (λ e. not_closed) (closes_view [])
closes_view (b ∷ c ∷ s) = view_closes b (c ∷ s) _ (λ e. view_slash b c s (closes false s) e (closes_view s)) (closes_view (c ∷ s))

pub quoted_some : {v : List ℕ} → QuotedString v → 1 ≤ length v
quoted_some (quoted_string d) = omega arith

pub quoted_view : (s : List ℕ) → QuotedView s (quoted s)
unfolding quoted
quoted_view [] = not_quoted
quoted_view (b ∷ s) = go (eqb b 34) refl
  where
    here : (s : List ℕ) (n : ℕ) → ClosesView s n → QuotedView (34 ∷ s) (more n)
    here _ _ (closed_here d r) = rw (more_length d) (quoted_here (quoted_string d) r)
    here _ _ not_closed = not_quoted

    go : (t : Bool) → eqb b 34 ≡ t → QuotedView (b ∷ s) (cond t (more (closes false s)) 0)
    go true e = rw (eqb-true b 34 e) (here s (closes false s) (closes_view s))
    go false e = not_quoted

closes_of : {q : List ℕ} → QuotedRest q → (r : List ℕ) → closes false (q ++ r) ≡ length q
unfolding closes
closes_of close_quote r = refl
closes_of (qdtext {b} e f d) r = rw (ne_eqb b 34 e, ne_eqb b 92 f, closes_of d r) (more_length d)
closes_of (quoted_pair d) r = rw (closes_of d r, more_length d)

pub quoted_of : {q : List ℕ} → QuotedString q → (r : List ℕ) → quoted (q ++ r) ≡ length q
unfolding quoted
quoted_of (quoted_string d) r = rw (closes_of d r) (more_length d)
