-- Display names: `display` reads exactly what the grammar derives before `<`, and stops at the colon of a bare URI.
use mathlib.Core.Path.{◌≡◌, refl, ◌∙◌, sym, ap}
use mathlib.Core.Bool.{Bool, true, false, cond, ◌||◌}
use mathlib.Core.List.{List, [], ◌∷◌, ◌++◌, append_assoc}
use Prim.Native.Nat.{ℕ, suc, ◌+◌, ◌≤◌}
use native.Mathlib.Omega.{arith}
use lib.Dec.{eqb}
use lib.ListN.{length, drop, length-append}
use lib.Seq.{drop-append_seam}
use borrow.Author.Tests.{ne_eqb}
use Rattle.octets.specs.Classes.{is_blank, is_token}
use Rattle.octets.specs.Scans.{run, all, quoted}
use Rattle.octets.proofs.Runs.{run_nil, run_no, run_yes}
use Rattle.sip.specs.Values.{display}
use Rattle.sip.specs.Grammar.{Each, each_end, each_byte, QuotedString, Token, Words, last_word, word_and, DisplayName, no_name}
use Rattle.sip.specs.Grammar.{quoted_name, words_name}
use Rattle.sip.proofs.Tests.{never, all_first, all_others}
use Rattle.sip.proofs.Grammar.Bytes.{Ends, RunView, all_of, each_all, ran, run_of, run_view, some_no, stop}
use Rattle.sip.proofs.Grammar.Separators.{blank_token}
use Rattle.sip.proofs.Grammar.Escapes.{QuotedView, not_quoted, quoted_here, quoted_of, quoted_some, quoted_view}

-- ---- display names

-- a byte of tokens with blanks between
abbrev named : ℕ → Bool
named b = is_token b || is_blank b

data Spaced : List ℕ → Type 0 where
  blanks_only : {b : List ℕ} → Each is_blank b → Spaced b
  then_words : {b w c : List ℕ} → Each is_blank b → Words w → Each is_blank c → Spaced (b ++ (w ++ c))

data NameView : List ℕ → Type 0 where
  name_here : {w b : List ℕ} → Words w → Each is_blank b → NameView (w ++ b)

one_token : (c : ℕ) → is_token c ≡ true → Token (c ∷ [])
one_token c e = record { some = omega arith; bytes = each_byte e each_end }

token_cons : (c : ℕ) (t : List ℕ) → is_token c ≡ true → Token t → Token (c ∷ t)
token_cons c t e h = record { some = omega arith; bytes = each_byte e h.bytes }

words_cons : (c : ℕ) (w : List ℕ) → is_token c ≡ true → Words w → Words (c ∷ w)
words_cons c _ e (last_word {t} h) = last_word (token_cons c t e h)
words_cons c _ e (word_and {t} h b l d) = word_and (token_cons c t e h) b l d

push_token : (c : ℕ) (x : List ℕ) → is_token c ≡ true → Spaced x → NameView (c ∷ x)
push_token c _ e (blanks_only b) = name_here (last_word (one_token c e)) b
push_token c _ e (then_words {b = []} {w} b d f) = name_here (words_cons c w e d) f
push_token c _ e (then_words {b = a ∷ x} {w} {c = y} b d f) =
    let s : (c ∷ ((a ∷ x) ++ w)) ++ y ≡ c ∷ ((a ∷ x) ++ (w ++ y)) = ap (λ (l : List ℕ). c ∷ l) (append_assoc (a ∷ x) w y) in
    rw (← s) (name_here (word_and (one_token c e) b (omega arith) d) f)

name_spaced : (x : List ℕ) → NameView x → Spaced x
name_spaced _ (name_here d f) = then_words {b = []} each_end d f

push_blank : (c : ℕ) (x : List ℕ) → is_blank c ≡ true → Spaced x → Spaced (c ∷ x)
push_blank c _ e (blanks_only f) = blanks_only (each_byte e f)
push_blank c _ e (then_words f d g) = then_words (each_byte e f) d g

spaced : (x : List ℕ) → all named x ≡ true → Spaced x
spaced [] e = blanks_only each_end
spaced (c ∷ x) e = go (is_token c) refl (is_blank c) refl (all_first named c x e) (spaced x (all_others named c x e))
  where
    go : (t : Bool) → is_token c ≡ t → (u : Bool) → is_blank c ≡ u → (is_token c || is_blank c) ≡ true → Spaced x → Spaced (c ∷ x)
    go true p u q h s = name_spaced (c ∷ x) (push_token c x p s)
    go false p true q h s = push_blank c x q s
    go false p false q h s = let z : false ≡ true = rw (p, q) at h in never (cc)

pub data DisplayView : List ℕ → ℕ → Type 0 where
  display_here : {d : List ℕ} → DisplayName d → (r : List ℕ) → DisplayView (d ++ r) (length d)

display_words : (s : List ℕ) → DisplayView s (cond (eqb (run is_token s) 0) 0 (run named s))
display_words [] = rw (run_nil is_token) (display_here no_name [])
display_words (c ∷ s) = go (is_token c) refl
  where
    names : (x r : List ℕ) → NameView x → DisplayView (x ++ r) (length x)
    names _ r (name_here d f) = display_here (words_name d f) r

    then : (s : List ℕ) (n : ℕ) → is_token c ≡ true → RunView named s n → DisplayView (c ∷ s) (suc n)
    then _ _ e (ran {x} {r} f g) = names (c ∷ x) r (push_token c x e (spaced x (all_of f)))

    go : (t : Bool) → is_token c ≡ t → DisplayView (c ∷ s) (cond (eqb (run is_token (c ∷ s)) 0) 0 (run named (c ∷ s)))
    go true e =
        let h : named c ≡ true = rw e in
        rw (run_yes is_token c s e, run_yes named c s h, some_no (suc (run is_token s)) (omega arith)) (then s (run named s) e (run_view named s))
    go false e = rw (run_no is_token c s e) (display_here no_name (c ∷ s))

pub display_view : (s : List ℕ) → DisplayView s (display s)
unfolding display
display_view s = go s (quoted s) (quoted_view s)
  where
    blanks : {q : List ℕ} → QuotedString q → (r : List ℕ) (n : ℕ) → RunView is_blank r n → DisplayView (q ++ r) (length q + n)
    blanks {q} d _ _ (ran {x} {r} e f) = rw (← length-append q x, ← append_assoc q x r) (display_here (quoted_name d e) r)

    go : (s : List ℕ) (q : ℕ) → QuotedView s q
        → DisplayView s (cond (eqb q 0) (cond (eqb (run is_token s) 0) 0 (run named s)) (q + run is_blank (drop q s)))
    go _ _ (quoted_here {q} d r) =
        rw (some_no (length q) (quoted_some d), drop-append_seam q r) (blanks d r (run is_blank r) (run_view is_blank r))
    go s _ not_quoted = display_words s

-- a byte that is no part of a display name: `<`, or the colon of a scheme
pub record Ending (b : ℕ) : Type 0 where
  pub no_token : is_token b ≡ false
  pub no_blank : is_blank b ≡ false
  pub no_quote : b ≡ 34 → ⊥

quoted_none : (b : ℕ) (s : List ℕ) → (b ≡ 34 → ⊥) → quoted (b ∷ s) ≡ 0
unfolding quoted
quoted_none b s n = rw (ne_eqb b 34 n)

all_append : (p : ℕ → Bool) (x y : List ℕ) → all p x ≡ true → all p y ≡ true → all p (x ++ y) ≡ true
unfolding all
all_append p [] y e f = f
all_append p (b ∷ x) y e f = rw (all_first p b x e, all_append p x y (all_others p b x e) f)

token_named : (x : List ℕ) → all is_token x ≡ true → all named x ≡ true
unfolding all
token_named [] e = refl
token_named (b ∷ x) e = rw (all_first is_token b x e, token_named x (all_others is_token b x e))

blank_named : (x : List ℕ) → all is_blank x ≡ true → all named x ≡ true
unfolding all
blank_named [] e = refl
blank_named (b ∷ x) e =
    rw (blank_token b (all_first is_blank b x e), all_first is_blank b x e, blank_named x (all_others is_blank b x e))

words_named : {w : List ℕ} → Words w → all named w ≡ true
words_named (last_word {t} h) = token_named t (all_of h.bytes)
words_named (word_and {t} {b} {s} h e l d) = all_append named t (b ++ s) (token_named t (all_of h.bytes)) (all_append named b s (blank_named b (all_of e)) (words_named d))

-- a token byte stands first
token_first : (t r : List ℕ) → Token t → (quoted (t ++ r) ≡ 0) × (eqb (run is_token (t ++ r)) 0 ≡ false)
unfolding is_token
token_first [] r h = let z : 1 ≤ 0 = h.some in absurd (omega arith)
token_first (c ∷ t) r h =
    let e : is_token c ≡ true = all_first is_token c t (all_of h.bytes) in (
      quoted_none c (t ++ r) (λ q. let z : true ≡ false = sym e ∙ ap is_token q in never (cc)),
      rw (run_yes is_token c (t ++ r) e) (some_no (suc (run is_token (t ++ r))) (omega arith)),
    )

words_first : {w : List ℕ} → Words w → (r : List ℕ) → (quoted (w ++ r) ≡ 0) × (eqb (run is_token (w ++ r)) 0 ≡ false)
words_first (last_word {t} h) r = token_first t r h
words_first (word_and {t} {b} {s} h e l d) r = rw (append_assoc t (b ++ s) r) (token_first t ((b ++ s) ++ r) h)

pub display_of : {d : List ℕ} → DisplayName d → (b : ℕ) (r : List ℕ) → Ending b → display (d ++ (b ∷ r)) ≡ length d
unfolding display
display_of no_name b r h = rw (quoted_none b r h.no_quote, run_no is_token b r h.no_token)
display_of (quoted_name {q} {b = x} d e) b r h =
    let f : Ends is_blank (b ∷ r) = stop h.no_blank in
    rw (append_assoc q x (b ∷ r), quoted_of d (x ++ (b ∷ r)), some_no (length q) (quoted_some d), drop-append_seam q (x ++ (b ∷ r)), run_of e f, length-append q x)
display_of (words_name {w} {b = x} d e) b r h =
    let s : List ℕ = x ++ (b ∷ r) in
    let (y, z) = words_first d s in
    let a : Each named (w ++ x) = each_all (all_append named w x (words_named d) (blank_named x (all_of e))) in
    let n : named b ≡ false = rw (h.no_token, h.no_blank) in
    let m : run named (w ++ s) ≡ length (w ++ x) = ap (run named) (sym (append_assoc w x (b ∷ r))) ∙ run_of a (stop n) in
    rw (append_assoc w x (b ∷ r), y, z) m

pub ending_bracket : Ending 60
unfolding is_token is_blank
ending_bracket = record { no_token = refl; no_blank = refl; no_quote = λ q. omega arith }

pub ending_colon : Ending 58
unfolding is_token is_blank
ending_colon = record { no_token = refl; no_blank = refl; no_quote = λ q. omega arith }
