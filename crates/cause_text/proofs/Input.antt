-- What stands on standard input: the line by its last byte, what is printed by the line.
use mathlib.Core.Path.{◌≡◌, refl, sym, ◌∙◌}
use mathlib.Core.List.{List, [], ◌∷◌}
use Prim.Native.Nat.{ℕ, suc, ◌+◌, ◌-◌, ◌≤◌, ◌<◌}
use native.Mathlib.Omega.{arith}
use lib.ListN.{length, take, get_or}
use borrow.Author.Tests.{ne_eqb, eqb-true}
use lib.Dec.{eqb}
use lib.Pointwise.{pointwise}
use denote.Bor.{Bor}
use mathlib.Core.Bool.{Bool, true, false, and-true}
use Rattle.std.specs.Prelude.{Option, Some, None, MatchOption, unwrap_or}
use lib.ListN.{drop}
use Rattle.emit.specs.Put.{Wrote}
use Rattle.cause_text.specs.Number.{without_lf, number_of}
use Rattle.cause_text.specs.Text.{table, line_text, printed}
use Rattle.cause_text.specs.Input.{Answers}

pub none : (s : List ℕ) → length s < 1 → s ≡ without_lf s
unfolding without_lf
none [] h = refl
none (b ∷ s) h = absurd (omega arith)

module _ (s : List ℕ) where
  pub not_ended : (get_or s (length s - 1) 0 ≡ 10 → ⊥) → s ≡ without_lf s
  unfolding without_lf
  not_ended b = rw (ne_eqb (get_or s (length s - 1) 0) 10 b)

at_end : (b : ℕ) (s : List ℕ) → pointwise eqb (drop (length s) (b ∷ s)) (10 ∷ []) ≡ eqb (get_or (b ∷ s) (length s) 0) 10
at_end b [] = and-true (eqb b 10)
at_end b (x ∷ s) = at_end x s

-- the last byte, where there is one
last_byte : (s : List ℕ) → pointwise eqb (drop (length s - 1) s) (10 ∷ []) ≡ eqb (get_or s (length s - 1) 0) 10
last_byte [] = refl
last_byte (b ∷ s) = let z : suc (length s) - 1 ≡ length s = omega arith in rw z (at_end b s)

pub last_taken : (s : Bor (List ℕ)) (o : Option (Bor (List ℕ)))
    → MatchOption o (pointwise eqb (drop (length s.now - 1) s.now) (10 ∷ []) ≡ false) (λ x. (pointwise eqb (drop (length s.now - 1) s.now) (10 ∷ []) ≡ true) × (x.now ≡ take (length s.now - 1) s.now) × (length x.now + 1 ≡ length s.now))
    → (unwrap_or o s).now ≡ without_lf s.now
unfolding without_lf
last_taken s None h = rw (← last_byte s.now, h)
last_taken s (Some x) h = rw (← last_byte s.now, h.0) h.1

-- as `is_empty` says of any text
pub some_length : (s : List ℕ) {b : Bool} → b ≡ eqb (length s) 0 → b ≡ false → 1 ≤ length s
some_length [] e h = cc
some_length (b ∷ s) e h = omega arith

pub no_length : (s : List ℕ) {b : Bool} → b ≡ eqb (length s) 0 → b ≡ true → length s ≡ 0
no_length s e h = eqb-true (length s) 0 (sym e ∙ h)

pub no_bytes : (s : List ℕ) → length s < 1 → table ≡ printed s
unfolding printed
no_bytes [] h = refl
no_bytes (b ∷ s) h = absurd (omega arith)

pub some_bytes : (s : List ℕ) → 1 ≤ length s → printed s ≡ line_text (number_of (without_lf s))
unfolding printed
some_bytes [] h = absurd (omega arith)
some_bytes (b ∷ s) h = refl

pub answers : (line : List ℕ) {d : List ℕ} {r : ℕ} {d' : List ℕ} → Wrote d 0 (printed line) r d' → length line ≤ 32 → Answers d r d'
answers line w l = record { input = line; few = l; wrote = w }
