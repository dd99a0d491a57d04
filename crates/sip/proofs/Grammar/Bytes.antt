-- Bytes of a class, words in any case, runs and numbers: a run ends exactly where a byte outside its class stands.
use mathlib.Core.Path.{◌≡◌, refl, ◌∙◌, sym, ap}
use mathlib.Core.Bool.{Bool, true, false, not, cond, ◌&&◌, and-false}
use mathlib.Core.List.{List, [], ◌∷◌, ◌++◌}
use Prim.Native.Nat.{ℕ, suc, ◌+◌, ◌≤◌}
use native.Mathlib.Omega.{arith}
use lib.Dec.{eqb, leb}
use lib.ListN.{length, take, drop, take-append-drop}
use lib.Seq.{length-take-le, take-append_seam}
use borrow.Author.Tests.{eq-eqb, ne_eqb, eqb-true, le-leb, lt-leb, leb-true, not-true}
use Rattle.octets.specs.Classes.{within, is_digit, is_token}
use Rattle.octets.specs.Scans.{run, all, decimal, no_number, number, lower, same_text}
use Rattle.octets.specs.declared.NumberAt.{NumberAt}
use Rattle.octets.proofs.Runs.{run_nil, run_no, run_le, run_all, run_after, run_exact, run_yes}
use Rattle.sip.specs.Grammar.{Each, each_end, each_byte, Long, AnyCase, case_end, as_it_is, as_capital, Token}
use Rattle.sip.proofs.Tests.{never, and_left, and_right, range_low, range_high, in_range, all_first, all_others}
use Rattle.sip.proofs.Texts.{same_parts, same_token}

pub some_no : (n : ℕ) → 1 ≤ n → eqb n 0 ≡ false
some_no n h = ne_eqb n 0 (λ q. omega arith)

-- ---- bytes of a class, words in any case

pub all_of : {p : ℕ → Bool} {s : List ℕ} → Each p s → all p s ≡ true
unfolding all
all_of each_end = refl
all_of (each_byte e d) = rw (e, all_of d)

pub each_all : {p : ℕ → Bool} {s : List ℕ} → all p s ≡ true → Each p s
unfolding all
each_all {s = []} e = each_end
each_all {p} {s = b ∷ s} e = each_byte (and_left (p b) (all p s) e) (each_all (and_right (p b) (all p s) e))

-- a class without the byte c
pub each_other : {p : ℕ → Bool} {s : List ℕ} (c : ℕ) → p c ≡ false → Each p s → Each (λ (b : ℕ). not (eqb b c)) s
each_other c h each_end = each_end
each_other {p} c h (each_byte {b} e d) =
    each_byte {b = b} (rw (ne_eqb b c (λ q. let z : true ≡ false = sym e ∙ ap p q ∙ h in never (cc)))) (each_other c h d)

-- lo to hi bytes
pub long_of : (lo hi : ℕ) (s : List ℕ) → within lo hi (length s) ≡ true → Long lo hi s
long_of lo hi s e = record { least = range_low lo hi (length s) e; most = range_high lo hi (length s) e }

pub within_long : {lo hi : ℕ} {s : List ℕ} → Long lo hi s → within lo hi (length s) ≡ true
within_long {lo} {hi} {s} l = in_range lo hi (length s) l.least l.most

lower_capital : (b : ℕ) → 65 ≤ b → b ≤ 90 → lower (b + 32) ≡ lower b
unfolding lower
lower_capital b l h = rw (in_range 65 90 b l h, lt-leb (b + 32) 90 (omega arith)) (rw (and-false (leb 65 (b + 32))))

pub case_same : {word s : List ℕ} → AnyCase word s → same_text word s ≡ true
unfolding same_text
case_same case_end = refl
case_same (as_it_is {b} d) = rw (eq-eqb (lower b) (lower b) refl) (case_same d)
case_same (as_capital {b} l h d) = rw (eq-eqb (lower (b + 32)) (lower b) (lower_capital b l h)) (case_same d)

-- no capital
abbrev pub is_small : ℕ → Bool
is_small b = not (within 65 90 b)

pub same_case : (word s : List ℕ) → all is_small word ≡ true → same_text word s ≡ true → AnyCase word s
unfolding same_text
same_case [] [] h e = case_end
same_case [] (b ∷ s) h e = never (cc)
same_case (c ∷ word) [] h e = never (cc)
same_case (c ∷ word) (b ∷ s) h e =
    let (p, q) = same_parts c b word s e in
    go (within 65 90 b) refl (lower_small c (not-true _ (all_first is_small c word h)) ∙ p) (same_case word s (all_others is_small c word h) q)
  where
    lower_small : (c : ℕ) → within 65 90 c ≡ false → c ≡ lower c
    lower_small c n = rw n

    go : (t : Bool) → within 65 90 b ≡ t → c ≡ lower b → AnyCase word s → AnyCase (c ∷ word) (b ∷ s)
    go true f p d = let k : c ≡ b + 32 = p ∙ rw f in rw k (as_capital (range_low 65 90 b f) (range_high 65 90 b f) d)
    go false f p d = let k : c ≡ b = p ∙ rw f in rw k (as_it_is d)

pub case_length : {word s : List ℕ} → AnyCase word s → length s ≡ length word
case_length case_end = refl
case_length (as_it_is d) = ap suc (case_length d)
case_length (as_capital l h d) = ap suc (case_length d)

-- a word of token bytes is a token in any case
pub word_token : {word s : List ℕ} → AnyCase word s → all is_token word ≡ true → 1 ≤ length word → Token s
word_token {word} {s} d e l = record { some = omega (arith, case_length d); bytes = each_all (same_token word s (case_same d) e) }

pub other_word : (word s : List ℕ) → all is_small word ≡ true → (AnyCase word s → ⊥) → same_text word s ≡ false
other_word word s h n = go (same_text word s) refl
  where
    go : (t : Bool) → same_text word s ≡ t → t ≡ false
    go true e = absurd (n (same_case word s h e))
    go false e = refl

-- ---- runs

-- nothing of the class stands at the front
pub record Ends (p : ℕ → Bool) (r : List ℕ) : Type 0 where
  pub ends : run p r ≡ 0

pub end : {p : ℕ → Bool} → Ends p []
end {p} = record { ends = run_nil p }

pub stop : {p : ℕ → Bool} {b : ℕ} {s : List ℕ} → p b ≡ false → Ends p (b ∷ s)
stop {p} {b} {s} e = record { ends = run_no p b s e }

-- a run of all bytes but c ends at c
pub ends_at : (c b : ℕ) (s : List ℕ) → Ends (λ (x : ℕ). not (eqb x c)) (b ∷ s) → b ≡ c
ends_at c b s f = go (eqb b c) refl
  where
    go : (t : Bool) → eqb b c ≡ t → b ≡ c
    go true e = eqb-true b c e
    go false e = let z : suc (run (λ (x : ℕ). not (eqb x c)) s) ≡ 0 = sym (run_yes (λ (x : ℕ). not (eqb x c)) b s (rw e)) ∙ f.ends in absurd (omega arith)

-- a text, and how long the run at its front is
pub data RunView (p : ℕ → Bool) : List ℕ → ℕ → Type 0 where
  ran : {x r : List ℕ} → Each p x → Ends p r → RunView p (x ++ r) (length x)

pub run_view : (p : ℕ → Bool) (s : List ℕ) → RunView p s (run p s)
run_view p s =
    let n : ℕ = run p s in
    let v : RunView p (take n s ++ drop n s) (length (take n s)) = ran (each_all (run_all p s)) (record { ends = run_after p s }) in
    rw (take-append-drop n s, length-take-le n s (run_le p s)) at v

pub run_of : {p : ℕ → Bool} {x r : List ℕ} → Each p x → Ends p r → run p (x ++ r) ≡ length x
run_of {p} {x} {r} e f = run_exact p x r (all_of e) f.ends

-- ---- numbers

pub data NumberView (most bound : ℕ) : List ℕ → NumberAt → Type 0 where
  number_here : {d : List ℕ} → Each is_digit d → Long 1 most d → decimal 0 d ≤ bound → (r : List ℕ) → NumberView most bound (d ++ r) (record { size = length d; value = decimal 0 d })
  not_number : {s : List ℕ} → NumberView most bound s no_number

pub number_view : (most bound : ℕ) (s : List ℕ) → NumberView most bound s (number most bound s)
unfolding number
number_view most bound s = go s (run is_digit s) (run_view is_digit s)
  where
    go : (s : List ℕ) (n : ℕ) → RunView is_digit s n
        → NumberView most bound s (cond (within 1 most n && leb (decimal 0 (take n s)) bound) (record { size = n; value = decimal 0 (take n s) }) no_number)
    go _ _ (ran {x} {r} e f) = rw (take-append_seam x r) (at (within 1 most (length x) && leb (decimal 0 x) bound) refl)
      where
        at : (t : Bool) → (within 1 most (length x) && leb (decimal 0 x) bound) ≡ t
            → NumberView most bound (x ++ r) (cond t (record { size = length x; value = decimal 0 x }) no_number)
        at true q =
            let w : within 1 most (length x) ≡ true = and_left _ _ q in
            number_here e (long_of 1 most x w)
            (leb-true (decimal 0 x) bound (and_right (within 1 most (length x)) _ q)) r
        at false q = not_number

pub number_of : (most bound : ℕ) {d : List ℕ} → Each is_digit d → Long 1 most d → decimal 0 d ≤ bound → (r : List ℕ) → Ends is_digit r
    → number most bound (d ++ r) ≡ record { size = length d; value = decimal 0 d }
unfolding number
number_of most bound {d} e l m r f =
    rw (run_of e f, take-append_seam d r, within_long l, le-leb (decimal 0 d) bound m)
