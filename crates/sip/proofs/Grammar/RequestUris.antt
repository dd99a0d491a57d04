-- Request-URI: its scheme is all before the first colon, a run that ends there; its called number is all before a `;`.
use mathlib.Core.Path.{◌≡◌, refl, ◌∙◌, sym, ap}
use mathlib.Core.Bool.{Bool, true, false, not, ◌&&◌, ◌||◌, or-true}
use mathlib.Core.List.{List, [], ◌∷◌, ◌++◌, append-nil}
use Prim.Native.Nat.{ℕ}
use native.Mathlib.Omega.{arith}
use lib.Dec.{eqb, ltb}
use lib.ListN.{length, take, length-append}
use lib.Seq.{take-append_seam, take-length}
use borrow.Author.Tests.{ne_eqb, eqb-false, not-true, ltb-true, lt-ltb}
use Rattle.octets.specs.Classes.{within, is_digit, is_token, text}
use Rattle.octets.specs.Scans.{run, all, same_text}
use Rattle.octets.proofs.Runs.{run_whole}
use Rattle.sip.specs.Values.{is_empty, is_global, is_short, is_called}
use Rattle.sip.specs.Refusals.{other_scheme}
use Rattle.sip.specs.Grammar.{Each, each_end, each_byte, Long, AnyCase, Token, UriParts, Uri, global_number, Number, long_number}
use Rattle.sip.specs.Grammar.{short_number, Called, number_alone, number_and, Scheme, at_colon, before_colon, OtherScheme}
use Rattle.sip.specs.Grammar.{of_other_scheme}
use Rattle.sip.proofs.Tests.{never, and_left, and_right}
use Rattle.sip.proofs.Grammar.Bytes.{Ends, RunView, all_of, case_same, each_all, each_other, ends_at, long_of, other_word, ran}
use Rattle.sip.proofs.Grammar.Bytes.{run_of, run_view, stop, within_long}
use Rattle.sip.proofs.Grammar.Separators.{not_empty_some, some_not_empty}
use Rattle.sip.proofs.Grammar.Uris.{Begins, begins}
use Rattle.sip.proofs.Grammar.Numbers.{global_complete, global_sound}

-- ---- the scheme

abbrev no_colon : ℕ → Bool
no_colon b = not (eqb b 58)

-- it is a token, and neither sip nor tel
abbrev is_other : List ℕ → Bool
is_other k = not (is_empty k) && (all is_token k && not (same_text (text "sip") k || same_text (text "tel") k))

scheme_of : {k : List ℕ} → Each no_colon k → (r : List ℕ) → Scheme (k ++ (58 ∷ r)) k
scheme_of each_end r = at_colon r
scheme_of (each_byte {b} e d) r = before_colon (eqb-false b 58 (not-true _ e)) (scheme_of d r)

not_either : (a b : Bool) → not (a || b) ≡ true → (a ≡ false) × (b ≡ false)
not_either true b e = never (cc)
not_either false true e = never (cc)
not_either false false e = (refl, refl)

no_word : (word k : List ℕ) → same_text word k ≡ false → AnyCase word k → ⊥
no_word word k e d = let z : false ≡ true = sym e ∙ case_same d in never (cc)

is_other_lem : {s k : List ℕ} → Scheme s k → is_other k ≡ true → OtherScheme s
is_other_lem {s} {k} d e =
    let f : (all is_token k && not (same_text (text "sip") k || same_text (text "tel") k)) ≡ true = and_right (not (is_empty k)) _ e in
    let (p, q) = not_either _ _ (and_right (all is_token k) _ f) in
    let t : Token k = record { some = not_empty_some k (and_left _ _ e); bytes = each_all (and_left _ _ f) } in
    of_other_scheme d t (no_word (text "sip") k p) (no_word (text "tel") k q)

pub scheme_sound : (s : List ℕ) → other_scheme s ≡ true → OtherScheme s
unfolding other_scheme
scheme_sound s e = go s (run no_colon s) (run_view no_colon s) e
  where
    at : {x : List ℕ} → Each no_colon x → (r : List ℕ) → Ends no_colon r → ltb (length x) (length (x ++ r)) ≡ true → is_other x ≡ true → OtherScheme (x ++ r)
    at {x} d [] f l q = absurd (omega (arith, ltb-true (length x) (length (x ++ [])) l, length-append x []))
    at d (b ∷ r) f l q = rw (ends_at 58 b r f) (is_other_lem (scheme_of d r) q)

    go : (s : List ℕ) (n : ℕ) → RunView no_colon s n → (ltb n (length s) && is_other (take n s)) ≡ true → OtherScheme s
    go _ _ (ran {x} {r} d f) q =
        let w : (ltb (length x) (length (x ++ r)) && is_other x) ≡ true = rw (take-append_seam x r) at q in
        at d r f (and_left _ _ w) (and_right (ltb (length x) (length (x ++ r))) _ w)

-- a text and its scheme: the scheme, the colon and the rest
record Parted (s k : List ℕ) : Type 0 where
  rest : List ℕ
  made : s ≡ k ++ (58 ∷ rest)
  before : Each no_colon k

parted : {s k : List ℕ} → Scheme s k → Parted s k
parted (at_colon r) = record { rest = r; made = refl; before = each_end }
parted (before_colon {b} n d) =
    let c = parted d in
    record { rest = c.rest; made = ap (λ (x : List ℕ). b ∷ x) c.made; before = each_byte {b = b} (rw (ne_eqb b 58 n)) c.before }

pub scheme_complete : {s : List ℕ} → OtherScheme s → other_scheme s ≡ true
unfolding other_scheme text all
scheme_complete (of_other_scheme {s} {k} d t n m) =
    let c = parted d in
    let r : List ℕ = 58 ∷ c.rest in
    let f : Ends no_colon r = stop refl in
    let l : ltb (length k) (length (k ++ r)) ≡ true = lt-ltb (length k) (length (k ++ r)) (omega (arith, length-append k r)) in
    rw (
      c.made,
      run_of c.before f,
      take-append_seam k r,
      l,
      some_not_empty k t.some,
      all_of t.bytes,
      other_word (text "sip") k refl n,
      other_word (text "tel") k refl m,
    )

-- a URI's scheme is sip or tel: reasons 7 and 8 are of different texts
pub no_other : {s : List ℕ} {u : UriParts} → Uri s u → OtherScheme s → ⊥
unfolding is_token
no_other {s} d (of_other_scheme {k} c t n m) =
    let b : Begins s = rw append-nil at (begins d []) in
    let p = parted c in
    let k_is : k ≡ b.name =
    sym (before p.rest p.before) ∙ ap (λ (x : List ℕ). take (run no_colon x) x) (sym p.made ∙ b.made) ∙ before b.others (each_other 58 refl b.is_token_lem.bytes) in
    b.sip_or_tel (rw k_is at n) (rw k_is at m)
  where
    -- all before the first colon
    before : {k : List ℕ} (r : List ℕ) → Each no_colon k → take (run no_colon (k ++ (58 ∷ r))) (k ++ (58 ∷ r)) ≡ k
    before {k} r e = let f : Ends no_colon (58 ∷ r) = stop refl in rw (run_of e f, take-append_seam k (58 ∷ r))

-- ---- the called number

short_sound : (n : List ℕ) → is_short n ≡ true → Number n
unfolding is_short
short_sound n e =
    let w : within 2 6 (length n) ≡ true = and_left _ _ e in
    let l : Long 2 6 n = long_of 2 6 n w in
    short_number (each_all (and_right (within 2 6 (length n)) _ e)) l

number_form : (n : List ℕ) → (is_global n || is_short n) ≡ true → Number n
number_form n e = go (is_global n) refl e
  where
    go : (t : Bool) → is_global n ≡ t → (t || is_short n) ≡ true → Number n
    go true p q = long_number (global_sound n p)
    go false p q = short_sound n q

number_formed : {n : List ℕ} → Number n → (is_global n || is_short n) ≡ true
unfolding is_short
number_formed (long_number g) = rw (global_complete g)
number_formed (short_number {n} e l) = rw (within_long l, all_of e) (or-true (is_global n))

abbrev other : ℕ → Bool
other b = not (eqb b 59)

number_other : {n : List ℕ} → Number n → Each other n
unfolding is_digit
number_other (long_number (global_number {d} {ds} lo hi e l)) =
    each_byte {b = 43} refl (each_byte {b = d} (rw (ne_eqb d 59 (λ q. omega arith))) (each_other 59 refl e))
number_other (short_number {n} e l) = each_other 59 refl e

pub called_sound : (s : List ℕ) → is_called s ≡ true → Called s
unfolding is_called
called_sound s e = go s (run other s) (run_view other s) e
  where
    after : {x : List ℕ} → Number x → (r : List ℕ) → Ends other r → Called (x ++ r)
    after h [] f = rw append-nil (number_alone h)
    after h (b ∷ r) f = rw (ends_at 59 b r f) (number_and h r)

    go : (s : List ℕ) (n : ℕ) → RunView other s n → (is_global (take n s) || is_short (take n s)) ≡ true → Called s
    go _ _ (ran {x} {r} e f) q = after (number_form x (rw (take-append_seam x r) at q)) r f

pub called_complete : {s : List ℕ} → Called s → is_called s ≡ true
unfolding is_called
called_complete (number_alone {n} h) = rw (run_whole other n (all_of (number_other h)), take-length n) (number_formed h)
called_complete (number_and {n} h r) =
    let f : Ends other (59 ∷ r) = stop refl in
    rw (run_of (number_other h) f, take-append_seam n (59 ∷ r)) (number_formed h)
