-- Where the person of a URI stands; where no URI stands nothing is called.
use Rattle.std.proofs.Common.{◌≡◌, ℕ, ◌+◌, Bool, true, false, List, [], ◌∷◌, length, take, drop, refl, sym, ap, ◌∙◌, not, eqb, arith}
use Rattle.std.proofs.Math.Seq.{drop-drop, take-length}
use borrow.Author.Tests.{eqb-true, ne_eqb}
use Rattle.octets.specs.Classes.{text, is_token, is_alphanum, is_alpha, is_digit}
use Rattle.octets.specs.Scans.{run, all, starts, quoted}
use Rattle.octets.proofs.Runs.{run_whole}
use Rattle.sip.specs.declared.UriAt.{UriAt}
use Rattle.sip.specs.Values.{uri, no_uri, person, person_size, display, is_global, is_short, is_called}
use Rattle.sip.proofs.Tests.{range_high, byte_start, all_first, all_others}
use Rattle.sip.proofs.Identities.{global_digits}

-- the URI starting at a place of the value
pub person_at : (u : UriAt) (at : ℕ) (v : List ℕ) → person u (drop at v) ≡ take (person_size u) (drop (at + 4) v)
unfolding person
person_at u at v = rw (drop-drop 4 at v)

pub not_called : (u : List ℕ) → no_uri ≡ uri u → is_called (person (uri u) u) ≡ false
unfolding person is_called run is_global starts is_short
not_called u e = rw (← e)

-- ---- `<` begins neither form of display name

no_token : is_token 60 ≡ false
unfolding is_token is_alphanum is_alpha is_digit text
no_token = refl

pub no_name : (s : List ℕ) {a : Bool} → a ≡ starts 60 s → a ≡ true → 0 ≡ display s
unfolding display starts quoted run
no_name s h y = go s (sym h ∙ y)
  where
    go : (s : List ℕ) → starts 60 s ≡ true → 0 ≡ display s
    go [] e = refl
    go (b ∷ s) e = rw (eqb-true b 60 e, no_token)

-- ---- a global number holds no semicolon, so it is what stands before one

abbrev other_byte : ℕ → Bool
other_byte b = not (eqb b 59)

digit_other : (b : ℕ) → is_digit b ≡ true → other_byte b ≡ true
unfolding is_digit
digit_other b e = ap not (ne_eqb b 59 (λ q. omega (arith, range_high 48 57 b e)))

digits_other : (s : List ℕ) → all is_digit s ≡ true → all other_byte s ≡ true
unfolding all
digits_other [] e = refl
digits_other (b ∷ s) e = rw (digit_other b (all_first is_digit b s e)) (digits_other s (all_others is_digit b s e))

whole : (s : List ℕ) → is_global s ≡ true → run other_byte s ≡ length s
unfolding all
whole s e =
    run_whole other_byte s (ap (all other_byte) (byte_start 43 s (global_digits s e).0) ∙ digits_other (drop 1 s) (global_digits s e).1)

pub global_called : (s : List ℕ) {a : Bool} → a ≡ is_global s → a ≡ true → true ≡ is_called s
unfolding is_called
global_called s ha y =
    let e : is_global s ≡ true = sym ha ∙ y in
    rw (whole s e, take-length s, e)
