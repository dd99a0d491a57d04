-- Token lists: `tokens` reads exactly what the grammar derives, and the same tokens, by induction on the bytes that are left.
use mathlib.Core.Path.{◌≡◌, refl, ◌∙◌, sym, ap}
use mathlib.Core.Bool.{Bool, true, false, not, cond, ◌||◌, or-true}
use mathlib.Core.List.{List, [], ◌∷◌, ◌++◌, append-nil}
use mathlib.Core.Option.{Option, none, some}
use Prim.Native.Nat.{ℕ, suc, ◌+◌, ◌≤◌, zero, ◌-◌}
use native.Mathlib.Omega.{arith}
use lib.Dec.{eqb}
use lib.ListN.{length, drop, length-append}
use lib.Seq.{take-append_seam, drop-append_seam, drop-append-add}
use borrow.Author.Tests.{ne_eqb}
use Rattle.octets.specs.Classes.{is_blank, is_token, text}
use Rattle.octets.specs.Scans.{run, all, same_text}
use Rattle.sip.specs.Values.{sign, is_empty, with_token, list_or, is_list, tokens, is_privacy, is_require, required_tags, any_token}
use Rattle.sip.specs.Values.{is_restricting, restricts, is_lacking}
use Rattle.sip.specs.Grammar.{Token, Tokens, last_token, token_and, Restricting, by_header, by_user, by_id, HoldsAny, here, later, Among}
use Rattle.sip.specs.Grammar.{OurOptionTag, our_100rel, our_timer}
use Rattle.sip.proofs.Tests.{never}
use Rattle.sip.proofs.ValueSizes.{not_none}
use Rattle.sip.proofs.Grammar.Bytes.{Ends, RunView, case_same, end, ran, run_of, run_view, same_case}
use Rattle.sip.proofs.Grammar.Separators.{SignView, blank_token, empty_length, sign_exact, sign_some, sign_stops, sign_view}
use Rattle.sip.proofs.Grammar.Separators.{signed, some_not_empty, token_no_blank, unsigned}

-- ---- one step

-- bytes that are read already are passed
pub tokens_passed : (b k : ℕ) (s : List ℕ) → tokens b k s ≡ tokens b 0 (drop k s)
unfolding tokens
tokens_passed b zero s = refl
tokens_passed b (suc k) [] = refl
tokens_passed b (suc k) (c ∷ s) = tokens_passed b k s

module _ (b : ℕ) where
  rest_tokens : ℕ → List ℕ → List ℕ → Option (List (List ℕ))
  rest_tokens e t r = cond (is_empty r) (some (t ∷ [])) (cond (eqb e 0) none (with_token t (tokens b 0 (drop e r))))

  tokens_step : (t r : List ℕ) → Token t → Ends is_token r → tokens b 0 (t ++ r) ≡ rest_tokens (sign b r) t r
  unfolding tokens rest_tokens
  tokens_step [] r h f = let z : 1 ≤ 0 = h.some in absurd (omega arith)
  tokens_step (c ∷ t) r h f =
      let n : run is_token (c ∷ (t ++ r)) ≡ suc (length t) = run_of h.bytes f in
      let k : suc (length t) + sign b r - 1 ≡ length t + sign b r = omega arith in
      let z : eqb (suc (length t)) 0 ≡ false = ne_eqb (suc (length t)) 0 (λ q. omega arith) in
      rw (n, z, drop-append_seam t r, take-append_seam t r, k, tokens_passed b (length t + sign b r) (t ++ r), drop-append-add t r (sign b r))

  no_tokens : (s : List ℕ) → Ends is_token s → tokens b 0 s ≡ none
  unfolding tokens
  no_tokens [] f = refl
  no_tokens (c ∷ s) f = rw f.ends

  -- ---- the reader finds what the grammar derives

  module _ (no_token : is_token b ≡ false) (no_blank : is_blank b ≡ false) where
    tokens_blank : {s : List ℕ} {ts : List (List ℕ)} → Tokens b s ts → Ends is_blank s
    tokens_blank (last_token {t} h) = rw append-nil at (token_no_blank t [] h)
    tokens_blank (token_and {t} {c} {s} h g d) = token_no_blank t (c ++ s) h

    pub tokens_complete : {s : List ℕ} {ts : List (List ℕ)} → Tokens b s ts → tokens b 0 s ≡ some ts
    unfolding rest_tokens is_empty
    tokens_complete (last_token {t} h) = ap (tokens b 0) (sym (append-nil t)) ∙ tokens_step t [] h end
    tokens_complete (token_and {t} {c} {s} h g d) =
        let e : sign b (c ++ s) ≡ length c = sign_exact b no_blank g (tokens_blank d) in
        let l : 1 ≤ length c = sign_some g in
        let f : is_empty (c ++ s) ≡ false = some_not_empty (c ++ s) (omega (arith, length-append c s)) in
        tokens_step t (c ++ s) h (sign_stops is_token blank_token no_token g s)
        ∙ rw (e, f, ne_eqb (length c) 0 (λ q. omega arith), drop-append_seam c s, tokens_complete d)

  -- ---- the grammar derives what the reader finds

  with_some : (t : List ℕ) (o : Option (List (List ℕ))) (ts : List (List ℕ)) → with_token t o ≡ some ts → (us : List (List ℕ)) × (o ≡ some us) × (ts ≡ t ∷ us)
  with_some t none ts e = not_none e
  with_some t (some us) ts e = (us, refl, cc)

  -- where a token list of at most m bytes is sound
  Sound : ℕ → Type 0
  Sound m = (s : List ℕ) (ts : List (List ℕ)) → length s ≤ m → tokens b 0 s ≡ some ts → Tokens b s ts

  sound_rest : (m : ℕ) → Sound m → (t r : List ℕ) (e : ℕ) → Token t → length (t ++ r) ≤ suc m → SignView b r e
      → (ts : List (List ℕ)) → rest_tokens e t r ≡ some ts → Tokens b (t ++ r) ts
  unfolding Sound rest_tokens
  sound_rest m ih t r e h l w ts q = go (is_empty r) refl q
    where
      next : (r : List ℕ) (e : ℕ) → length (t ++ r) ≤ suc m → SignView b r e → cond (eqb e 0) none (with_token t (tokens b 0 (drop e r))) ≡ some ts → Tokens b (t ++ r) ts
      next _ _ l (signed {c} {r} g f) q =
          let n : eqb (length c) 0 ≡ false = ne_eqb (length c) 0 (λ z. omega (arith, sign_some g)) in
          let q' : with_token t (tokens b 0 r) ≡ some ts = rw (n, drop-append_seam c r) at q in
          let (us, x, y) = with_some t (tokens b 0 r) ts q' in
          rw y (token_and h g (ih r us (omega (arith, h.some, sign_some g, length-append t (c ++ r), length-append c r)) x))
      next _ _ l unsigned q = not_none q

      go : (x : Bool) → is_empty r ≡ x → cond x (some (t ∷ [])) (cond (eqb e 0) none (with_token t (tokens b 0 (drop e r)))) ≡ some ts → Tokens b (t ++ r) ts
      go true x q =
          let y : ts ≡ t ∷ [] = cc in
          rw (y, empty_length r x, append-nil) (last_token h)
      go false x q = next r e l w q

  sound : (m : ℕ) → Sound m
  unfolding Sound tokens
  sound zero [] ts l q = not_none q
  sound zero (c ∷ s) ts l q = absurd (omega arith)
  sound (suc m) [] ts l q = not_none q
  sound (suc m) (c ∷ s) ts l q = go (sound m) (c ∷ s) (run is_token (c ∷ s)) (run_view is_token (c ∷ s)) l q
    where
      go : Sound m → (s : List ℕ) (n : ℕ) → RunView is_token s n → length s ≤ suc m → tokens b 0 s ≡ some ts → Tokens b s ts
      go ih _ _ (ran {x = []} {r} e f) l q = not_none (sym (no_tokens r f) ∙ q)
      go ih _ _ (ran {x = c ∷ x} {r} e f) l q =
          let t : Token (c ∷ x) = record { some = omega arith; bytes = e } in
          sound_rest m ih (c ∷ x) r (sign b r) t l (sign_view b r) ts (sym (tokens_step (c ∷ x) r t f) ∙ q)

  pub tokens_sound : (s : List ℕ) (ts : List (List ℕ)) → tokens b 0 s ≡ some ts → Tokens b s ts
  unfolding Sound
  tokens_sound s ts q = sound (length s) s ts (omega arith) q

-- ---- Privacy and Require

is_some : (o : Option (List (List ℕ))) → is_list o ≡ true → o ≡ some (list_or o)
is_some none e = never (cc)
is_some (some ts) e = refl

pub privacy_sound : (v : List ℕ) → is_privacy v ≡ true → Tokens 59 v (list_or (tokens 59 0 v))
unfolding is_privacy
privacy_sound v e = tokens_sound 59 v (list_or (tokens 59 0 v)) (is_some (tokens 59 0 v) e)

pub privacy_complete : {v : List ℕ} {ts : List (List ℕ)} → Tokens 59 v ts → (is_privacy v ≡ true) × (list_or (tokens 59 0 v) ≡ ts)
unfolding is_privacy is_token is_blank
privacy_complete {v} {ts} d = let e : tokens 59 0 v ≡ some ts = tokens_complete 59 refl refl d in (rw e, rw e)

pub require_sound : (v : List ℕ) → is_require v ≡ true → Tokens 44 v (required_tags v)
unfolding is_require required_tags
require_sound v e = tokens_sound 44 v (list_or (tokens 44 0 v)) (is_some (tokens 44 0 v) e)

pub require_complete : {v : List ℕ} {ts : List (List ℕ)} → Tokens 44 v ts → (is_require v ≡ true) × (required_tags v ≡ ts)
unfolding is_require required_tags is_token is_blank
require_complete {v} {ts} d = let e : tokens 44 0 v ≡ some ts = tokens_complete 44 refl refl d in (rw e, rw e)

-- ---- tokens that are looked for

restricting_complete : {t : List ℕ} → Restricting t → is_restricting t ≡ true
unfolding is_restricting
restricting_complete (by_header d) = rw (case_same d)
restricting_complete {t} (by_user d) = rw (case_same d) (or-true (same_text (text "header") t))
restricting_complete {t} (by_id d) = rw (case_same d, or-true (same_text (text "user") t)) (or-true (same_text (text "header") t))

any_complete : {ts : List (List ℕ)} → HoldsAny Restricting ts → any_token is_restricting ts ≡ true
any_complete (here d) = rw (restricting_complete d)
any_complete (later {x = t} d) = rw (any_complete d) (or-true (is_restricting t))

pub restricts_complete : {v : List ℕ} {ts : List (List ℕ)} → Tokens 59 v ts → HoldsAny Restricting ts → restricts v ≡ true
unfolding restricts
restricts_complete d h = rw (privacy_complete d).1 (any_complete h)

restricting_sound : (t : List ℕ) → is_restricting t ≡ true → Restricting t
unfolding is_restricting text all
restricting_sound t e = go (same_text (text "header") t) refl (same_text (text "user") t) refl (same_text (text "id") t) refl e
  where
    go : (a : Bool) → same_text (text "header") t ≡ a → (b : Bool) → same_text (text "user") t ≡ b → (c : Bool) → same_text (text "id") t ≡ c
        → (a || (b || c)) ≡ true → Restricting t
    go true p b q c r e = by_header (same_case (text "header") t refl p)
    go false p true q c r e = by_user (same_case (text "user") t refl q)
    go false p false q true r e = by_id (same_case (text "id") t refl r)
    go false p false q false r e = never (cc)

any_sound : (ts : List (List ℕ)) → any_token is_restricting ts ≡ true → HoldsAny Restricting ts
any_sound [] e = never (cc)
any_sound (t ∷ ts) e = go (is_restricting t) refl e (any_sound ts)
  where
    go : (b : Bool) → is_restricting t ≡ b → (b || any_token is_restricting ts) ≡ true → (any_token is_restricting ts ≡ true → HoldsAny Restricting ts)
        → HoldsAny Restricting (t ∷ ts)
    go true p q ih = here (restricting_sound t p)
    go false p q ih = later (ih q)

is_list_lem : (o : Option (List (List ℕ))) → any_token is_restricting (list_or o) ≡ true → is_list o ≡ true
is_list_lem none e = e
is_list_lem (some ts) e = refl

pub restricts_sound : (v : List ℕ) → restricts v ≡ true → (ts : List (List ℕ)) × Tokens 59 v ts × HoldsAny Restricting ts
unfolding restricts is_privacy
restricts_sound v e =
    let ts : List (List ℕ) = list_or (tokens 59 0 v) in
    (ts, privacy_sound v (is_list_lem (tokens 59 0 v) e), any_sound ts e)

-- ---- more tokens

one_of : {ts : List (List ℕ)} → HoldsAny Restricting ts → (t : List ℕ) × Restricting t × Among t ts
one_of (here {x = t} d) = (t, d, here refl)
one_of (later h) = let (t, d, i) = one_of h in (t, d, later i)

of_one : (t : List ℕ) {ts : List (List ℕ)} → Restricting t → Among t ts → HoldsAny Restricting ts
of_one t d (here e) = here (rw e at d)
of_one t d (later i) = later (of_one t d i)

pub nothing_lifted :
    {v w : List ℕ} {ts us : List (List ℕ)} → Tokens 59 v ts → Tokens 59 w us → ((t : List ℕ) → Among t ts → Among t us)
    → restricts v ≡ true → restricts w ≡ true
nothing_lifted {v} {ts = ts} d e more h =
    let (ss, c, k) = restricts_sound v h in
    let one_list : ss ≡ ts = sym (privacy_complete c).1 ∙ (privacy_complete d).1 in
    let (t, r, i) = one_of (rw one_list at k) in
    restricts_complete e (of_one t r (more t i))

put_in : (t : List ℕ) (before after : List (List ℕ))
    → any_token is_restricting (before ++ (t ∷ after)) ≡ (is_restricting t || any_token is_restricting (before ++ after))
put_in t [] after = refl
put_in t (b ∷ before) after = rw (put_in t before after) (go (is_restricting b) (is_restricting t))
  where
    go : (x y : Bool) → (x || (y || any_token is_restricting (before ++ after))) ≡ (y || (x || any_token is_restricting (before ++ after)))
    go true true = refl
    go true false = refl
    go false y = refl

pub others_unchanged : (v w t : List ℕ) (before after : List (List ℕ)) → Tokens 59 v (before ++ after) → Tokens 59 w (before ++ (t ∷ after))
    → (Restricting t → ⊥) → restricts w ≡ restricts v
unfolding restricts
others_unchanged v w t before after d e n = rw ((privacy_complete d).1, (privacy_complete e).1, put_in t before after) (go (is_restricting t) refl)
  where
    go : (b : Bool) → is_restricting t ≡ b → (b || any_token is_restricting (before ++ after)) ≡ any_token is_restricting (before ++ after)
    go true p = absurd (n (restricting_sound t p))
    go false p = refl

pub lacking_sound : (t : List ℕ) → is_lacking t ≡ true → OurOptionTag t → ⊥
unfolding is_lacking
lacking_sound t e (our_100rel d) = let z : false ≡ true = rw (case_same d) at e in never (cc)
lacking_sound t e (our_timer d) = go (same_text (text "100rel") t) (rw (case_same d) at e)
  where
    go : (a : Bool) → not (a || true) ≡ true → ⊥
    go true e = never (cc)
    go false e = never (cc)

pub lacking_complete : (t : List ℕ) → (OurOptionTag t → ⊥) → is_lacking t ≡ true
unfolding is_lacking text all
lacking_complete t n = go (same_text (text "100rel") t) refl (same_text (text "timer") t) refl
  where
    go : (a : Bool) → same_text (text "100rel") t ≡ a → (b : Bool) → same_text (text "timer") t ≡ b → not (a || b) ≡ true
    go true p b q = absurd (n (our_100rel (same_case (text "100rel") t refl p)))
    go false p true q = absurd (n (our_timer (same_case (text "timer") t refl q)))
    go false p false q = refl
