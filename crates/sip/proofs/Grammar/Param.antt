-- One parameter: `param` reads exactly what the grammar derives, and finds its tag.
use mathlib.Core.Path.{◌≡◌, refl, ◌∙◌, sym, ap}
use mathlib.Core.Bool.{Bool, true, false, cond, ◌||◌}
use mathlib.Core.List.{List, [], ◌∷◌, ◌++◌, append_assoc}
use Prim.Native.Nat.{ℕ, suc, ◌+◌, ◌≤◌}
use native.Mathlib.Omega.{arith}
use lib.Dec.{eqb}
use lib.ListN.{length, take, drop, length-append}
use lib.Seq.{take-append_seam, drop-append_seam}
use Rattle.octets.specs.Classes.{within, is_blank, is_token, text}
use Rattle.octets.specs.Scans.{run, all, quoted, same_text}
use Rattle.sip.specs.declared.ParamAt.{ParamAt}
use Rattle.sip.specs.Values.{sign, no_param, param_value, param_rest, param}
use Rattle.sip.specs.Grammar.{Long, AnyCase, Separator, QuotedString, quoted_string, Token, GenValue, token_value, string_value}
use Rattle.sip.specs.Grammar.{OtherName, Param, name_alone, name_value, tag_value}
use Rattle.sip.proofs.Tests.{never}
use Rattle.sip.proofs.Grammar.Bytes.{Ends, RunView, case_same, long_of, other_word, ran, run_of, run_view, same_case, some_no}
use Rattle.sip.proofs.Grammar.Bytes.{stop, within_long, word_token}
use Rattle.sip.proofs.Grammar.Separators.{SignView, blank_token, sign_exact, sign_some, sign_stops, sign_view, signed}
use Rattle.sip.proofs.Grammar.Separators.{token_no_blank, unsigned}
use Rattle.sip.proofs.Grammar.Escapes.{QuotedView, not_quoted, quoted_here, quoted_of, quoted_some, quoted_view}

-- ---- values

data ValueView : List ℕ → ℕ → Type 0 where
  value_here : {v : List ℕ} → GenValue v → 1 ≤ length v → (r : List ℕ) → ValueView (v ++ r) (length v)
  no_value : {s : List ℕ} → ValueView s 0

data TagView : List ℕ → ℕ → Type 0 where
  tag_here : {v : List ℕ} → Token v → Long 1 64 v → (r : List ℕ) → TagView (v ++ r) (length v)
  not_tag : {s : List ℕ} → TagView s 0

value_some : {v : List ℕ} → GenValue v → 1 ≤ length v
value_some (token_value h) = h.some
value_some (string_value q) = quoted_some q

value_view : (s : List ℕ) → ValueView s (param_value false s)
unfolding param_value
value_view s = go s (run is_token s) (run_view is_token s)
  where
    string : (s : List ℕ) (n : ℕ) → QuotedView s n → ValueView s n
    string _ _ (quoted_here q r) = value_here (string_value q) (quoted_some q) r
    string _ _ not_quoted = no_value

    go : (s : List ℕ) (n : ℕ) → RunView is_token s n → ValueView s (cond (eqb n 0) (quoted s) n)
    go _ _ (ran {x = []} {r} e f) = string r (quoted r) (quoted_view r)
    go _ _ (ran {x = b ∷ x} {r} e f) =
        let t : Token (b ∷ x) = record { some = omega arith; bytes = e } in
        rw (some_no (suc (length x)) (omega arith)) (value_here (token_value t) (omega arith) r)

tag_view : (s : List ℕ) → TagView s (param_value true s)
unfolding param_value
tag_view s = go s (run is_token s) (run_view is_token s)
  where
    go : (s : List ℕ) (n : ℕ) → RunView is_token s n → TagView s (cond (within 1 64 n) n 0)
    go _ _ (ran {x} {r} e f) = at (within 1 64 (length x)) refl
      where
        at : (t : Bool) → within 1 64 (length x) ≡ t → TagView (x ++ r) (cond t (length x) 0)
        at true q =
            let l : Long 1 64 x = long_of 1 64 x q in
            tag_here (record { some = l.least; bytes = e }) l r
        at false q = not_tag

value_of : {v : List ℕ} → GenValue v → (r : List ℕ) → Ends is_token r → param_value false (v ++ r) ≡ length v
unfolding param_value is_token
value_of (token_value h) r f = rw (run_of h.bytes f, some_no _ h.some)
value_of (string_value (quoted_string {s} d)) r f =
    let e : Ends is_token (34 ∷ (s ++ r)) = stop refl in
    rw e.ends (quoted_of (quoted_string d) r)

tag_of : {v : List ℕ} → Token v → Long 1 64 v → (r : List ℕ) → Ends is_token r → param_value true (v ++ r) ≡ length v
unfolding param_value
tag_of {v} h l r f = rw (run_of h.bytes f, within_long l)

-- no blank stands at a value's front
quoted_no_blank : {v : List ℕ} → QuotedString v → (r : List ℕ) → Ends is_blank (v ++ r)
unfolding is_blank
quoted_no_blank (quoted_string d) r = stop refl

value_no_blank : {v : List ℕ} → GenValue v → (r : List ℕ) → Ends is_blank (v ++ r)
value_no_blank {v} (token_value h) r = token_no_blank v r h
value_no_blank (string_value q) r = quoted_no_blank q r

-- ---- one parameter

-- what is read where the grammar derives the text x with the tags ts
pub data ParamFound : List ℕ → List (List ℕ) → ParamAt → Type 0 where
  found_other : {x : List ℕ} {p : ParamAt} → p.size ≡ length x → p.tag ≡ false → ParamFound x [] p
  found_tag : {t : List ℕ} {p : ParamAt} (y : List ℕ) → p.size ≡ length (y ++ t) → p.tag ≡ true → p.value ≡ length y → p.len ≡ length t → 1 ≤ length t
      → ParamFound (y ++ t) (t ∷ []) p

pub data ParamView : List ℕ → ParamAt → Type 0 where
  without_param : {s : List ℕ} {p : ParamAt} → p.size ≡ 0 → ParamView s p
  some_param : {x : List ℕ} {ts : List (List ℕ)} {p : ParamAt} → Param x ts → ParamFound x ts p → (r : List ℕ) → ParamView (x ++ r) p

length4 : (c n e v : List ℕ) → length (c ++ (n ++ (e ++ v))) ≡ length c + length n + length e + length v
length4 c n e v = simp length-append (omega arith)

assoc4 : (c n e v r : List ℕ) → (c ++ (n ++ (e ++ v))) ++ r ≡ c ++ (n ++ (e ++ (v ++ r)))
assoc4 c n e v r = simp append_assoc

assoc3 : (c n e v : List ℕ) → c ++ (n ++ (e ++ v)) ≡ (c ++ (n ++ e)) ++ v
assoc3 c n e v = simp append_assoc

found_value : (c n e v : List ℕ) (p : ParamAt) → p.size ≡ length c + length n + length e + length v → p.tag ≡ false
    → ParamFound (c ++ (n ++ (e ++ v))) [] p
found_value c n e v p h t = found_other (h ∙ sym (length4 c n e v)) t

found_tagged : (c n e v : List ℕ) (p : ParamAt) → p.size ≡ length c + length n + length e + length v → p.tag ≡ true
    → p.value ≡ length c + length n + length e → p.len ≡ length v → 1 ≤ length v → ParamFound (c ++ (n ++ (e ++ v))) (v ∷ []) p
found_tagged c n e v p h t a l s =
    let k : length (c ++ (n ++ e)) ≡ length c + length n + length e = simp length-append (omega arith) in
    rw (assoc3 c n e v) (found_tag (c ++ (n ++ e)) (h ∙ sym (length-append (c ++ (n ++ e)) v ∙ ap (λ (i : ℕ). i + length v) k)) t (a ∙ sym k) l s)

-- ---- a parameter that is read is one

module _ (c n : List ℕ) (sc : Separator 59 c) where
  rest_other : OtherName n → (r : List ℕ) → ParamView (c ++ (n ++ r)) (param_rest (length c + length n) false r)
  unfolding param_rest
  rest_other o r = go r (sign 61 r) (sign_view 61 r)
    where
      valued : (e w : List ℕ) (l : ℕ) → Separator 61 e → ValueView w l
          → ParamView (c ++ (n ++ (e ++ w))) (cond (eqb l 0) no_param (record { size = length c + length n + length e + l; tag = false; value = length c + length n + length e; len = l }))
      valued e _ _ se (value_here {v} d l r) =
          rw (some_no (length v) l, ← assoc4 c n e v r) (some_param (name_value sc o se d) (found_value c n e v _ refl refl) r)
      valued e _ _ se no_value = without_param refl

      go : (r : List ℕ) (e : ℕ) → SignView 61 r e
          → ParamView (c ++ (n ++ r)) (cond (eqb e 0) (record { size = length c + length n; tag = false; value = length c + length n; len = 0 })
          (cond (eqb (param_value false (drop e r)) 0) no_param
          (record { size = length c + length n + e + param_value false (drop e r); tag = false; value = length c + length n + e; len = param_value false (drop e r) })))
      go r _ unsigned = rw (← append_assoc c n r) (some_param (name_alone sc o) (found_other (sym (length-append c n)) refl) r)
      go _ _ (signed {c = e} {r = w} se f) =
          rw (some_no (length e) (sign_some se), drop-append_seam e w) (valued e w (param_value false w) se (value_view w))

  rest_tag : AnyCase (text "tag") n → (r : List ℕ) → ParamView (c ++ (n ++ r)) (param_rest (length c + length n) true r)
  unfolding param_rest
  rest_tag o r = go r (sign 61 r) (sign_view 61 r)
    where
      valued : (e w : List ℕ) (l : ℕ) → Separator 61 e → TagView w l
          → ParamView (c ++ (n ++ (e ++ w))) (cond (eqb l 0) no_param (record { size = length c + length n + length e + l; tag = true; value = length c + length n + length e; len = l }))
      valued e _ _ se (tag_here {v} d l r) =
          rw (some_no (length v) d.some, ← assoc4 c n e v r) (some_param (tag_value sc o se d l) (found_tagged c n e v _ refl refl refl refl d.some) r)
      valued e _ _ se not_tag = without_param refl

      go : (r : List ℕ) (e : ℕ) → SignView 61 r e
          → ParamView (c ++ (n ++ r)) (cond (eqb e 0) no_param
          (cond (eqb (param_value true (drop e r)) 0) no_param
          (record { size = length c + length n + e + param_value true (drop e r); tag = true; value = length c + length n + e; len = param_value true (drop e r) })))
      go r _ unsigned = without_param refl
      go _ _ (signed {c = e} {r = w} se f) =
          rw (some_no (length e) (sign_some se), drop-append_seam e w) (valued e w (param_value true w) se (tag_view w))

  rest_view : Token n → (r : List ℕ) → ParamView (c ++ (n ++ r)) (param_rest (length c + length n) (same_text (text "tag") n) r)
  unfolding text all
  rest_view h r = go (same_text (text "tag") n) refl
    where
      go : (t : Bool) → same_text (text "tag") n ≡ t → ParamView (c ++ (n ++ r)) (param_rest (length c + length n) t r)
      go true e = rest_tag (same_case (text "tag") n refl e) r
      go false e = rest_other (record { token = h; other = λ d. let z : false ≡ true = sym e ∙ case_same d in never (cc) }) r

pub param_view : (s : List ℕ) → ParamView s (param s)
unfolding param
param_view s = go s (sign 59 s) (sign_view 59 s)
  where
    named : (c : List ℕ) → Separator 59 c → (r : List ℕ) (t : ℕ) → RunView is_token r t
        → ParamView (c ++ r) (cond (eqb (length c) 0 || eqb t 0) no_param (param_rest (length c + t) (same_text (text "tag") (take t r)) (drop t r)))
    named c sc _ _ (ran {x = []} {r} e f) = rw (some_no (length c) (sign_some sc)) (without_param refl)
    named c sc _ _ (ran {x = b ∷ n} {r} e f) =
        rw (some_no (length c) (sign_some sc), some_no (suc (length n)) (omega arith), take-append_seam n r, drop-append_seam n r)
        (rest_view c (b ∷ n) sc (record { some = omega arith; bytes = e }) r)

    go : (s : List ℕ) (c : ℕ) → SignView 59 s c
        → ParamView s (cond (eqb c 0 || eqb (run is_token (drop c s)) 0) no_param
        (param_rest (c + run is_token (drop c s)) (same_text (text "tag") (take (run is_token (drop c s)) (drop c s))) (drop (run is_token (drop c s)) (drop c s))))
    go s _ unsigned = without_param refl
    go _ _ (signed {c} {r} sc f) = rw (drop-append_seam c r) (named c sc r (run is_token r) (run_view is_token r))

-- ---- a parameter is read

-- what follows does not continue a parameter
pub record After (r : List ℕ) : Type 0 where
  pub no_token : Ends is_token r
  pub no_equals : sign 61 r ≡ 0

param_step : {c n : List ℕ} → Separator 59 c → Token n → (r : List ℕ) → Ends is_token r
    → param (c ++ (n ++ r)) ≡ param_rest (length c + length n) (same_text (text "tag") n) r
unfolding param is_blank
param_step {c} {n} sc h r f =
    rw (
      sign_exact 59 refl sc (token_no_blank n r h),
      drop-append_seam c (n ++ r),
      run_of h.bytes f,
      take-append_seam n r,
      drop-append_seam n r,
      some_no (length c) (sign_some sc),
      some_no (length n) h.some,
    )

rest_step : (k : ℕ) (t : Bool) {e : List ℕ} → Separator 61 e → (w : List ℕ) (l : ℕ) → Ends is_blank w → param_value t w ≡ l → 1 ≤ l
    → param_rest k t (e ++ w) ≡ record { size = k + length e + l; tag = t; value = k + length e; len = l }
unfolding param_rest is_blank
rest_step k t {e} se w l f q h =
    rw (sign_exact 61 refl se f, drop-append_seam e w, q, some_no (length e) (sign_some se), some_no l h)

equals_no_token : {e : List ℕ} → Separator 61 e → (r : List ℕ) → Ends is_token (e ++ r)
unfolding is_token
equals_no_token se r = sign_stops is_token blank_token refl se r

pub tag_token : {n : List ℕ} → AnyCase (text "tag") n → Token n
unfolding text is_token all
tag_token e = word_token e refl (omega arith)

not_tag_text : {n : List ℕ} → OtherName n → same_text (text "tag") n ≡ false
unfolding text all
not_tag_text {n} o = other_word (text "tag") n refl o.other

pub param_of : {x : List ℕ} {ts : List (List ℕ)} → Param x ts → (r : List ℕ) → After r → ParamFound x ts (param (x ++ r))
unfolding param_rest
param_of (name_alone {c} {n} sc o) r a =
    let q : param ((c ++ n) ++ r) ≡ record { size = length c + length n; tag = false; value = length c + length n; len = 0 }
    = ap param (append_assoc c n r) ∙ param_step sc o.token r a.no_token ∙ rw (not_tag_text o, a.no_equals) in
    rw q (found_other (sym (length-append c n)) refl)
param_of (name_value {c} {n} {e} {v} sc o se d) r a =
    let q : param ((c ++ (n ++ (e ++ v))) ++ r)
    ≡ record { size = length c + length n + length e + length v; tag = false; value = length c + length n + length e; len = length v }
    = ap param (assoc4 c n e v r) ∙ param_step sc o.token (e ++ (v ++ r)) (equals_no_token se (v ++ r))
    ∙ rw (not_tag_text o) (rest_step (length c + length n) false se (v ++ r) (length v) (value_no_blank d r) (value_of d r a.no_token) (value_some d)) in
    rw q (found_value c n e v _ refl refl)
param_of (tag_value {c} {n} {e} {v} sc o se d l) r a =
    let q : param ((c ++ (n ++ (e ++ v))) ++ r)
    ≡ record { size = length c + length n + length e + length v; tag = true; value = length c + length n + length e; len = length v }
    = ap param (assoc4 c n e v r) ∙ param_step sc (tag_token o) (e ++ (v ++ r)) (equals_no_token se (v ++ r))
    ∙ rw (case_same o) (rest_step (length c + length n) true se (v ++ r) (length v) (token_no_blank v r d) (tag_of d l r a.no_token) d.some) in
    rw q (found_tagged c n e v _ refl refl refl refl d.some)
