-- The start line of a message is its first line: all its bytes up to its CRLF are value bytes, each kind of byte by its class.
use mathlib.Core.Path.{◌≡◌, refl, sym, ap, ◌∙◌}
use mathlib.Core.Bool.{Bool, true, false, cond, ◌||◌, or-true}
use mathlib.Core.List.{List, [], ◌∷◌, ◌++◌, append_assoc}
use mathlib.Core.Option.{some}
use Prim.Native.Nat.{ℕ, suc, ◌+◌, ◌≤◌}
use native.Mathlib.Omega.{arith}
use lib.Dec.{eqb}
use lib.ListN.{length, take, drop, take-append-drop}
use borrow.Author.Tests.{eqb-true}
use Rattle.octets.specs.Classes.{text, within, among, is_token, is_digit, is_value, is_visible}
use Rattle.octets.specs.Scans.{run, all, lower, same_text}
use Rattle.octets.proofs.Runs.{run_yes, run_no, run_append, run_exact}
use Rattle.octets.proofs.Texts.{same_text_length}
use Rattle.sip.specs.Lines.{crlf, RequestLine, StatusLine, Start, request, response, is_version, is_version_first, start, start_bytes, start_size}
use Rattle.sip.specs.Change.{RequestShaped, StatusShaped, StartShaped}
use Rattle.sip.proofs.Starts.{start_here}
use Rattle.sip.proofs.Tests.{range_low, range_high, in_range, all_first, all_others}
use Rattle.sip.proofs.Texts.{same_parts, same_signs, same_front}
use Rattle.lines.proofs.Values.{never}

-- ---- the classes of its bytes

range_value : (lo hi b : ℕ) → 32 ≤ lo → hi ≤ 126 → within lo hi b ≡ true → is_value b ≡ true
unfolding is_value
range_value lo hi b l h e = simp (in_range 32 126 b (omega (arith, range_low lo hi b e)) (omega (arith, range_high lo hi b e)), or-true)

either : (s t : Bool) {A : Type 0} → (s || t) ≡ true → (s ≡ true → A) → (t ≡ true → A) → A
either true t e f g = f refl
either false t e f g = g e

among_value : (xs : List ℕ) (b : ℕ) → all is_value xs ≡ true → among xs b ≡ true → is_value b ≡ true
among_value [] b a e = never e
among_value (x ∷ xs) b a e =
    either (eqb b x) (among xs b) e (λ q. rw (eqb-true b x q) (all_first is_value x xs a)) (among_value xs b (all_others is_value x xs a))

pub visible_value : (b : ℕ) → is_visible b ≡ true → is_value b ≡ true
unfolding is_visible
visible_value b e = range_value 33 126 b (omega arith) (omega arith) e

digit_value : (b : ℕ) → is_digit b ≡ true → is_value b ≡ true
unfolding is_digit
digit_value b e = range_value 48 57 b (omega arith) (omega arith) e

token_value : (b : ℕ) → is_token b ≡ true → is_value b ≡ true
unfolding is_token is_value all
token_value b e =
    either ((within 65 90 b || within 97 122 b) || within 48 57 b) (among (text "-.!%*_+`'~") b) e
    (λ p. either (within 65 90 b || within 97 122 b) (within 48 57 b) p
    (λ q. either (within 65 90 b) (within 97 122 b) q
    (range_value 65 90 b (omega arith) (omega arith))
    (range_value 97 122 b (omega arith) (omega arith)))
    (range_value 48 57 b (omega arith) (omega arith)))
    (among_value (text "-.!%*_+`'~") b refl)

all_value : (p : ℕ → Bool) → ((b : ℕ) → p b ≡ true → is_value b ≡ true) → (s : List ℕ) → all p s ≡ true → all is_value s ≡ true
unfolding all
all_value p f [] e = refl
all_value p f (b ∷ s) e = rw (f b (all_first p b s e), all_value p f s (all_others p b s e))

-- ---- the version in any letter case

lower_value : (b : ℕ) → is_value (lower b) ≡ is_value b
unfolding lower
lower_value b = go (within 65 90 b) refl
  where
    go : (t : Bool) → within 65 90 b ≡ t → is_value (cond t (b + 32) b) ≡ is_value b
    go true q =
        let small : within 97 122 (b + 32) ≡ true
        = in_range 97 122 (b + 32) (omega (arith, range_low 65 90 b q)) (omega (arith, range_high 65 90 b q)) in
        range_value 97 122 (b + 32) (omega arith) (omega arith) small ∙ sym (range_value 65 90 b (omega arith) (omega arith) q)
    go false q = refl

same_value : (xs ys : List ℕ) → same_text xs ys ≡ true → all is_value xs ≡ true → all is_value ys ≡ true
unfolding same_text all
same_value [] [] e a = refl
same_value [] (y ∷ ys) e a = never e
same_value (x ∷ xs) [] e a = refl
same_value (x ∷ xs) (y ∷ ys) e a =
    let (p, q) = same_parts x y xs ys e in
    let v : is_value y ≡ true = sym (lower_value y) ∙ ap is_value (sym p) ∙ lower_value x ∙ all_first is_value x xs a in
    rw (v, same_value xs ys q (all_others is_value x xs a))

-- eight value bytes, and CRLF
version_run : (v t : List ℕ) → is_version v ≡ true → run is_value (v ++ t) ≡ 8
unfolding is_version text all is_value
version_run v t e =
    let (a, b) = same_front (text " SIP/2.0") crlf v e in
    let eight : length (take 8 v) ≡ 8 = sym (same_text_length (text " SIP/2.0") (take 8 v) a) in
    let ends : drop 8 v ≡ crlf = same_signs crlf (drop 8 v) refl b in
    let parts : take 8 v ++ (crlf ++ t) ≡ v ++ t =
    ap (λ (x : List ℕ). take 8 v ++ (x ++ t)) (sym ends) ∙ sym (append_assoc (take 8 v) (drop 8 v) t) ∙ rw (take-append-drop 8 v) in
    rw (← parts) (run_exact is_value (take 8 v) (crlf ++ t) (same_value (text " SIP/2.0") (take 8 v) a refl) (run_no is_value 13 (10 ∷ t) refl) ∙ eight)

first_run : (v t : List ℕ) → is_version_first v ≡ true → run is_value (v ++ t) ≡ 8 + run is_value t
unfolding is_version_first text all is_value
first_run v t e =
    omega (arith, run_append is_value v t (same_value (text "SIP/2.0 ") v e refl), same_text_length (text "SIP/2.0 ") v e)

-- ---- the line

space_run : (s : List ℕ) → run is_value (32 ∷ s) ≡ suc (run is_value s)
unfolding is_value
space_run s = run_yes is_value 32 s refl

request_run : (l : RequestLine) (v t : List ℕ) → RequestShaped l v → start_size (request l) ≡ run is_value (start_bytes (request l) v ++ t) + 2
request_run l v t w =
    let whole : start_bytes (request l) v ++ t ≡ l.method ++ 32 ∷ (l.uri ++ (v ++ t)) = simp append_assoc in
    let m = run_append is_value l.method (32 ∷ (l.uri ++ (v ++ t))) (all_value is_token token_value l.method w.method_token) in
    let u = run_append is_value l.uri (v ++ t) (all_value is_visible visible_value l.uri w.uri_visible) in
    rw whole (omega (arith, m, space_run (l.uri ++ (v ++ t)), u, version_run v t w.version_written))

status_run : (l : StatusLine) (v t : List ℕ) → StatusShaped l v → start_size (response l) ≡ run is_value (start_bytes (response l) v ++ t) + 2
unfolding is_value
status_run l v t w =
    let whole : start_bytes (response l) v ++ t ≡ v ++ (l.code ++ 32 ∷ (l.phrase ++ (crlf ++ t))) = simp append_assoc in
    let f = first_run v (l.code ++ 32 ∷ (l.phrase ++ (crlf ++ t))) w.version_written in
    let c = run_append is_value l.code (32 ∷ (l.phrase ++ (crlf ++ t))) (all_value is_digit digit_value l.code w.code_digits) in
    let p = run_exact is_value l.phrase (crlf ++ t) w.phrase_values (run_no is_value 13 (10 ∷ t) refl) in
    rw whole (omega (arith, f, c, space_run (l.phrase ++ (crlf ++ t)), p))

pub first_line : (m : List ℕ) (l : Start) → start m ≡ some l → start_size l ≡ run is_value m + 2
first_line m l e =
    let h = start_here m l e in
    go l h.version h.shaped ∙ ap (λ (s : List ℕ). run is_value s + 2) h.here
  where
    t : List ℕ
    t = drop (start_size l) m

    go : (k : Start) (v : List ℕ) → StartShaped k v → start_size k ≡ run is_value (start_bytes k v ++ t) + 2
    go (request k) v w = request_run k v t w
    go (response k) v w = status_run k v t w
