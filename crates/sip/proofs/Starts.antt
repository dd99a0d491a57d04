-- Reading the bytes of a well-shaped start line gives it back, and every start line that is read is one: request lines, status lines, and
-- both.
use mathlib.Core.Path.{◌≡◌, refl, sym, ap, ◌∙◌}
use mathlib.Core.Bool.{Bool, true, false, false≢true, cond, ◌&&◌}
use mathlib.Core.List.{List, [], ◌∷◌, ◌++◌, append_assoc}
use mathlib.Core.Option.{Option, none, some}
use Prim.Native.Nat.{ℕ, ◌+◌}
use native.Mathlib.Omega.{arith}
use lib.Dec.{eqb}
use lib.ListN.{length, take, drop, length-append, take-append-drop}
use lib.Seq.{length-take-le, take-append_seam, drop-append_seam, take_at, drop_at, drop-drop}
use borrow.Author.Tests.{eqb-true, eq-eqb}
use Rattle.octets.specs.Classes.{text, within, is_token, is_digit, is_value, is_visible}
use Rattle.octets.specs.Scans.{run, all, starts, lower, same_text}
use Rattle.sip.specs.Lines.{RequestLine, StatusLine, Start, request, response, is_version, is_version_first, starts_crlf, crlf}
use Rattle.sip.specs.Lines.{request_line, status_line, start_of, start, start_bytes, start_size}
use Rattle.sip.specs.Promises.{OneKind}
use Rattle.sip.specs.Change.{RequestShaped, StatusShaped, StartShaped}
use Rattle.octets.proofs.Runs.{run_no, run_exact, run_all, run_le}
use Rattle.octets.proofs.Texts.{same_text_length}
use Rattle.sip.proofs.Tests.{never, range_low, range_high, in_range, byte_start}
use Rattle.sip.proofs.ValueSizes.{not_none, crlf_start}
use Rattle.sip.proofs.Texts.{same_parts, lower_sign, same_token}

-- ---- from the start line to what is read

pub version_size : (v : List ℕ) → is_version v ≡ true → length v ≡ 10
unfolding is_version text
version_size v e = sym (same_text_length (text " SIP/2.0\r\n") v e)

-- no visible byte: a space comes first
version_space : (v t : List ℕ) → is_version v ≡ true → run is_visible (v ++ t) ≡ 0
unfolding is_version text same_text is_visible
version_space [] t e = absurd (false≢true e)
version_space (b ∷ v) t e = run_no is_visible b (v ++ t) (rw (lower_sign 32 b (omega arith) (same_parts 32 b (text "SIP/2.0\r\n") v e).0))

module _ (l : RequestLine) (version t : List ℕ) where
  pub whole : start_bytes (request l) version ++ t ≡ l.method ++ 32 ∷ (l.uri ++ (version ++ t))
  whole = simp append_assoc

  after_method : drop (length l.method) (start_bytes (request l) version ++ t) ≡ 32 ∷ (l.uri ++ (version ++ t))
  after_method = rw whole (drop-append_seam l.method _)

  pub after_space : drop (length l.method + 1) (start_bytes (request l) version ++ t) ≡ l.uri ++ (version ++ t)
  after_space = rw (← drop-drop 1 (length l.method) (start_bytes (request l) version ++ t), after_method)

  after_uri : drop (length l.method + 1 + length l.uri) (start_bytes (request l) version ++ t) ≡ version ++ t
  after_uri = rw (← drop-drop (length l.uri) (length l.method + 1) (start_bytes (request l) version ++ t), after_space) (drop-append_seam l.uri _)

  module _ (w : RequestShaped l version) where
    pub request_rest : drop (start_size (request l)) (start_bytes (request l) version ++ t) ≡ t
    request_rest =
        rw (← drop-drop 10 (length l.method + 1 + length l.uri) (start_bytes (request l) version ++ t), after_uri)
        (drop_at version t 10 (version_size version w.version_written))

    -- the bytes of the line are the first ones
    pub request_taken : take (start_size (request l)) (start_bytes (request l) version ++ t) ≡ start_bytes (request l) version
    request_taken =
        let v = version_size version w.version_written in
        let n : length (start_bytes (request l) version) ≡ start_size (request l) =
        rw (length-append l.method (32 ∷ (l.uri ++ version)), length-append l.uri version, v) (omega arith) in
        take_at (start_bytes (request l) version) t (start_size (request l)) n

    pub request_bytes : request_line (start_bytes (request l) version ++ t) ≡ some l
    unfolding request_line starts is_token
    request_bytes =
        let m : run is_token (start_bytes (request l) version ++ t) ≡ length l.method =
        rw whole (run_exact is_token l.method _ w.method_token (run_no is_token 32 _ refl)) in
        let u : run is_visible (l.uri ++ (version ++ t)) ≡ length l.uri =
        run_exact is_visible l.uri _ w.uri_visible (version_space version t w.version_written) in
        let mr : within 1 32 (length l.method) ≡ true = in_range 1 32 (length l.method) w.method_long w.method_short in
        let ur : within 1 256 (length l.uri) ≡ true = in_range 1 256 (length l.uri) w.uri_long w.uri_short in
        let v : take 10 (version ++ t) ≡ version = take_at version t 10 (version_size version w.version_written) in
        rw (m, after_space, u, after_method, after_uri, v, mr, ur, w.version_written, whole, take-append_seam l.method, take-append_seam l.uri)

-- ---- from what is read to the start line

-- the start line that is read stands at the front
pub record StartHere (s : List ℕ) (l : Start) : Type 0 where
  pub version : List ℕ
  pub shaped : StartShaped l version
  pub here : start_bytes l version ++ drop (start_size l) s ≡ s

module _ (s : List ℕ) (m u : ℕ) (method : m ≡ run is_token s) (uri : u ≡ run is_visible (drop (m + 1) s)) where
  parts_here :
      within 1 32 m ≡ true → starts 32 (drop m s) ≡ true → within 1 256 u ≡ true → is_version (take 10 (drop (m + 1 + u) s)) ≡ true
      → StartHere s (request (record { method = take m s; uri = take u (drop (m + 1) s) }))
  parts_here mr q ur v =
      let lm : length (take m s) ≡ m = length-take-le m s (rw method (run_le is_token s)) in
      let lu : length (take u (drop (m + 1) s)) ≡ u = length-take-le u (drop (m + 1) s) (rw uri (run_le is_visible (drop (m + 1) s))) in
      let space : drop m s ≡ 32 ∷ drop (m + 1) s = byte_start 32 (drop m s) q ∙ ap (λ (x : List ℕ). 32 ∷ x) (drop-drop 1 m s) in
      let l : RequestLine = record { method = take m s; uri = take u (drop (m + 1) s) } in
      let version : List ℕ = take 10 (drop (m + 1 + u) s) in
      record {
        version = version;
        shaped =
            record {
              method_long = rw lm (range_low 1 32 m mr);
              method_short = rw lm (range_high 1 32 m mr);
              method_token = rw method (run_all is_token s);
              uri_long = rw lu (range_low 1 256 u ur);
              uri_short = rw lu (range_high 1 256 u ur);
              uri_visible = rw uri (run_all is_visible (drop (m + 1) s));
              version_written = v;
            };
        here =
            rw (
              lm,
              lu,
              whole l version (drop (m + 1 + u + 10) s),
              ← drop-drop 10 (m + 1 + u) s,
              take-append-drop 10 (drop (m + 1 + u) s),
              ← drop-drop u (m + 1) s,
              take-append-drop u (drop (m + 1) s),
              ← space,
              take-append-drop m s,
            );
      }

request_here : (s : List ℕ) (l : RequestLine) → request_line s ≡ some l → StartHere s (request l)
unfolding request_line
request_here s l e = go (within 1 32 m) (starts 32 (drop m s)) (within 1 256 u) (is_version (take 10 (drop (m + 1 + u) s))) refl refl refl refl e
  where
    m : ℕ
    m = run is_token s

    u : ℕ
    u = run is_visible (drop (m + 1) s)

    go : (a b c d : Bool) → within 1 32 m ≡ a → starts 32 (drop m s) ≡ b → within 1 256 u ≡ c → is_version (take 10 (drop (m + 1 + u) s)) ≡ d
        → cond (a && (b && (c && d))) (some (record { method = take m s; uri = take u (drop (m + 1) s) })) none ≡ some l → StartHere s (request l)
    go false b c d p q r v e = not_none e
    go true false c d p q r v e = not_none e
    go true true false d p q r v e = not_none e
    go true true true false p q r v e = not_none e
    go true true true true p q r v e =
        let k : l ≡ record { method = take m s; uri = take u (drop (m + 1) s) } = cc in
        rw k (parts_here s m u refl refl p q r v)

-- ---- the same of a status line

first_size : (v : List ℕ) → is_version_first v ≡ true → length v ≡ 8
unfolding is_version_first text
first_size v e = sym (same_text_length (text "SIP/2.0 ") v e)

three_token : (s : List ℕ) → run is_token s ≡ 3 → starts 32 (drop 3 s) ≡ false → request_line s ≡ none
unfolding request_line
three_token s k f = rw (k, f)

-- it begins no request line: a `/` follows a token of three bytes
not_request : (v t : List ℕ) → is_version_first v ≡ true → request_line (v ++ t) ≡ none
unfolding is_version_first text same_text all is_token starts
not_request [] t e = absurd (false≢true e)
not_request (a ∷ []) t e = never (cc (same_parts 83 a (text "IP/2.0 ") [] e).1)
not_request (a ∷ b ∷ []) t e = never (cc (same_parts 73 b (text "P/2.0 ") [] (same_parts 83 a (text "IP/2.0 ") (b ∷ []) e).1).1)
not_request (a ∷ b ∷ c ∷ []) t e =
    never (cc (same_parts 80 c (text "/2.0 ") [] (same_parts 73 b (text "P/2.0 ") (c ∷ []) (same_parts 83 a (text "IP/2.0 ") (b ∷ c ∷ []) e).1).1).1)
not_request (a ∷ b ∷ c ∷ d ∷ v) t e =
    let (p, e1) = same_parts 83 a (text "IP/2.0 ") (b ∷ c ∷ d ∷ v) e in
    let (q, e2) = same_parts 73 b (text "P/2.0 ") (c ∷ d ∷ v) e1 in
    let (r, e3) = same_parts 80 c (text "/2.0 ") (d ∷ v) e2 in
    let slash : d ≡ 47 = lower_sign 47 d (omega arith) (same_parts 47 d (text "2.0 ") v e3).0 in
    let named : same_text (text "SIP") (a ∷ b ∷ c ∷ []) ≡ true
    = rw (eq-eqb (lower 83) (lower a) p, eq-eqb (lower 73) (lower b) q, eq-eqb (lower 80) (lower c) r) in
    let token : run is_token (a ∷ b ∷ c ∷ d ∷ v ++ t) ≡ 3
    = run_exact is_token (a ∷ b ∷ c ∷ []) (d ∷ v ++ t) (same_token (text "SIP") (a ∷ b ∷ c ∷ []) named refl) (run_no is_token d (v ++ t) (rw slash)) in
    three_token (a ∷ b ∷ c ∷ d ∷ v ++ t) token (rw slash)

module _ (l : StatusLine) (version t : List ℕ) (w : StatusShaped l version) where
  status_whole : start_bytes (response l) version ++ t ≡ version ++ (l.code ++ 32 ∷ (l.phrase ++ (crlf ++ t)))
  status_whole = simp append_assoc

  pub after_version : drop 8 (start_bytes (response l) version ++ t) ≡ l.code ++ 32 ∷ (l.phrase ++ (crlf ++ t))
  after_version = rw status_whole (drop_at version _ 8 (first_size version w.version_written))

  after_code : drop 11 (start_bytes (response l) version ++ t) ≡ 32 ∷ (l.phrase ++ (crlf ++ t))
  after_code = rw (← drop-drop 3 8 (start_bytes (response l) version ++ t), after_version) (drop_at l.code _ 3 w.code_long)

  before_phrase : drop 12 (start_bytes (response l) version ++ t) ≡ l.phrase ++ (crlf ++ t)
  before_phrase = rw (← drop-drop 1 11 (start_bytes (response l) version ++ t), after_code)

  after_phrase : drop (12 + length l.phrase) (start_bytes (response l) version ++ t) ≡ crlf ++ t
  after_phrase = rw (← drop-drop (length l.phrase) 12 (start_bytes (response l) version ++ t), before_phrase) (drop-append_seam l.phrase _)

  status_rest : drop (start_size (response l)) (start_bytes (response l) version ++ t) ≡ t
  status_rest =
      let k : start_size (response l) ≡ 12 + length l.phrase + 2 = omega (arith, w.code_long) in
      rw (k, ← drop-drop 2 (12 + length l.phrase) (start_bytes (response l) version ++ t), after_phrase)

  status_bytes : status_line (start_bytes (response l) version ++ t) ≡ some l
  unfolding status_line starts starts_crlf is_digit is_value
  status_bytes =
      let v : take 8 (start_bytes (response l) version ++ t) ≡ version
      = rw status_whole (take_at version _ 8 (first_size version w.version_written)) in
      let c : run is_digit (l.code ++ 32 ∷ (l.phrase ++ (crlf ++ t))) ≡ 3
      = run_exact is_digit l.code _ w.code_digits (run_no is_digit 32 _ refl) ∙ w.code_long in
      let p : run is_value (l.phrase ++ (crlf ++ t)) ≡ length l.phrase
      = run_exact is_value l.phrase _ w.phrase_values (run_no is_value 13 _ refl) in
      let code : take 3 (l.code ++ 32 ∷ (l.phrase ++ (crlf ++ t))) ≡ l.code = take_at l.code _ 3 w.code_long in
      rw (v, after_version, c, before_phrase, p, after_code, after_phrase, w.version_written, code, take-append_seam l.phrase)

-- the status line that is read
module _ (s : List ℕ) (p : ℕ) (phrase : p ≡ run is_value (drop 12 s)) where
  status_parts :
      is_version_first (take 8 s) ≡ true → run is_digit (drop 8 s) ≡ 3 → starts 32 (drop 11 s) ≡ true → starts_crlf (drop (12 + p) s) ≡ true
      → StartHere s (response (record { code = take 3 (drop 8 s); phrase = take p (drop 12 s) }))
  status_parts v c q e =
      let three : length (take 3 (drop 8 s)) ≡ 3 = length-take-le 3 (drop 8 s) (rw c at (run_le is_digit (drop 8 s))) in
      let lp : length (take p (drop 12 s)) ≡ p = length-take-le p (drop 12 s) (rw phrase (run_le is_value (drop 12 s))) in
      let space : drop 11 s ≡ 32 ∷ drop 12 s = byte_start 32 (drop 11 s) q ∙ ap (λ (x : List ℕ). 32 ∷ x) (drop-drop 1 11 s) in
      let end : crlf ++ drop (12 + p + 2) s ≡ drop (12 + p) s = ap (λ (x : List ℕ). crlf ++ x) (sym (drop-drop 2 (12 + p) s)) ∙ crlf_start (drop (12 + p) s) e in
      let l : StatusLine = record { code = take 3 (drop 8 s); phrase = take p (drop 12 s) } in
      let digits : all is_digit (take 3 (drop 8 s)) ≡ true = rw c at (run_all is_digit (drop 8 s)) in
      let shaped : StatusShaped l (take 8 s)
      = record { version_written = v; code_long = three; code_digits = digits; phrase_values = rw phrase (run_all is_value (drop 12 s)) } in
      let k : start_size (response l) ≡ 12 + p + 2 = omega arith in
      record {
        version = take 8 s;
        shaped = shaped;
        here =
            rw (
              k,
              status_whole l (take 8 s) (drop (12 + p + 2) s) shaped,
              end,
              ← drop-drop p 12 s,
              take-append-drop p (drop 12 s),
              ← space,
              ← drop-drop 3 8 s,
              take-append-drop 3 (drop 8 s),
              take-append-drop 8 s,
            );
      }

status_here : (s : List ℕ) (l : StatusLine) → status_line s ≡ some l → StartHere s (response l)
unfolding status_line
status_here s l e =
    go (is_version_first (take 8 s)) (eqb (run is_digit (drop 8 s)) 3) (starts 32 (drop 11 s)) (starts_crlf (drop (12 + p) s)) refl refl refl refl e
  where
    p : ℕ
    p = run is_value (drop 12 s)

    go : (a b c d : Bool) → is_version_first (take 8 s) ≡ a → eqb (run is_digit (drop 8 s)) 3 ≡ b → starts 32 (drop 11 s) ≡ c
        → starts_crlf (drop (12 + p) s) ≡ d
        → cond (a && (b && (c && d))) (some (record { code = take 3 (drop 8 s); phrase = take p (drop 12 s) })) none ≡ some l → StartHere s (response l)
    go false b c d x y z u e = not_none e
    go true false c d x y z u e = not_none e
    go true true false d x y z u e = not_none e
    go true true true false x y z u e = not_none e
    go true true true true x y z u e =
        let k : l ≡ record { code = take 3 (drop 8 s); phrase = take p (drop 12 s) } = cc in
        rw k (status_parts s p refl x (eqb-true (run is_digit (drop 8 s)) 3 y) z u)

-- ---- and of both

pub start_rest : (l : Start) (version t : List ℕ) → StartShaped l version → drop (start_size l) (start_bytes l version ++ t) ≡ t
start_rest (request l) version t w = request_rest l version t w
start_rest (response l) version t w = status_rest l version t w

pub start_bytes_lem : (l : Start) (version t : List ℕ) → StartShaped l version → start (start_bytes l version ++ t) ≡ some l
unfolding start
start_bytes_lem (request l) version t w = rw (request_bytes l version t w)
start_bytes_lem (response l) version t w =
    rw (status_bytes l version t w, status_whole l version t w) (rw (not_request version _ w.version_written))

pub start_here : (s : List ℕ) (l : Start) → start s ≡ some l → StartHere s l
unfolding start
start_here s l e = go (request_line s) (status_line s) refl refl e
  where
    go : (o : Option RequestLine) (a : Option StatusLine) → request_line s ≡ o → status_line s ≡ a → start_of o a ≡ some l → StartHere s l
    go (some k) a p q e = let x : l ≡ request k = cc in rw x (request_here s k p)
    go none (some k) p q e = let x : l ≡ response k = cc in rw x (status_here s k q)
    go none none p q e = not_none e

-- the version at the front of a status line begins no request line
pub one_kind : OneKind
one_kind s l a p q =
    let h = status_here s a q in
    let t : List ℕ = drop (start_size (response a)) s in
    let r : request_line (start_bytes (response a) h.version ++ t) ≡ none
    = rw (status_whole a h.version t h.shaped) (not_request h.version _ h.shaped.version_written) in
    not_none (sym (rw h.here at r) ∙ p)
