-- The start line by the tests of its readers: each test is one part of the condition of `request_line`; and the lengths of either kind, by
-- the line that is read.
use mathlib.Core.Path.{◌≡◌, refl, sym, ap, ◌∙◌}
use mathlib.Core.Bool.{Bool, true, false, not, ◌&&◌, and-eq-true_iff}
use mathlib.Core.List.{List}
use mathlib.Core.Option.{Option, none, some}
use Rattle.std.specs.Prelude.{Option as Answer, None, Some, IfSome}
use Prim.Native.Nat.{ℕ, ◌+◌, ◌-◌, ◌≤◌, ◌<◌}
use native.Mathlib.Omega.{arith}
use lib.Dec.{leb}
use lib.ListN.{length, take, drop, get_or, drop_of_length-le, length-append, length-take, length-drop}
use lib.Seq.{length-take-le, drop-drop}
use borrow.Author.Tests.{ne_eqb, leb-true, le-leb, lt-leb, not-true, not-false}
use Rattle.octets.specs.Classes.{text, within, is_token, is_visible}
use Rattle.octets.specs.Scans.{run, starts, same, same_text}
use Rattle.octets.proofs.Places.{drop1}
use Rattle.octets.proofs.Runs.{run_le}
use Rattle.octets.proofs.Texts.{same_text_length}
use Rattle.sip.specs.Lines.{RequestLine, Start, request, response, is_version, is_version_first, request_line, status_line, start_of, start, start_bytes, start_size}
use Rattle.sip.specs.Change.{StartShaped}
use Rattle.sip.proofs.Starts.{start_here}
use Rattle.lines.specs.Places.{start_places, start_at}
use Rattle.lines.specs.Index.{method_of, uri_of, HasMethod}
use Rattle.lines.specs.Passes.{lengths_of, request_at, status_at, line_size, start_lengths}
use Rattle.lines.specs.Sizes.{uri_size}
use Rattle.lines.specs.declared.StartLine.{StartLine}
use Rattle.lines.specs.declared.StartLine.TheVariants.{Request, Status}
use Rattle.lines.proofs.Quads.{same_is}

-- ---- the version

version_fits : (t : List ℕ) → is_version (take 10 t) ≡ true → 10 ≤ length t
unfolding is_version text
version_fits t e = omega (arith, same_text_length (text " SIP/2.0\r\n") (take 10 t) e, length-take 10 t)

module _ (s : List ℕ) (at : ℕ) where
  pub too_short : length s - at < 10 → false ≡ is_version (take 10 (drop at s))
  too_short h = go (is_version (take 10 (drop at s))) refl
    where
      go : (t : Bool) → is_version (take 10 (drop at s)) ≡ t → false ≡ t
      go true e = absurd (omega (arith, version_fits (drop at s) e, length-drop at s))
      go false e = refl

  abbrev version : Bool
  version = is_version (take 10 (drop at s))

  pub told_version : {b : Bool} → b ≡ same (take 10 (drop at s)) (text " SIP/2.0\r\n") → b ≡ true → b ≡ version
  unfolding is_version same_text text
  told_version e q = let z = same_is (take 10 (drop at s)) (text " SIP/2.0\r\n") (sym e ∙ q) in q ∙ rw z

  pub compared_version : {e : ℕ} → e ≡ at + 10 → {g : Bool} → g ≡ same_text (text " SIP/2.0\r\n") (take (e - at) (drop at s)) → g ≡ version
  unfolding is_version
  compared_version {e} z q = let y : e - at ≡ 10 = omega arith in q ∙ rw y

-- ---- the Request-URI

-- it ends at e
module _ (s : List ℕ) (at : ℕ) {e : ℕ} (he : e ≡ at + run is_visible (drop at s)) where
  u_is : run is_visible (drop at s) ≡ e - at
  u_is = omega arith

  pub uri_short : {u : ℕ} → u ≡ e - at → u < 1 → 0 ≡ uri_size (drop at s)
  unfolding uri_size
  uri_short {u = u} hu h = rw (u_is, ← hu, lt-leb 1 u h)

  module _ {u : ℕ} (hu : u ≡ e - at) (a : 1 ≤ u) where
    pub uri_long : 256 < u → 0 ≡ uri_size (drop at s)
    unfolding uri_size
    uri_long h = let l : 1 ≤ u = omega arith in rw (u_is, ← hu, le-leb 1 u l, lt-leb u 256 h)

    module _ (b : u ≤ 256) {g : Bool} (hg : g ≡ is_version (take 10 (drop e s))) where
      version_is : is_version (take 10 (drop u (drop at s))) ≡ g
      version_is = let z : at + u ≡ e = omega arith in rw (drop-drop u at s, z) (sym hg)

      pub no_version : not g ≡ true → 0 ≡ uri_size (drop at s)
      unfolding uri_size
      no_version q = rw (u_is, ← hu, version_is, not-true g q, le-leb 1 u (omega arith), le-leb u 256 b)

      pub a_version : not g ≡ false → u ≡ uri_size (drop at s)
      unfolding uri_size
      a_version q = rw (u_is, ← hu, version_is, not-false g q, le-leb 1 u (omega arith), le-leb u 256 b)

-- ---- the whole line

-- what follows the method and its space is good
abbrev good_uri : List ℕ → Bool
good_uri w = within 1 256 (run is_visible w) && is_version (take 10 (drop (run is_visible w) w))

uri_no : (w : List ℕ) → uri_size w < 1 → good_uri w ≡ false
unfolding uri_size
uri_no w h = go (good_uri w) refl
  where
    go : (t : Bool) → good_uri w ≡ t → t ≡ false
    go true e =
        let z : uri_size w ≡ run is_visible w = rw e in
        let i = (and-eq-true_iff (within 1 256 (run is_visible w)) (is_version (take 10 (drop (run is_visible w) w)))).0 e in
        let j = (and-eq-true_iff (leb 1 (run is_visible w)) (leb (run is_visible w) 256)).0 i.0 in
        absurd (omega (arith, leb-true 1 (run is_visible w) j.0))
    go false e = refl

uri_yes : (w : List ℕ) → 1 ≤ uri_size w → (good_uri w ≡ true) × (run is_visible w ≡ uri_size w)
unfolding uri_size
uri_yes w h = go (good_uri w) refl
  where
    go : (t : Bool) → good_uri w ≡ t → (good_uri w ≡ true) × (run is_visible w ≡ uri_size w)
    go true e = (e, rw e)
    go false e = let z : uri_size w ≡ 0 = rw e in absurd (omega arith)

module _ (s : List ℕ) (m : ℕ) (hm : m ≡ 0 + run is_token (drop 0 s)) where
  m_is : run is_token s ≡ m
  m_is = omega arith

  pub method_short : m < 1 → None ≡ request_at s
  unfolding request_at request_line
  method_short h = rw (m_is, lt-leb 1 m h)

  pub method_long : 32 < m → None ≡ request_at s
  unfolding request_at request_line
  method_long h = let l : 1 ≤ m = omega arith in rw (m_is, le-leb 1 m l, lt-leb m 32 h)

  module _ (a : 1 ≤ m) (b : m ≤ 32) where
    no_space_at : starts 32 (drop m s) ≡ false → None ≡ request_at s
    unfolding request_at request_line
    no_space_at q = rw (m_is, le-leb 1 m a, le-leb m 32 b, q)

    pub method_last : length s ≤ m → None ≡ request_at s
    unfolding starts
    method_last h = no_space_at (rw (drop_of_length-le s h))

    pub no_space : m < length s → (get_or s m 0 ≡ 32 → ⊥) → None ≡ request_at s
    unfolding starts
    no_space h n = no_space_at (rw (drop1 s m h, ne_eqb (get_or s m 0) 32 n))

    module _ (h : m < length s) (q : get_or s m 0 ≡ 32) {n : ℕ} (hn : n ≡ m + 1) {u : ℕ} (hu : u ≡ uri_size (drop n s)) where
      space : starts 32 (drop m s) ≡ true
      unfolding starts
      space = rw (drop1 s m h, q)

      good_is : good_uri (drop n s) ≡ (within 1 256 (run is_visible (drop (m + 1) s)) && is_version (take 10 (drop (m + 1 + run is_visible (drop (m + 1) s)) s)))
      good_is = rw (hn, drop-drop (run is_visible (drop (m + 1) s)) (m + 1) s)

      pub without_uri : u < 1 → None ≡ request_at s
      unfolding request_at request_line
      without_uri l = rw (m_is, le-leb 1 m a, le-leb m 32 b, space, ← good_is, uri_no (drop n s) (omega arith))

      pub a_request : 1 ≤ u → Some (Request m u) ≡ request_at s
      unfolding request_at request_line
      a_request l =
          let y = uri_yes (drop n s) (omega arith) in
          let c : run is_visible (drop (m + 1) s) ≡ u = ap (λ (i : ℕ). run is_visible (drop i s)) (sym hn) ∙ y.1 ∙ sym hu in
          let d : length (take m s) ≡ m = length-take-le m s (omega (arith, run_le is_token s)) in
          let f : length (take u (drop (m + 1) s)) ≡ u = length-take-le u (drop (m + 1) s) (omega (arith, run_le is_visible (drop (m + 1) s))) in
          rw (m_is, le-leb 1 m a, le-leb m 32 b, space, ← good_is, y.0, c, d, f)

module _ (s : List ℕ) (m : ℕ) (hm : m ≡ 0 + run is_token (drop 0 s)) (a : 1 ≤ m) (b : m ≤ 32) (h : m < length s) (q : get_or s m 0 ≡ 32) {n : ℕ} (hn : n ≡ m + 1) where
  pub no_uri : 0 ≡ uri_size (drop n s) → None ≡ request_at s
  no_uri e = without_uri s m hm a b h q hn e (omega arith)

-- ---- the start line of either kind

bytes_long : (l : Start) (v : List ℕ) → StartShaped l v → length (start_bytes l v) ≡ start_size l
unfolding is_version is_version_first text
bytes_long (request l) v w = simp length-append (omega (arith, same_text_length (text " SIP/2.0\r\n") v w.version_written))
bytes_long (response l) v w = simp length-append (omega (arith, same_text_length (text "SIP/2.0 ") v w.version_written))

-- the lengths of the line that is there
pub start_long : (s : List ℕ) (k : StartLine) → Some k ≡ start_at s
    → (start_lengths s ≡ record { method = method_of k; uri = uri_of k; line = line_size k }) × HasMethod k × (line_size k ≤ length s) × ((l : Start) × (start s ≡ some l) × (line_size k ≡ start_size l))
unfolding start_lengths start_at
start_long s k = go (start s) refl
  where
    go : (o : Option Start) → start s ≡ o → Some k ≡ start_places o
        → (lengths_of o ≡ record { method = method_of k; uri = uri_of k; line = line_size k }) × HasMethod k × (line_size k ≤ length s) × ((l : Start) × (start s ≡ some l) × (line_size k ≡ start_size l))
    go none e q = cc
    go (some (request l)) e q =
        let z : k ≡ Request (length l.method) (length l.uri) = cc in
        let h = start_here s (request l) e in
        let size : length l.method + length l.uri + 11 ≡ start_size (request l) = omega arith in
        rw z (
          rw size,
          h.shaped.method_long,
          omega (arith, bytes_long (request l) h.version h.shaped, length-append (start_bytes (request l) h.version) (drop (start_size (request l)) s), ap length h.here),
          (request l, e, size),
        )
    go (some (response l)) e q =
        let z : k ≡ Status (length l.phrase) = cc in
        let h = start_here s (response l) e in
        let size : length l.phrase + 14 ≡ start_size (response l) = omega (arith, h.shaped.code_long) in
        rw z (
          rw size,
          tt,
          omega (arith, bytes_long (response l) h.version h.shaped, length-append (start_bytes (response l) h.version) (drop (start_size (response l)) s), ap length h.here),
          (response l, e, size),
        )

pub fits : (s : List ℕ) (r : Answer StartLine) → r ≡ start_at s → IfSome r (λ l. line_size l ≤ length s)
fits s None e = tt
fits s (Some k) e = (start_long s k e).2

module _ (s : List ℕ) {r : Answer StartLine} (hr : r ≡ request_at s) where
  pub is_request : (k : StartLine) → r ≡ Some k → Some k ≡ start_at s
  unfolding request_at start_at start
  is_request k q = go (request_line s) (sym q ∙ hr)
    where
      go : (o : Option RequestLine) → Some k ≡ start_places (start_of o none) → Some k ≡ start_places (start_of o (status_line s))
      go none e = cc
      go (some l) e = e

  pub request_fits : (k : StartLine) → r ≡ Some k → line_size k ≤ length s
  request_fits k q = (start_long s k (is_request k q)).2

  pub is_status : r ≡ None → {x : Answer StartLine} → x ≡ status_at s → x ≡ start_at s
  unfolding request_at status_at start_at start
  is_status q {x} e = go (request_line s) (sym q ∙ hr)
    where
      go : (o : Option RequestLine) → None ≡ start_places (start_of o none) → x ≡ start_places (start_of o (status_line s))
      go none e' = e
      go (some l) e' = cc

-- none stands there
pub no_start : (s : List ℕ) → None ≡ start_at s → start s ≡ none
unfolding start_at
no_start s = go (start s)
  where
    go : (o : Option Start) → None ≡ start_places o → o ≡ none
    go none q = refl
    go (some (request l)) q = cc
    go (some (response l)) q = cc
