-- Where the parts of a message stand that were read: its start line, its fields' values and its rest.
use mathlib.Core.Path.{◌≡◌, refl, sym, ap, ◌∙◌}
use mathlib.Core.Bool.{Bool, true, false, not, cond, ◌&&◌}
use mathlib.Core.List.{List, [], ◌∷◌, ◌++◌, append_assoc}
use Prim.Native.Nat.{ℕ, ◌+◌, ◌-◌, ◌≤◌}
use native.Mathlib.Omega.{arith}
use lib.Dec.{ltb}
use lib.ListN.{length, take, drop, length-append, take-append-drop}
use lib.Seq.{take_at, drop_at, drop-drop, drop-append_seam, drop-append-le, take-append_seam}
use Rattle.octets.specs.Classes.{text, within, is_gap}
use Rattle.octets.specs.Scans.{run, all, same_text}
use Rattle.octets.proofs.Texts.{same_text_length}
use Rattle.octets.proofs.Runs.{run_le}
use Rattle.sip.specs.Lines.{RequestLine, StatusLine, Start, request, response, is_version, is_version_first, start_bytes, start_size, Header}
use Rattle.sip.specs.Lines.{Field, bytes, crlf, unless_last, trim_end, trim}
use Rattle.sip.specs.Values.{is_empty}
use Rattle.sip.specs.Refusals.{lines, read}
use Rattle.sip.specs.Readings.{part, value_span}
use Rattle.sip.specs.Output.{start_line, before_version}
use Rattle.sip.specs.Change.{StartShaped, header_bytes}
use Rattle.sip.proofs.Starts.{whole, after_space, after_version, start_rest}
use Rattle.sip.proofs.Change.{everything}
use Rattle.sip.proofs.Texts.{same_signs, same_front}
use Rattle.sip.proofs.Sizes.{read_inv}

-- ---- the value of a field

-- what is left after trimming stands at the front
pub trimmed_front : (p : ℕ → Bool) (y t : List ℕ) → take (length (trim_end p y)) (y ++ t) ≡ trim_end p y
unfolding trim_end
trimmed_front p [] t = refl
trimmed_front p (b ∷ s) t = go (trim_end p s) (trimmed_front p s t)
  where
    last : (q : Bool) → take (length (cond q [] (b ∷ []))) (b ∷ (s ++ t)) ≡ cond q [] (b ∷ [])
    last true = refl
    last false = refl

    go : (y : List ℕ) → take (length y) (s ++ t) ≡ y → take (length (unless_last p b y)) (b ∷ (s ++ t)) ≡ unless_last p b y
    go [] h = last (p b)
    go (c ∷ y) h = ap (λ (l : List ℕ). b ∷ l) h

-- a field f at the place at, and t after it
module _ (m : List ℕ) (at : ℕ) (f : Field) (t : List ℕ) (here : drop at m ≡ bytes f ++ t) where
  pub value_here : drop (at + length f.name + length f.gap + 1) m ≡ f.value ++ (crlf ++ t)
  value_here =
      let n : List ℕ = f.name in
      let g : List ℕ = f.gap in
      let v : List ℕ = 58 ∷ (f.value ++ (crlf ++ t)) in
      let split : bytes f ++ t ≡ n ++ (g ++ v) = simp append_assoc in
      let k : at + (length n + (length g + 1)) ≡ at + length n + length g + 1 = omega arith in
      rw (← k, ← drop-drop (length n + (length g + 1)) at m, here, split, ← drop-drop (length g + 1) (length n) (n ++ (g ++ v)))
      (rw (drop-append_seam n (g ++ v), ← drop-drop 1 (length g) (g ++ v), drop-append_seam g v))

  pub value_part : part (value_span at f) m ≡ trim is_gap f.value
  unfolding value_span trim is_empty
  value_part = go (trim is_gap f.value) refl
    where
      go : (v : List ℕ) → trim is_gap f.value ≡ v → part (value_span at f) m ≡ v
      go [] e = rw e
      go (b ∷ v) e =
          let r : ℕ = run is_gap f.value in
          let k : ℕ = at + length f.name + length f.gap + 1 in
          let s : drop (k + r) m ≡ drop r f.value ++ (crlf ++ t)
          = sym (drop-drop r k m) ∙ ap (drop r) value_here ∙ drop-append-le r f.value (crlf ++ t) (run_le is_gap f.value) in
          rw (e, s) (rw e at (trimmed_front is_gap (drop r f.value) (crlf ++ t)))

  pub next_here : drop (at + length (bytes f)) m ≡ t
  next_here = sym (drop-drop (length (bytes f)) at m) ∙ rw (here, drop-append_seam (bytes f) t)

-- ---- the start line, the header and the rest

pub suffix : (a b : List ℕ) → drop (length (a ++ b) - length b) (a ++ b) ≡ b
suffix a b = let k : length (a ++ b) - length b ≡ length a = omega (arith, length-append a b) in rw k (drop-append_seam a b)

pub rest_last : (fs : List Field) (rest : List ℕ) → (a : List ℕ) × (header_bytes fs rest ≡ a ++ rest)
rest_last [] rest = (crlf, refl)
rest_last (f ∷ fs) rest =
    let (a, e) = rest_last fs rest in
    (bytes f ++ a, ap (λ (x : List ℕ). bytes f ++ x) e ∙ sym (append_assoc (bytes f) a rest))

-- the parts of a request line, and of a status line
pub record RequestParts (m : List ℕ) (l : RequestLine) : Type 0 where
  pub method_part : take (length l.method) m ≡ l.method
  pub uri_part : take (length l.uri) (drop (length l.method + 1) m) ≡ l.uri
  pub line_part : take (length l.method + 1 + length l.uri) m ≡ l.method ++ 32 ∷ l.uri

pub record StatusParts (m : List ℕ) (l : StatusLine) : Type 0 where
  pub code_long : length l.code ≡ 3
  pub code_part : take 3 (drop 8 m) ≡ l.code
  pub line_part : take (length l.code + 1 + length l.phrase + 2) (drop 8 m) ≡ l.code ++ 32 ∷ (l.phrase ++ crlf)

abbrev pub StartParts : List ℕ → Start → Type 0
StartParts m (request l) = RequestParts m l
StartParts m (response l) = StatusParts m l

start_parts : (m : List ℕ) (l : Start) (v t : List ℕ) → StartShaped l v → m ≡ start_bytes l v ++ t → StartParts m l
start_parts m (request l) v t shaped made =
    record {
      method_part = rw (made, whole l v t) (take-append_seam l.method _);
      uri_part = rw (made, after_space l v t) (take-append_seam l.uri _);
      line_part =
          let both : m ≡ (l.method ++ 32 ∷ l.uri) ++ (v ++ t) = made ∙ whole l v t ∙ sym (append_assoc l.method (32 ∷ l.uri) (v ++ t)) in
          let long : length (l.method ++ 32 ∷ l.uri) ≡ length l.method + 1 + length l.uri
          = length-append l.method (32 ∷ l.uri) ∙ omega arith in
          rw (← long, both) (take-append_seam (l.method ++ 32 ∷ l.uri) (v ++ t));
    }
start_parts m (response l) v t shaped made =
    record {
      code_long = shaped.code_long;
      code_part = rw (made, after_version l v t shaped) (take_at l.code _ 3 shaped.code_long);
      line_part =
          let parted : (l.code ++ 32 ∷ (l.phrase ++ crlf)) ++ t ≡ l.code ++ 32 ∷ (l.phrase ++ (crlf ++ t)) = simp append_assoc in
          let both : drop 8 m ≡ (l.code ++ 32 ∷ (l.phrase ++ crlf)) ++ t = rw (made, parted) (after_version l v t shaped) in
          let long : length (l.code ++ 32 ∷ (l.phrase ++ crlf)) ≡ length l.code + 1 + length l.phrase + 2
          = simp length-append (omega arith) in
          rw (← long, both) (take-append_seam (l.code ++ 32 ∷ (l.phrase ++ crlf)) t);
    }

pub record ReadParts (m : List ℕ) (l : Start) (h : Header) : Type 0 where
  pub bytes_le : length m ≤ 8192
  pub fields_le : length h.fields ≤ 96
  pub line_parts : StartParts m l
  pub start_le : start_size l ≤ length m
  pub header_part : drop (start_size l) m ≡ header_bytes h.fields h.rest
  pub rest_part : drop (length m - length h.rest) m ≡ h.rest
  pub rest_le : length h.rest ≤ length m

pub read_parts : (m : List ℕ) (l : Start) (h : Header) → lines m ≡ read l h → ReadParts m l h
read_parts m l h e =
    let r = everything m l h e in
    let c = r.change in
    let v : List ℕ = c.version in
    let t : List ℕ = header_bytes h.fields h.rest in
    let made : m ≡ start_bytes l v ++ t = rw (r.same_line, r.same_fields, r.same_rest) at c.original in
    let shaped : StartShaped l v = rw r.same_line at c.start_shaped in
    let (a, last) = rest_last h.fields h.rest in
    let split : m ≡ (start_bytes l v ++ a) ++ h.rest
    = made ∙ ap (λ (x : List ℕ). start_bytes l v ++ x) last ∙ sym (append_assoc (start_bytes l v) a h.rest) in
    record {
      bytes_le = c.within_bytes;
      fields_le = (read_inv m l h e).few;
      line_parts = start_parts m l v t shaped made;
      start_le = omega (arith, (read_inv m l h e).fits);
      header_part = rw made (start_rest l v t shaped);
      rest_part = rw split (suffix (start_bytes l v ++ a) h.rest);
      rest_le = rw split (omega (arith, length-append (start_bytes l v ++ a) h.rest));
    }

-- ---- the start line as it goes out: the bytes before the version, the version in capitals, and the bytes after it

-- the version of a request line, and of a status line, as it stands
record Around (v front back : List ℕ) : Type 0 where
  word : List ℕ
  is : v ≡ front ++ (word ++ back)
  seven : length word ≡ 7

around : (front back v : List ℕ) → all (λ (b : ℕ). not (within 65 90 b) && ltb b 97) front ≡ true
    → all (λ (b : ℕ). not (within 65 90 b) && ltb b 97) back ≡ true → same_text (front ++ (text "SIP/2.0" ++ back)) v ≡ true → Around v front back
unfolding text
around front back v a b e =
    let (p, q) = same_front front (text "SIP/2.0" ++ back) v e in
    let (r, s) = same_front (text "SIP/2.0") back (drop (length front) v) q in
    let w : List ℕ = take 7 (drop (length front) v) in
    let first : take (length front) v ≡ front = same_signs front (take (length front) v) a p in
    let last : drop 7 (drop (length front) v) ≡ back = same_signs back (drop 7 (drop (length front) v)) b s in
    let middle : w ++ back ≡ drop (length front) v = rw (← last) (take-append-drop 7 (drop (length front) v)) in
    let whole : front ++ (w ++ back) ≡ v
    = rw middle (ap (λ (x : List ℕ). x ++ drop (length front) v) (sym first) ∙ take-append-drop (length front) v) in
    record { word = w; is = sym whole; seven = sym (same_text_length (text "SIP/2.0") w r) }

abbrev Sent : List ℕ → Start → Type 0
Sent m l = start_line l ≡ take (before_version l) m ++ (text "SIP/2.0" ++ take (start_size l - before_version l - 7) (drop (before_version l + 7) m))

sent_parts : (m : List ℕ) (l : Start) (v t : List ℕ) → StartShaped l v → m ≡ start_bytes l v ++ t → Sent m l
unfolding start_line is_version is_version_first text all
sent_parts m (request l) v t shaped made =
    let r = around (32 ∷ []) crlf v refl refl shaped.version_written in
    let front : List ℕ = l.method ++ 32 ∷ (l.uri ++ 32 ∷ []) in
    let w : List ℕ = r.word in
    let parted : front ++ (w ++ (crlf ++ t)) ≡ start_bytes (request l) (32 ∷ (w ++ crlf)) ++ t = simp append_assoc in
    let here : m ≡ front ++ (w ++ (crlf ++ t)) = made ∙ ap (λ (x : List ℕ). start_bytes (request l) x ++ t) r.is ∙ sym parted in
    let long : length front ≡ before_version (request l) = simp length-append (omega arith) in
    let k : start_size (request l) - before_version (request l) - 7 ≡ 2 = omega arith in
    let first : take (before_version (request l)) m ≡ front = rw here (take_at front _ (before_version (request l)) long) in
    let after : drop (before_version (request l)) m ≡ w ++ (crlf ++ t) = rw here (drop_at front _ (before_version (request l)) long) in
    let last : drop (before_version (request l) + 7) m ≡ crlf ++ t
    = rw (← drop-drop 7 (before_version (request l)) m, after) (drop_at w _ 7 r.seven) in
    let out : front ++ (text "SIP/2.0" ++ crlf) ≡ start_bytes (request l) (text " SIP/2.0\r\n") = simp append_assoc in
    rw (first, k, last) (sym out)
sent_parts m (response l) v t shaped made =
    let r = around [] (32 ∷ []) v refl refl shaped.version_written in
    let w : List ℕ = r.word in
    let back : List ℕ = 32 ∷ (l.code ++ 32 ∷ (l.phrase ++ crlf)) in
    let parted : w ++ (back ++ t) ≡ start_bytes (response l) (w ++ 32 ∷ []) ++ t = simp append_assoc in
    let here : m ≡ w ++ (back ++ t) = made ∙ ap (λ (x : List ℕ). start_bytes (response l) x ++ t) r.is ∙ sym parted in
    let last : drop (0 + 7) m ≡ back ++ t = rw here (drop_at w _ 7 r.seven) in
    let long : length back ≡ start_size (response l) - 0 - 7 = simp length-append (omega arith) in
    rw (last, take_at back t (start_size (response l) - 0 - 7) long)

pub line_sent : (m : List ℕ) (l : Start) (h : Header) → lines m ≡ read l h
    → start_line l ≡ take (before_version l) m ++ (text "SIP/2.0" ++ take (start_size l - before_version l - 7) (drop (before_version l + 7) m))
line_sent m l h e =
    let r = everything m l h e in
    let c = r.change in
    let shaped : StartShaped l c.version = rw r.same_line at c.start_shaped in
    let made : m ≡ start_bytes l c.version ++ header_bytes h.fields h.rest
    = rw (r.same_line, r.same_fields, r.same_rest) at c.original in
    sent_parts m l c.version (header_bytes h.fields h.rest) shaped made
