-- What holds of each reason from 6 on holds of every refusal of a message that is read: it is the first that applies. So no message is refused
-- by a reason above 17, or by 16.
use mathlib.Core.Path.{◌≡◌, refl}
use mathlib.Core.Bool.{Bool, true, false, not, cond, ◌&&◌}
use mathlib.Core.List.{List, [], ◌∷◌}
use mathlib.Core.Option.{Option, none, some}
use Prim.Native.Nat.{ℕ, ◌≤◌}
use native.Mathlib.Omega.{arith}
use lib.Dec.{leb, eqb}
use borrow.Author.Tests.{eqb-false}
use lib.ListN.{length, drop}
use Rattle.octets.specs.Classes.{within}
use Rattle.sip.specs.declared.Column.{Column}
use Rattle.sip.specs.Lines.{RequestLine, StatusLine, Start, request, response, start, start_size, Header, header}
use Rattle.sip.specs.Profile.{column_of, numbers}
use Rattle.sip.specs.Values.{is_empty, uri, person, is_called}
use Rattle.sip.specs.Refusals.{Answer, refusal, silent, replied, Entry, body_of, to_tagged, when, other_scheme, is_uri, first_repeat, first_malformed}
use Rattle.sip.specs.Refusals.{exceeds, missing_of, head_or, no_hops, first_lacking, is_initial, first_of, reasons, response_reasons, passed}
use Rattle.sip.specs.Refusals.{reason7, reason8, reason9, reason10, reason11, reason12, reason13, reason14, reason15, refused, accepted}
use Rattle.sip.specs.Refusals.{judged_request, first_cseq_method, status_of, response_column_of, judged_response, judged, Lines, unread, read, header_lines, lines, kept_of}
use Rattle.sip.specs.Refusals.{judgement}
use Rattle.sip.proofs.Tests.{never}
use Rattle.sip.proofs.Accepted.{method_of}

-- it holds of the numbers of reason 9, of reason 10 and of each other one, also where nothing is replied
pub record OfEach (P : Answer → Type 0) (method : List ℕ) (es : List Entry) : Type 0 where
  pub nine : P (refusal 9 400 (first_repeat [] es) 0)
  pub ten : P (refusal 10 400 (first_malformed method [] es) 0)
  pub other : (k reply detail missing : ℕ) → k ≤ 17 → eqb k 9 ≡ false → eqb k 10 ≡ false → eqb k 16 ≡ false → P (refusal k reply detail missing)
  pub silenced : (a : Answer) → P a → P (refusal a.reason 0 a.detail a.missing)

module _ (P : Answer → Type 0) where
  abbrev In : Option Answer → Type 0
  In o = (a : Answer) → o ≡ some a → P a

  in_when : (t : Bool) (x : Answer) → P x → In (when t x)
  in_when true x p a e = let z : x ≡ a = cc in rw z at p
  in_when false x p a e = never (cc)

  in_first : (o : Option Answer) (rs : List (Option Answer)) → In o → In (first_of rs) → In (first_of (o ∷ rs))
  in_first none rs p q = q
  in_first (some x) rs p q = p

  in_none : In (first_of [])
  in_none a e = never (cc)

  module _ (method : List ℕ) (es : List Entry) (h : OfEach P method es) (rest : List ℕ) where
    in9 : In (reason9 es)
    unfolding reason9
    in9 = in_when (not (eqb (first_repeat [] es) 0)) _ h.nine

    in10 : In (reason10 method es)
    unfolding reason10
    in10 = in_when (not (eqb (first_malformed method [] es) 0)) _ h.ten

    in11 : In (reason11 es rest)
    unfolding reason11
    in11 = in_when (exceeds es rest) _ (h.other 11 400 0 0 (omega arith) refl refl refl)

    module _ (c : Column) where
      in12 : In (reason12 c es rest)
      unfolding reason12
      in12 =
          let ns : List ℕ = missing_of c (is_empty (body_of es rest)) es numbers in
          in_when (not (is_empty ns)) _ (h.other 12 400 (head_or 0 ns) (length ns) (omega arith) refl refl refl)

      in_response : In (first_of (response_reasons c method es rest))
      unfolding response_reasons
      in_response =
          let all : List (Option Answer) = response_reasons c method es rest in
          in_first (reason9 es) (drop 1 all) in9
          (in_first (reason10 method es) (drop 2 all) in10
          (in_first (reason11 es rest) (drop 3 all) in11 (in_first (reason12 c es rest) [] in12 in_none)))

    replied_keeps : (l : Start) (a : Answer) → P a → P (replied l a)
    unfolding replied
    replied_keeps l a p = go (silent l)
      where
        go : (t : Bool) → P (cond t (refusal a.reason 0 a.detail a.missing) a)
        go true = h.silenced a p
        go false = p

    -- a refusal before the kept fields are asked
    known : (k reply : ℕ) (a : Answer) → k ≤ 17 → eqb k 9 ≡ false → eqb k 10 ≡ false → eqb k 16 ≡ false → refused (refusal k reply 0 0) ≡ refused a → P a
    known k reply a l p q r e = let z : refusal k reply 0 0 ≡ a = cc in rw z at (h.other k reply 0 0 l p q r)

    -- the first reason that applies
    settled : (l : Start) (b a : Answer) → P b → refused (replied l b) ≡ refused a → P a
    settled l b a p e = let z : replied l b ≡ a = cc in rw z at (replied_keeps l b p)

  in_request : (c : Column) (l : RequestLine) (es : List Entry) → OfEach P l.method es → (rest : List ℕ) → In (first_of (reasons c l es rest))
  unfolding reasons reason7 reason8 reason13 reason14 reason15
  in_request c l es h rest =
      let all : List (Option Answer) = reasons c l es rest in
      let lacking : ℕ = first_lacking es in
      in_first (reason7 l) (drop 1 all) (in_when (other_scheme l.uri) _ (h.other 7 416 0 0 (omega arith) refl refl refl))
      (in_first (reason8 l) (drop 2 all) (in_when (not (is_uri l.uri)) _ (h.other 8 400 0 0 (omega arith) refl refl refl))
      (in_first (reason9 es) (drop 3 all) (in9 l.method es h rest)
      (in_first (reason10 l.method es) (drop 4 all) (in10 l.method es h rest)
      (in_first (reason11 es rest) (drop 5 all) (in11 l.method es h rest)
      (in_first (reason12 c es rest) (drop 6 all) (in12 l.method es h rest c)
      (in_first (reason13 es) (drop 7 all) (in_when (no_hops es) _ (h.other 13 483 0 0 (omega arith) refl refl refl))
      (in_first (reason14 es) (drop 8 all) (in_when (not (eqb lacking 0)) _ (h.other 14 420 lacking 0 (omega arith) refl refl refl))
      (in_first (reason15 c l) []
      (in_when (is_initial c && not (is_called (person (uri l.uri) l.uri))) _ (h.other 15 484 0 0 (omega arith) refl refl refl)) in_none))))))))

  request_refused : (l : RequestLine) (es : List Entry) → OfEach P l.method es → (rest : List ℕ) (a : Answer)
      → judged_request l es rest ≡ refused a → P a
  unfolding judged_request
  request_refused l es h rest a e = go (column_of l.method (to_tagged es)) refl
    where
      next : (c : Column) → column_of l.method (to_tagged es) ≡ some c → (o : Option Answer) → first_of (reasons c l es rest) ≡ o → P a
      next c p none x = let z : accepted (passed (request l) es rest) ≡ refused a = rw (p, judged_request, x) at e in never (cc)
      next c p (some b) x = settled l.method es h rest (request l) b a (in_request c l es h rest b x) (rw (p, judged_request, x) at e)

      go : (o : Option Column) → column_of l.method (to_tagged es) ≡ o → P a
      go none p = known l.method es h rest 6 405 a (omega arith) refl refl refl (rw (p, judged_request) at e)
      go (some c) p = next c p (first_of (reasons c l es rest)) refl

  response_refused : (l : StatusLine) (es : List Entry) → OfEach P (first_cseq_method es) es → (rest : List ℕ) (a : Answer)
      → judged_response l es rest ≡ refused a → P a
  unfolding judged_response
  response_refused l es h rest a e = go (within 100 699 (status_of l)) (response_column_of l es) refl refl
    where
      next : (c : Column) → within 100 699 (status_of l) ≡ true → response_column_of l es ≡ some c → (o : Option Answer)
          → first_of (response_reasons c (first_cseq_method es) es rest) ≡ o → P a
      next c p q none x = let z : accepted (passed (response l) es rest) ≡ refused a = rw (p, q, x) at e in never (cc)
      next c p q (some b) x =
          settled (first_cseq_method es) es h rest (response l) b a (in_response (first_cseq_method es) es h rest c b x) (rw (p, q, x) at e)

      go : (t : Bool) (o : Option Column) → within 100 699 (status_of l) ≡ t → response_column_of l es ≡ o → P a
      go false o p q = known (first_cseq_method es) es h rest 17 0 a (omega arith) refl refl refl (rw p at e)
      go true none p q = known (first_cseq_method es) es h rest 6 0 a (omega arith) refl refl refl (rw (p, q) at e)
      go true (some c) p q = next c p q (first_of (response_reasons c (first_cseq_method es) es rest)) refl

  pub judged_refused : (l : Start) (es : List Entry) → OfEach P (method_of l es) es → (rest : List ℕ) (a : Answer) → judged l es rest ≡ refused a → P a
  judged_refused (request l) es h rest a e = request_refused l es h rest a e
  judged_refused (response l) es h rest a e = response_refused l es h rest a e

-- ---- which reasons a message is refused by

pub record IsJudged (n : ℕ) : Type 0 where
  pub few : n ≤ 17
  pub roomy : n ≡ 16 → ⊥

judged_each : (method : List ℕ) (es : List Entry) → OfEach (λ (a : Answer). IsJudged a.reason) method es
judged_each method es =
    record {
      nine = record { few = omega arith; roomy = λ z. omega (arith, z) };
      ten = record { few = omega arith; roomy = λ z. omega (arith, z) };
      other = λ k reply detail missing l p q r. record { few = l; roomy = eqb-false k 16 r };
      silenced = λ a h. h;
    }

-- reasons 2 to 5
pub lines_reason : (m : List ℕ) (n : ℕ) → lines m ≡ unread n → (2 ≤ n) × (n ≤ 5)
unfolding lines
lines_reason m n e = go (leb (length m) 8192) (start m) refl refl
  where
    number : (k : ℕ) → 2 ≤ k → k ≤ 5 → unread k ≡ unread n → (2 ≤ n) × (n ≤ 5)
    number k l h q = let z : k ≡ n = cc in (omega arith, omega arith)

    fields : (l : Start) (o : Option Header) → header_lines l o ≡ unread n → (2 ≤ n) × (n ≤ 5)
    fields l none q = number 4 (omega arith) (omega arith) q
    fields l (some h) q = few (leb (length h.fields) 96) q
      where
        few : (t : Bool) → cond t (read l h) (unread 5) ≡ unread n → (2 ≤ n) × (n ≤ 5)
        few true x = never (cc)
        few false x = number 5 (omega arith) (omega arith) x

    go : (t : Bool) (o : Option Start) → leb (length m) 8192 ≡ t → start m ≡ o → (2 ≤ n) × (n ≤ 5)
    go false o p q = number 2 (omega arith) (omega arith) (rw p at e)
    go true none p q = number 3 (omega arith) (omega arith) (rw (p, q) at e)
    go true (some l) p q = fields l (header 0 (drop (start_size l) m)) (rw (p, q) at e)

pub refused_reason : (m : List ℕ) (a : Answer) → judgement m ≡ refused a → IsJudged a.reason
unfolding judgement
refused_reason m a e = go (lines m) refl
  where
    go : (x : Lines) → lines m ≡ x → IsJudged a.reason
    go (unread n) q =
        let z : refused (refusal n 0 0 0) ≡ refused a = rw q at e in
        let w : refusal n 0 0 0 ≡ a = cc in
        let (lo, hi) = lines_reason m n q in
        rw (← w) (record { few = omega arith; roomy = λ z. omega (arith, z) })
    go (read l h) q =
        let es : List Entry = kept_of l h.fields in
        judged_refused (λ (x : Answer). IsJudged x.reason) l es (judged_each (method_of l es) es) h.rest a (rw q at e)
