-- A message from its bytes to what judging it comes to: by whether it was read.
use mathlib.Core.Path.{◌≡◌, refl, sym, ap, ◌∙◌}
use mathlib.Core.Bool.{Bool, true, false, not, cond}
use mathlib.Core.List.{List}
use mathlib.Core.Option.{Option, none, some}
use Rattle.std.specs.Prelude.{Result, Err}
use Prim.Native.Nat.{ℕ, zero, suc, ◌+◌, ◌≤◌, ◌<◌}
use native.Mathlib.Omega.{arith}
use lib.Dec.{leb, eqb}
use lib.ListN.{length, drop}
use borrow.Author.Tests.{eq-eqb, ne_eqb}
use Rattle.sip.specs.Lines.{Start, request, response, start, start_size, Header, header}
use Rattle.sip.specs.Refusals.{refusal, Lines, unread, read, header_lines, start_lines, lines, judgement, refused}
use Rattle.sip.proofs.Change.{everything}
use Rattle.lines.specs.Index.{method_of, HasMethod, reason_of, Head, method_length, uri_length, index_of, index}
use Rattle.lines.proofs.Within.{slots_within}
use Rattle.judgement.specs.declared.Refusal.{Refusal}
use Rattle.judgement.specs.declared.Refused.{Refused}
use Rattle.judgement.specs.declared.Judged.{Judged}
use Rattle.lines.specs.declared.StartLine.{StartLine}
use Rattle.lines.specs.declared.StartLine.TheVariants.{Request, Status}
use Rattle.lines.specs.declared.Unread.{Unread}
use Rattle.lines.specs.declared.Unread.TheVariants.{TooLong, NoStartLine, BadFields, TooManyFields}
use Rattle.sip.proofs.Tests.{never}
use Rattle.judgement.specs.Entries.{Within, has_method}
use Rattle.judgement.specs.Judged.{bare_refused, judged_lines, judged_message}
use Rattle.judgement.specs.Judges.{Judges}
use Rattle.judgement.proofs.Parts.{parts}
use Rattle.judgement.proofs.Judging.{Reads}
use Rattle.judgement.proofs.RequestJudging.{request_judges}
use Rattle.judgement.proofs.ResponseJudging.{response_judges}

-- a message that is not read has a reason
unread_header : (l : Start) (o : Option Header) (n : ℕ) → header_lines l o ≡ unread n → 0 < n
unread_header l none n e = let z : n ≡ 4 = cc in omega arith
unread_header l (some h) n e = go (leb (length h.fields) 96) e
  where
    go : (b : Bool) → cond b (read l h) (unread 5) ≡ unread n → 0 < n
    go true q = let z : ◌≡◌ {A = ℕ} 0 1 = cc in omega arith
    go false q = let z : n ≡ 5 = cc in omega arith

unread_start : (m : List ℕ) (o : Option Start) (n : ℕ) → start_lines m o ≡ unread n → 0 < n
unread_start m none n e = let z : n ≡ 3 = cc in omega arith
unread_start m (some l) n e = unread_header l (header 0 (drop (start_size l) m)) n e

unread_reason : (m : List ℕ) (n : ℕ) → lines m ≡ unread n → 0 < n
unfolding lines
unread_reason m n e = go (leb (length m) 8192) e
  where
    go : (b : Bool) → cond b (start_lines m (start m)) (unread 2) ≡ unread n → 0 < n
    go true q = unread_start m (start m) n q
    go false q = let z : n ≡ 2 = cc in omega arith

-- ---- a request has a method

pub some_method : {l : StartLine} {method uri : ℕ} → has_method l ≡ true → l ≡ Request method uri → method_of l ≡ 0 → ⊥
some_method {l} {method} {uri} h e z =
    let k : not (eqb method 0) ≡ true = rw e at h in
    let y : method ≡ 0 = rw e at z in
    let w : false ≡ true = rw y at k in
    never (cc)

-- ---- a message that was read, with its parts

-- a message that was read, with its start line
pub record Read (m slots : List ℕ) (x : Head) : Type 0 where
  pub line : Start
  pub reads : Reads m slots x line

method_uri : (l : Start) → method_length l + uri_length l ≤ start_size l
method_uri (request l) = omega arith
method_uri (response l) = omega arith

module _ (m : List ℕ) where
  read_parts : (l : Start) (h : Header) → lines m ≡ read l h → Reads m (index m).slots (index m).head l
  unfolding index
  read_parts l h q =
      let p = parts m l h q in
      let w = everything m l h q in
      rw q
      (record {
        header = h;
        version = w.change.version;
        is_read = q;
        shaped = rw w.same_line at w.change.start_shaped;
        line_parts = p.read_as.line_parts;
        method_long = refl;
        uri_long = refl;
        line_long = refl;
        few = p.count_le;
        short = p.read_as.bytes_le;
        line_within = p.read_as.start_le;
        rest_within = omega arith;
        rest_is = p.read_as.rest_part;
        slots_within = λ i. rw q at (slots_within m i);
        slots_hold = p.entries;
      })

  pub was_read : (index m).head.reason ≡ 0 → Read m (index m).slots (index m).head
  unfolding index
  was_read z = go (lines m) refl
    where
      go : (x : Lines) → lines m ≡ x → Read m (index m).slots (index m).head
      go (unread n) q =
          let b : n ≡ 0 = sym (ap (λ (y : Lines). (index_of m y).head.reason) q) ∙ z in
          absurd (omega (arith, unread_reason m n q))
      go (read l h) q = record { line = l; reads = read_parts l h q }

  not_read : ((index m).head.reason ≡ 0 → ⊥) → judgement m ≡ refused (refusal (index m).head.reason 0 0 0)
  unfolding index judgement
  not_read z = go (lines m) refl
    where
      go : (x : Lines) → lines m ≡ x → judgement m ≡ refused (refusal (index m).head.reason 0 0 0)
      go (unread n) q = rw q
      go (read l h) q = absurd (z (ap (λ (y : Lines). (index_of m y).head.reason) q))

  -- ---- what judging it comes to, by its kind

  lines_judge : (l : Start) → Reads m (index m).slots (index m).head l → Judges m (index m).slots (judged_lines m (index m).slots (index m).head)
  lines_judge (request l) r = request_judges l r
  lines_judge (response l) r = response_judges l r

  module _ {r : Result Judged Refused} (e : r ≡ judged_message m) where
    unread_judges : (n : (index m).head.reason ≡ 0 → ⊥) → Judges m (index m).slots r
    unfolding judged_message
    unread_judges n =
        rw (e, ne_eqb (index m).head.reason 0 n) (record { has_reason = n; is_refused = not_read n })

    read_judges : (index m).head.reason ≡ 0 → Judges m (index m).slots r
    unfolding judged_message
    read_judges z = rw (e, eq-eqb (index m).head.reason 0 z) (let w = was_read z in lines_judge w.line w.reads)

    index_judges : (n : ℕ) → (index m).head.reason ≡ n → Judges m (index m).slots r
    index_judges zero q = read_judges q
    index_judges (suc k) q = unread_judges (λ z. omega arith)

    pub judges : {ns : List ℕ} → ns ≡ (index m).slots → Judges m ns r
    judges s = rw s (index_judges (index m).head.reason refl)

  -- ---- what the code answers

  module _ {h : Head} (e : h ≡ (index m).head) where
    pub unread_judged : (h.reason ≡ 0 → ⊥) → {x : Refused} → x ≡ bare_refused h.reason 0 → Err x ≡ judged_message m
    unfolding judged_message
    unread_judged n hx = rw (hx, e, ne_eqb (index m).head.reason 0 (λ z. n (ap (λ (y : Head). y.reason) e ∙ z)))

    module _ (z : h.reason ≡ 0) where
      head_read : (index m).head.reason ≡ 0
      head_read = sym (ap (λ (y : Head). y.reason) e) ∙ z

      pub read_judged : {ns : List ℕ} → ns ≡ (index m).slots → {r : Result Judged Refused} → r ≡ judged_lines m ns h → r ≡ judged_message m
      unfolding judged_message
      read_judged hs hr = rw (hr, hs, e, eq-eqb (index m).head.reason 0 head_read)

      pub short : length m ≤ 8192
      short = (was_read head_read).reads.short

      pub few : h.count ≤ 96
      few = rw e (was_read head_read).reads.few

      pub line_fits : h.method + h.uri ≤ 8192
      line_fits =
          let w = was_read head_read in
          let r = w.reads in
          rw e (omega (arith, r.method_long, r.uri_long, r.line_long, r.line_within, r.short, method_uri w.line))

      pub rest_within : h.rest ≤ length m
      rest_within = rw e (was_read head_read).reads.rest_within

  pub within : {ns : List ℕ} → ns ≡ (index m).slots → Within m ns
  within hs = λ i. rw hs (slots_within m i)

-- no reason of a message that is not read has the number 0
pub some_reason : (e : Unread) → reason_of e ≡ 0 → ⊥
some_reason TooLong z = omega arith
some_reason NoStartLine z = omega arith
some_reason BadFields z = omega arith
some_reason TooManyFields z = omega arith

pub named : (l : StartLine) → HasMethod l → has_method l ≡ true
named (Request method uri) h = ap not (ne_eqb method 0 (λ z. omega arith))
named (Status phrase) h = refl
