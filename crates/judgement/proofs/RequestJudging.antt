-- A request is judged as document 01 says: by the column of its method.
use mathlib.Core.Path.{◌≡◌, refl, sym, ◌∙◌}
use mathlib.Core.Bool.{false, not}
use mathlib.Core.List.{List}
use mathlib.Core.Option.{Option, none, some}
use Prim.Native.Nat.{ℕ, ◌+◌}
use native.Mathlib.Omega.{arith}
use lib.Dec.{eqb}
use lib.ListN.{length, take, drop}
use borrow.Author.Tests.{ne_eqb}
use Rattle.sip.specs.declared.Column.{Column}
use Rattle.sip.specs.Lines.{RequestLine, request}
use Rattle.sip.specs.Profile.{column_of}
use Rattle.sip.specs.Output.{before_version}
use Rattle.sip.specs.Refusals.{Answer, refusal, replied, first_of, Entry, kept_of, to_tagged, reasons, passed, refused, accepted, judged_request, judged, judgement}
use Rattle.sip.proofs.Tests.{never}
use Rattle.lines.specs.Index.{Head}
use Rattle.values.specs.Answers.{request_uri}
use Rattle.std.specs.Prelude.{Option as RustOption, Some, None}
use Rattle.judgement.specs.declared.Tally.{Tally}
use Rattle.judgement.specs.Sets.{column_found, column_at}
use Rattle.judgement.specs.Tallies.{no_tally, tallied}
use Rattle.judgement.specs.Judged.{column_tagged, decided, request_by, judged_by, request_as, request_lines, judged_lines}
use Rattle.judgement.specs.Judges.{Judges}
use Rattle.judgement.proofs.Firsts.{total_tagged}
use Rattle.judgement.proofs.Decisions.{decided_numbered}
use Rattle.judgement.proofs.Reasons.{decided_is, request_fine, column_is}
use Rattle.judgement.proofs.Judging.{Reads, fs, left, left_long, read_is, es, listed, judges_is}

-- ---- the column

no_column : (o : Option Column) → column_found o ≡ None → o ≡ none
no_column none e = refl
no_column (some c) e = never (cc)

one_column : (o : Option Column) (c : Column) → column_found o ≡ Some c → o ≡ some c
one_column none c e = never (cc)
one_column (some d) c e = let z : d ≡ c = cc in rw z

-- ---- what is judged

module _ {m slots : List ℕ} {x : Head} (l : RequestLine) (r : Reads m slots x (request l)) where
  method_part : take x.method m ≡ l.method
  method_part = rw r.method_long r.line_parts.method_part

  uri_part : take x.uri (drop (x.method + 1) m) ≡ l.uri
  uri_part = rw (r.method_long, r.uri_long) r.line_parts.uri_part

  unknown : column_of l.method false ≡ none → judgement m ≡ refused (refusal 6 405 0 0)
  unfolding judged_request
  unknown e =
      let z : column_of l.method (to_tagged (kept_of (request l) (fs r))) ≡ none =
      column_is l.method (to_tagged (kept_of (request l) (fs r))) ∙ rw e in
      read_is r ∙ rw (judged_request, z)

  module _ (c : Column) (e : column_of l.method false ≡ some c) where
    abbrev kept_fields : List Entry
    kept_fields = es r c e

    abbrev t : Tally
    t = tallied l.method no_tally kept_fields

    abbrev column : Column
    column = column_tagged c (not (eqb t.tagged 0))

    abbrev reason : Option Answer
    reason = first_of (decided c t (request_uri l.uri) (length (left r)))

    reason_found : reason ≡ first_of (reasons column l kept_fields (left r))
    reason_found = decided_is l kept_fields (left r) (listed r c e) c

    column_found_lem : column_of l.method (to_tagged kept_fields) ≡ some column
    column_found_lem = column_is l.method (to_tagged kept_fields) ∙ rw (e, total_tagged l.method kept_fields)

    applies : (a : Answer) → reason ≡ some a → judged (request l) kept_fields (left r) ≡ refused (replied (request l) a)
    unfolding judged_request
    applies a q = let z = sym reason_found ∙ q in rw (judged_request, column_found_lem, z)

    passes : reason ≡ none → judged (request l) kept_fields (left r) ≡ accepted (passed (request l) kept_fields (left r))
    unfolding judged_request
    passes q = let z = sym reason_found ∙ q in rw (judged_request, column_found_lem, z)

    column_judges : Judges m slots (request_by x c l.method (request_uri l.uri) t (length (left r)))
    unfolding request_by
    column_judges =
        let before : x.method + 1 + x.uri + 1 ≡ before_version (request l) = omega (arith, r.method_long, r.uri_long) in
        rw before
        (judges_is r c e l.method reason (decided_numbered c t (request_uri l.uri) (length (left r))) applies passes
        (λ q. request_fine l kept_fields (left r) (listed r c e) c (sym reason_found ∙ q)))

  no_response : eqb x.method 0 ≡ false
  no_response = rw r.method_long (ne_eqb (length l.method) 0 (λ q. omega (arith, r.shaped.method_long)))

  request_as_lem : (k : RustOption Column) → column_found (column_of l.method false) ≡ k → Judges m slots (request_as m slots x k)
  unfolding judged_by
  request_as_lem None q = record { has_reason = λ z. omega arith; is_refused = unknown (no_column (column_of l.method false) q) }
  request_as_lem (Some c) q = rw (no_response, method_part, uri_part, left_long r) (column_judges c (one_column (column_of l.method false) c q))

  pub request_judges : Judges m slots (judged_lines m slots x)
  unfolding judged_lines request_lines column_at
  request_judges = rw (no_response, method_part) (request_as_lem (column_found (column_of l.method false)) refl)
