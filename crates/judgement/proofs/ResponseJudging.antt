-- A response is judged as CR 1 says: by its status, the method that its first CSeq names, and the column of both.
use mathlib.Core.Path.{◌≡◌, refl, sym, ap, ◌∙◌}
use mathlib.Core.Bool.{Bool, true, false, cond}
use mathlib.Core.List.{List}
use mathlib.Core.Option.{Option, none, some}
use Rattle.std.specs.Prelude.{Err}
use Prim.Native.Nat.{ℕ}
use native.Mathlib.Omega.{arith}
use lib.ListN.{length}
use borrow.Author.Tests.{eq-eqb}
use Rattle.octets.specs.Classes.{within}
use Rattle.sip.specs.declared.Column.{Column}
use Rattle.sip.specs.declared.Column.TheVariants.{OtherResponse}
use Rattle.sip.specs.Lines.{StatusLine, response}
use Rattle.sip.specs.Profile.{response_column}
use Rattle.sip.specs.Refusals.{Answer, kept, refusal, replied, first_of, Entry, message_column, kept_of, response_reasons, passed, refused, accepted}
use Rattle.sip.specs.Refusals.{first_cseq_method, status_of, response_column_of, judged_response, judged, judgement}
use Rattle.sip.proofs.Change.{cseq_kept}
use Rattle.sip.proofs.Firsts.{method_kept, column_once}
use Rattle.lines.specs.Index.{Head}
use Rattle.judgement.specs.declared.Tally.{Tally}
use Rattle.judgement.specs.Sets.{has, kept_set}
use Rattle.judgement.specs.Entries.{first_slot}
use Rattle.judgement.specs.Tallies.{no_tally, tallied}
use Rattle.judgement.specs.Judged.{shared, bare_refused, status_at, method_at, response_by, judged_by, response_as, response_to, response_lines, judged_lines}
use Rattle.judgement.specs.Judges.{Judges}
use Rattle.judgement.proofs.Members.{kept_has}
use Rattle.judgement.proofs.Decisions.{shared_numbered}
use Rattle.judgement.proofs.Reasons.{shared_is, fine}
use Rattle.judgement.proofs.Statuses.{status_said, method_is}
use Rattle.judgement.proofs.Judging.{Reads, fs, left, left_long, read_is, es, kept_is, listed, judges_is}

module _ {m slots : List ℕ} {x : Head} (l : StatusLine) (r : Reads m slots x (response l)) where
  -- the method that its first CSeq names
  abbrev named : List ℕ
  named = first_cseq_method (kept none (fs r))

  status_is : status_at m ≡ status_of l
  unfolding status_at
  status_is = rw (status_at, r.line_parts.code_part) (status_said l.code r.line_parts.code_long r.shaped.code_digits)

  -- it is the same in every column
  named_kept : (c : Column) → first_cseq_method (kept (some c) (fs r)) ≡ named
  unfolding first_cseq_method
  named_kept c = rw (method_kept (some c) (fs r))

  named_is : method_at m (first_slot 6 slots x.count 0) ≡ named
  named_is =
      let c : Column = OtherResponse in
      let h : has (kept_set c) 6 ≡ true = kept_has c 6 ∙ rw (cseq_kept (some c)) in
      sym (method_is m slots (kept_set c) h x.count 0) ∙ rw (r.slots_hold c) (named_kept c)

  abbrev profile : Option Column
  profile = response_column (within 200 299 (status_of l)) named

  profile_is : message_column (response l) (fs r) ≡ profile
  unfolding response_column_of
  profile_is = refl

  outside : within 100 699 (status_of l) ≡ false → judgement m ≡ refused (refusal 17 0 0 0)
  unfolding judged_response
  outside q = read_is r ∙ rw (judged_response, q)

  module _ (inside : within 100 699 (status_of l) ≡ true) where
    nameless : profile ≡ none → judgement m ≡ refused (refusal 6 0 0 0)
    unfolding judged_response
    nameless q =
        let z : response_column_of l (kept_of (response l) (fs r)) ≡ none = column_once l (fs r) ∙ profile_is ∙ q in
        read_is r ∙ rw (judged_response, inside, z)

    module _ (c : Column) (q : profile ≡ some c) where
      e : message_column (response l) (fs r) ≡ some c
      e = profile_is ∙ q

      abbrev kept_fields : List Entry
      kept_fields = es r c e

      abbrev t : Tally
      t = tallied named no_tally kept_fields

      column_found_lem : response_column_of l kept_fields ≡ some c
      column_found_lem = ap (response_column_of l) (sym (kept_is r c e)) ∙ column_once l (fs r) ∙ e

      method_found : first_cseq_method kept_fields ≡ named
      method_found = rw (r.slots_hold c) (named_kept c)

      abbrev reason : Option Answer
      reason = first_of (shared c t (length (left r)))

      reason_found : reason ≡ first_of (response_reasons c named kept_fields (left r))
      reason_found = shared_is named kept_fields (left r) (listed r c e) c

      applies : (a : Answer) → reason ≡ some a → judged (response l) kept_fields (left r) ≡ refused (replied (response l) a)
      unfolding judged_response
      applies a p = let z = sym reason_found ∙ p in rw (judged_response, inside, column_found_lem, method_found, z)

      passes : reason ≡ none → judged (response l) kept_fields (left r) ≡ accepted (passed (response l) kept_fields (left r))
      unfolding judged_response
      passes p = let z = sym reason_found ∙ p in rw (judged_response, inside, column_found_lem, method_found, z)

      column_judges : Judges m slots (response_by x c t (length (left r)))
      unfolding response_by
      column_judges =
          judges_is r c e named reason (shared_numbered c t (length (left r))) applies passes
          (λ p. fine named kept_fields (left r) (listed r c e) c (sym reason_found ∙ p))

    response_as_lem : (o : Option Column) → profile ≡ o → Judges m slots (response_as m slots x named o)
    unfolding judged_by
    response_as_lem none q = record { has_reason = λ z. omega arith; is_refused = nameless q }
    response_as_lem (some c) q = rw (eq-eqb x.method 0 r.method_long, left_long r) (column_judges c q)

  pub response_judges : Judges m slots (judged_lines m slots x)
  unfolding judged_lines response_lines response_to
  response_judges = rw (eq-eqb x.method 0 r.method_long, status_is, named_is) (go (within 100 699 (status_of l)) refl)
    where
      go : (b : Bool) → within 100 699 (status_of l) ≡ b
          → Judges m slots (cond b (response_as m slots x named profile) (Err (bare_refused 17 0)))
      go true q = response_as_lem q profile refl
      go false q = record { has_reason = λ z. omega arith; is_refused = outside q }
