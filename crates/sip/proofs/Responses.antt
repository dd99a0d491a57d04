-- What is promised of responses alone: each refusal of one is silent, and its column ignores Privacy and P-Asserted-Identity.
use mathlib.Core.Path.{◌≡◌, refl, sym, ◌∙◌}
use mathlib.Core.Bool.{Bool, true, false, cond}
use mathlib.Core.List.{List}
use mathlib.Core.Option.{Option, none, some}
use Prim.Native.Nat.{ℕ}
use lib.Dec.{leb}
use lib.ListN.{length, drop}
use Rattle.octets.specs.Classes.{text, within}
use Rattle.octets.specs.Scans.{same}
use Rattle.sip.specs.declared.Column.{Column}
use Rattle.sip.specs.declared.Column.TheVariants.{InviteSuccess, CancelResponse, OtherResponse}
use Rattle.sip.specs.Lines.{StatusLine, Start, response, start, start_size, Header, header}
use Rattle.sip.specs.Profile.{rows, find, mark, ignored, response_column}
use Rattle.sip.specs.Refusals.{Answer, refusal, replied, Lines, unread, lines, read, Entry, withheld, first_of}
use Rattle.sip.specs.Refusals.{Passed, passed, Judgement, refused, accepted, first_cseq_method, status_of, response_reasons}
use Rattle.sip.specs.Refusals.{response_column_of, judged_response, message_column, kept_of, judgement}
use Rattle.sip.specs.Values.{is_global}
use Rattle.sip.specs.Output.{output}
use Rattle.sip.specs.Screen.{overfills, sends, decided, verdict, Screened, screened}
use Rattle.sip.specs.Readings.{caller_in, calling_number}
use Rattle.sip.specs.Promises.{NoReply, NothingAnonymous, ResponseCalling}
use Rattle.sip.proofs.Tests.{never}
use Rattle.sip.proofs.Accepted.{not_both, judged_inv}
use Rattle.sip.proofs.Firsts.{ignored_none, none_asserted, column_once}
use Rattle.sip.proofs.Masked.{not_hidden, goes_unmasked}
use Rattle.sip.proofs.Cases.{written_cases, screened_cases}

-- ---- no reply

refused_silent : (l : StatusLine) (es : List Entry) (rest : List ℕ) (a : Answer) → judged_response l es rest ≡ refused a → a.reply ≡ 0
unfolding judged_response replied
refused_silent l es rest a e = go (within 100 699 (status_of l)) (response_column_of l es) refl refl
  where
    reasons : Column → Option Answer
    reasons c = first_of (response_reasons c (first_cseq_method es) es rest)

    next : (c : Column) → within 100 699 (status_of l) ≡ true → response_column_of l es ≡ some c → (o : Option Answer) → reasons c ≡ o → a.reply ≡ 0
    next c t p none x = let z : accepted (passed (response l) es rest) ≡ refused a = rw (t, p, x) at e in never (cc)
    next c t p (some b) x =
        let z : refused (refusal b.reason 0 b.detail b.missing) ≡ refused a = rw (t, p, x) at e in
        let w : a ≡ refusal b.reason 0 b.detail b.missing = cc in
        rw w

    go : (t : Bool) (o : Option Column) → within 100 699 (status_of l) ≡ t → response_column_of l es ≡ o → a.reply ≡ 0
    go false o t p =
        let z : refused (refusal 17 0 0 0) ≡ refused a = rw t at e in
        let w : a ≡ refusal 17 0 0 0 = cc in
        rw w
    go true none t p =
        let z : refused (refusal 6 0 0 0) ≡ refused a = rw (t, p) at e in
        let w : a ≡ refusal 6 0 0 0 = cc in
        rw w
    go true (some c) t p = next c t p (reasons c) refl

-- a response has one of three columns
of_responses :
    (p : Column → Bool) → p InviteSuccess ≡ true → p CancelResponse ≡ true → p OtherResponse ≡ true
    → (success : Bool) (m : List ℕ) (c : Column) → response_column success m ≡ some c → p c ≡ true
unfolding response_column
of_responses p i x o success m c e = go success (same (text "INVITE") m) (same (text "BYE") m) (same (text "CANCEL") m) (same (text "OPTIONS") m) e
  where
    is : (d : Column) → p d ≡ true → ◌≡◌ {A = Option Column} (some d) (some c) → p c ≡ true
    is d h e = let k : d ≡ c = cc in rw (← k) h

    go : (s a b k t : Bool)
        → cond a (some (cond s InviteSuccess OtherResponse)) (cond b (some OtherResponse) (cond k (some CancelResponse) (cond t (some OtherResponse) none)))
        ≡ some c
        → p c ≡ true
    go true true b k t e = is InviteSuccess i e
    go false true b k t e = is OtherResponse o e
    go s false true k t e = is OtherResponse o e
    go s false false true t e = is CancelResponse x e
    go s false false false true e = is OtherResponse o e
    go s false false false false e = never (cc)

module _ (m : List ℕ) (l : StatusLine) (h : Header) (e : lines m ≡ read (response l) h) where
  abbrev es : List Entry
  es = kept_of (response l) h.fields

  abbrev column : Option Column
  column = message_column (response l) h.fields

  judged_so : judgement m ≡ judged_response l es h.rest
  unfolding judgement
  judged_so = rw e refl

  made : (r : Passed) → judgement m ≡ accepted r → r ≡ passed (response l) es h.rest
  made r q = (judged_inv (response l) es h.rest r (sym judged_so ∙ q)).made

  -- ---- nothing anonymous

  -- what all columns of responses ignore is not among the kept fields
  module _ (n : ℕ) (i : ignored (some InviteSuccess) n ≡ true) (x : ignored (some CancelResponse) n ≡ true)
      (o : ignored (some OtherResponse) n ≡ true) where
    pub all_ignore : (r : Passed) → judgement m ≡ accepted r → ignored column n ≡ true
    unfolding judged_response response_column_of
    all_ignore r q = go column (within 100 699 (status_of l)) refl refl
      where
        once : response_column_of l es ≡ column
        once = column_once l h.fields

        taken : judged_response l es h.rest ≡ accepted r
        taken = sym judged_so ∙ q

        go : (c : Option Column) (t : Bool) → column ≡ c → within 100 699 (status_of l) ≡ t
            → ignored column n ≡ true
        go (some c) t p u = rw p (of_responses (λ (d : Column). ignored (some d) n) i x o _ (first_cseq_method es) c (once ∙ p))
        go none false p u = not_both (rw u at taken)
        go none true p u = not_both (rw (u, once, p) at taken)

  pub not_withheld : (r : Passed) → judgement m ≡ accepted r → withheld r.fields ≡ false
  unfolding withheld ignored mark find rows
  not_withheld r q = rw (made r q, ignored_none column 16 (all_ignore 16 refl refl refl r q) h.fields) refl

  -- on either side, whatever is remembered
  as_it_is : (r : Passed) → judgement m ≡ accepted r → (side : ℕ) (table : List ℕ)
      → decided side table r ≡ sends r.line (output false r) table
  as_it_is r q side table = goes_unmasked r (not_withheld r q) table (rw (made r q)) side

  not_full : (r : Passed) → judgement m ≡ accepted r → (side : ℕ) (table : List ℕ) → overfills side table r ≡ false
  unfolding overfills
  not_full r q side table = rw (not_hidden r (not_withheld r q) table (rw (made r q)) side)

  module _ (table buffer : List ℕ) where
    answered : (side : ℕ) → (screened m side table buffer).answer.reply ≡ 0
    unfolding replied
    answered side =
        screened_cases m side table buffer (λ (s : Screened). s.answer.reply ≡ 0)
        (record {
          other_side = refl;
          is_refused = λ a q. refused_silent l es h.rest a (sym judged_so ∙ q);
          is_full_lem = λ r q f. never (cc (not_full r q side table, f));
          no_room = λ r n q. rw (made r q);
          is_sent = λ r q f. refl;
        })

    same_sides : (screened m 1 table buffer ≡ screened m 0 table buffer) × ((screened m 1 table buffer).table ≡ table)
    unfolding screened verdict
    same_sides = go (judgement m) refl
      where
        go : (j : Judgement) → judgement m ≡ j
            → (screened m 1 table buffer ≡ screened m 0 table buffer) × ((screened m 1 table buffer).table ≡ table)
        go (refused a) q = rw q (refl, refl)
        go (accepted r) q =
            rw (q, as_it_is r q 1 table, as_it_is r q 0 table)
            (refl, written_cases (λ (s : Screened). s.table ≡ table) buffer table r.line (output false r) table refl refl)

  -- ---- the trunk number

  trunk_number : (r : Passed) → judgement m ≡ accepted r → (trunk : List ℕ) → is_global trunk ≡ true → calling_number m trunk ≡ trunk
  unfolding calling_number caller_in ignored mark find rows
  trunk_number r q trunk g = rw (g, q, made r q, none_asserted column (all_ignore 15 refl refl refl r q) 0 h.fields) refl

-- ---- the lines of a response, where they are read

read_response : (m : List ℕ) (l : StatusLine) → start m ≡ some (response l) → (k : Start) (h : Header) → lines m ≡ read k h → lines m ≡ read (response l) h
unfolding lines
read_response m l s k h e = rw (is_response (leb (length m) 8192) (header 0 (drop (start_size (response l)) m)) refl refl) at e
  where
    fields : (t : Bool) (f : Header) → cond t (read (response l) f) (unread 5) ≡ read k h → k ≡ response l
    fields true f e = cc
    fields false f e = never (cc)

    is_response : (t : Bool) (o : Option Header) → leb (length m) 8192 ≡ t → header 0 (drop (start_size (response l)) m) ≡ o → k ≡ response l
    is_response false o p q = let z : unread 2 ≡ read k h = rw p at e in never (cc)
    is_response true none p q = let z : unread 4 ≡ read k h = rw (p, s, q) at e in never (cc)
    is_response true (some f) p q = fields (leb (length f.fields) 96) f (rw (p, s, q) at e)

pub no_reply : NoReply
unfolding screened verdict judgement
no_reply m l s side table buffer = go (lines m) refl
  where
    unreplied : (t : Bool) (n : ℕ) → leb side 1 ≡ t → lines m ≡ unread n → (screened m side table buffer).answer.reply ≡ 0
    unreplied true n p e = rw (p, e) refl
    unreplied false n p e = rw p refl

    go : (r : Lines) → lines m ≡ r → (screened m side table buffer).answer.reply ≡ 0
    go (unread n) e = unreplied (leb side 1) n refl e
    go (read k h) e = answered m l h (read_response m l s k h e) table buffer side

pub nothing_anonymous : NothingAnonymous
unfolding screened verdict judgement
nothing_anonymous m l s table buffer = go (lines m) refl
  where
    go : (r : Lines) → lines m ≡ r → (screened m 1 table buffer ≡ screened m 0 table buffer) × ((screened m 1 table buffer).table ≡ table)
    go (unread n) e = rw e (refl, refl)
    go (read k h) e = same_sides m l h (read_response m l s k h e) table buffer

pub response_calling : ResponseCalling
unfolding judgement
response_calling m trunk l r s q g = go (lines m) refl
  where
    go : (k : Lines) → lines m ≡ k → calling_number m trunk ≡ trunk
    go (unread n) e = not_both (rw e at q)
    go (read k h) e = trunk_number m l h (read_response m l s k h e) r q trunk g
