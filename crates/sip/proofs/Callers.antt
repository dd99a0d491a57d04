-- CR 5: of From and P-Asserted-Identity no reason, no masked line and no pair sees more than that they are not malformed, and From's tag.
use mathlib.Core.Path.{◌≡◌, refl, sym, ap, ◌∙◌}
use mathlib.Core.Bool.{Bool, true, false, cond}
use mathlib.Core.List.{List, [], ◌∷◌, ◌++◌, append-nil}
use mathlib.Core.Option.{Option, none, some}
use Prim.Native.Nat.{ℕ, suc, ◌≤◌}
use lib.Dec.{eqb, leb}
use lib.ListN.{length, take, drop, take-append-drop}
use Rattle.octets.specs.Classes.{text}
use Rattle.octets.specs.Scans.{same}
use Rattle.sip.specs.declared.Column.{Column}
use Rattle.sip.specs.Lines.{RequestLine, Start, request, start, start_bytes, start_size, Field, Header, header, canonical}
use Rattle.sip.specs.Profile.{rows, find, mark, number_of, column_of, ignored, numbers}
use Rattle.sip.specs.Values.{is_empty, is_from, tag_of, allowed}
use Rattle.sip.specs.Refusals.{Answer, Entry, kept, value_of, occurs, to_tagged, withheld, content_length, body_of, first_repeat, reason9}
use Rattle.sip.specs.Refusals.{well_formed, brought, first_malformed, reason10, exceeds, reason11, missing_of, reason12, no_hops, reason13, all_tags}
use Rattle.sip.specs.Refusals.{first_lacking, reason14, first_of, reasons, passed, accepted, read, lines, judged_request, message_column}
use Rattle.sip.specs.Refusals.{kept_of, judgement}
use Rattle.sip.specs.Output.{sent_value, field_lines, output}
use Rattle.sip.specs.Screen.{value_or, call_of, hides, closes, masks, overfills, calls_after, decided, verdict_of, verdict, screened}
use Rattle.sip.specs.Asserted.{IdentitiesAllowed}
use Rattle.sip.specs.Callers.{OtherCaller, no_fields, equal, other_from, other_identity, TwoCallers}
use Rattle.sip.specs.Grammar.{HoldsAny, here, later}
use Rattle.sip.specs.GrammarPromises.{Withholding}
use Rattle.sip.specs.Promises.{DigitsHidden, EitherWay, only, AnyValue, EveryPair, CallersRead, NoOtherPair}
use Rattle.sip.proofs.Tests.{never}
use Rattle.sip.proofs.Starts.{request_taken, start_here}
use Rattle.sip.proofs.Headers.{header_here}
use Rattle.sip.proofs.Accepted.{first_formed}
use Rattle.sip.proofs.Allowed.{none_brought, only_one, only_none, allowed_formed, formed_allowed}
use Rattle.sip.proofs.Change.{lines_shaped, lines_inv}
use Rattle.sip.proofs.Grammar.Promises.{from_read}
use Rattle.sip.proofs.Grammar.Withheld.{withheld_found, withheld_read}

-- ---- the kept fields

abbrev entry : ℕ → List ℕ → Entry
entry n v = record { number = n; value = v }

-- the same numbers in the same places, and the same values but for those of From, which have the same tag, and of P-Asserted-Identity, where P
-- is asked for
data Like (P : Type 0) : List Entry → List Entry → Type 0 where
  no_entries : Like P [] []
  same_entry : {e : Entry} {es ds : List Entry} → Like P es ds → Like P (e ∷ es) (e ∷ ds)
  two_froms :
      {v w : List ℕ} {es ds : List Entry} → is_from v ≡ true → is_from w ≡ true → tag_of w ≡ tag_of v → Like P es ds
      → Like P (entry 3 v ∷ es) (entry 3 w ∷ ds)
  two_identities : {v w : List ℕ} {es ds : List Entry} → P → Like P es ds → Like P (entry 15 v ∷ es) (entry 15 w ∷ ds)

module _ {P : Type 0} where
  -- where a field is ignored in both, or kept in both
  kept_more : (t : Bool) (e d : Entry) (es ds : List Entry) → Like P es ds → (Like P es ds → Like P (e ∷ es) (d ∷ ds))
      → Like P (cond t es (e ∷ es)) (cond t ds (d ∷ ds))
  kept_more true e d es ds l k = l
  kept_more false e d es ds l k = k l

  kept_like : (c : Option Column) {fs gs : List Field} → OtherCaller P fs gs → Like P (kept c fs) (kept c gs)
  unfolding kept
  kept_like c no_fields = no_entries
  kept_like c (equal {f = f} {fs = fs} {gs = gs} o) =
      let e = entry (number_of f.name) (canonical f.value) in
      kept_more (ignored c (number_of f.name)) e e (kept c fs) (kept c gs) (kept_like c o) (λ l. same_entry l)
  kept_like c (other_from {f = f} {v = v} {fs = fs} {gs = gs} n a b o) =
      let (x, p) = (from_read (canonical f.value) _).1 (_, a) in
      let (y, q) = (from_read (canonical v) _).1 (_, b) in
      rw n (kept_more (ignored c 3) (entry 3 (canonical f.value)) (entry 3 (canonical v)) (kept c fs) (kept c gs) (kept_like c o)
      (λ l. two_froms x y (q ∙ sym p) l))
  kept_like c (other_identity {f = f} {v = v} {fs = fs} {gs = gs} n p o) =
      rw n (kept_more (ignored c 15) (entry 15 (canonical f.value)) (entry 15 (canonical v)) (kept c fs) (kept c gs) (kept_like c o)
      (λ l. two_identities p l))

-- ---- what the reasons and the writer see of them

more_value : (n : ℕ) (e : Entry) (es ds : List Entry) → value_of n ds ≡ value_of n es → value_of n (e ∷ ds) ≡ value_of n (e ∷ es)
unfolding value_of
more_value n e es ds h = rw h

value_like : {P : Type 0} (n : ℕ) → eqb 3 n ≡ false → eqb 15 n ≡ false → {es ds : List Entry} → Like P es ds → value_of n ds ≡ value_of n es
unfolding value_of
value_like n p q no_entries = refl
value_like n p q (same_entry {e = e} {es = es} {ds = ds} l) = more_value n e es ds (value_like n p q l)
value_like n p q (two_froms a b t l) = rw p (value_like n p q l)
value_like n p q (two_identities k l) = rw q (value_like n p q l)

occurs_like : {P : Type 0} (n : ℕ) {es ds : List Entry} → Like P es ds → occurs n ds ≡ occurs n es
unfolding occurs
occurs_like n no_entries = refl
occurs_like n (same_entry l) = rw (occurs_like n l)
occurs_like n (two_froms a b t l) = rw (occurs_like n l)
occurs_like n (two_identities p l) = rw (occurs_like n l)

repeat_like : {P : Type 0} (earlier : List ℕ) {es ds : List Entry} → Like P es ds → first_repeat earlier ds ≡ first_repeat earlier es
unfolding first_repeat
repeat_like earlier no_entries = refl
repeat_like earlier (same_entry {e = e} l) = rw (repeat_like (e.number ∷ earlier) l)
repeat_like earlier (two_froms a b t l) = rw (repeat_like (3 ∷ earlier) l)
repeat_like earlier (two_identities p l) = rw (repeat_like (15 ∷ earlier) l)

from_formed : (method v : List ℕ) → is_from v ≡ true → well_formed method 3 v ≡ true
unfolding well_formed
from_formed method v e = e

-- where no P-Asserted-Identity differs
malformed_same : (method : List ℕ) (earlier : List Bool) {es ds : List Entry} → Like ⊥ es ds
    → first_malformed method earlier ds ≡ first_malformed method earlier es
unfolding first_malformed well_formed
malformed_same method earlier no_entries = refl
malformed_same method earlier (same_entry {e = e} l) = rw (malformed_same method (earlier ++ brought e) l)
malformed_same method earlier (two_froms {v = v} {w = w} a b t l) =
    rw (none_brought (entry 3 v) refl, none_brought (entry 3 w) refl, a, b, malformed_same method (earlier ++ []) l)
malformed_same method earlier (two_identities p l) = absurd p

-- where all are allowed in both: `one` and `other` are what the fields before have brought
malformed_allowed : {P : Type 0} (method : List ℕ) (one other : List Bool) {es ds : List Entry} → Like P es ds
    → allowed one ≡ true → allowed other ≡ true
    → first_malformed method one (only 15 es) ≡ 0 → first_malformed method other (only 15 ds) ≡ 0
    → first_malformed method other ds ≡ first_malformed method one es
unfolding first_malformed
malformed_allowed method one other no_entries a b p q = refl
malformed_allowed method one other (same_entry {e = e} {es = es} {ds = ds} l) a b p q =
    go (eqb e.number 15) refl (λ x y f g h k. malformed_allowed method x y l f g h k)
  where
    go : (t : Bool) → eqb e.number 15 ≡ t
        → ((x y : List Bool) → allowed x ≡ true → allowed y ≡ true → first_malformed method x (only 15 es) ≡ 0 → first_malformed method y (only 15 ds) ≡ 0
        → first_malformed method y ds ≡ first_malformed method x es)
        → first_malformed method other (e ∷ ds) ≡ first_malformed method one (e ∷ es)
    go true n ih =
        let x = first_formed method one e (only 15 es) a (rw (only_one e es n) at p) in
        let y = first_formed method other e (only 15 ds) b (rw (only_one e ds n) at q) in
        rw (x.is_formed, x.is_allowed, y.is_allowed) (ih (one ++ brought e) (other ++ brought e) x.is_allowed y.is_allowed x.others y.others)
    go false n ih =
        rw (none_brought e n, append-nil one, append-nil other, a, b, ih one other a b (rw (only_none e es n) at p) (rw (only_none e ds n) at q))
malformed_allowed method one other (two_froms {v = v} {w = w} {es = es} {ds = ds} f g t l) a b p q =
    rw (none_brought (entry 3 v) refl, none_brought (entry 3 w) refl, append-nil one, append-nil other, a, b, from_formed method v f, from_formed method w g)
    (malformed_allowed method one other l a b (rw (only_none (entry 3 v) es refl) at p) (rw (only_none (entry 3 w) ds refl) at q))
malformed_allowed method one other (two_identities {v = v} {w = w} {es = es} {ds = ds} k l) a b p q =
    let x = first_formed method one (entry 15 v) (only 15 es) a (rw (only_one (entry 15 v) es refl) at p) in
    let y = first_formed method other (entry 15 w) (only 15 ds) b (rw (only_one (entry 15 w) ds refl) at q) in
    rw (x.is_formed, y.is_formed, x.is_allowed, y.is_allowed)
    (malformed_allowed method (one ++ brought (entry 15 v)) (other ++ brought (entry 15 w)) l x.is_allowed y.is_allowed x.others y.others)

missing_like : {P : Type 0} (c : Column) (empty : Bool) {es ds : List Entry} → Like P es ds → (ns : List ℕ) → missing_of c empty ds ns ≡ missing_of c empty es ns
unfolding missing_of
missing_like c empty l [] = refl
missing_like c empty l (n ∷ ns) = rw (occurs_like n l, missing_like c empty l ns)

tags_like : {P : Type 0} {es ds : List Entry} → Like P es ds → all_tags ds ≡ all_tags es
unfolding all_tags
tags_like no_entries = refl
tags_like (same_entry l) = rw (tags_like l)
tags_like (two_froms a b t l) = tags_like l
tags_like (two_identities p l) = tags_like l

-- From's tag, by which the call is remembered
tag_like : {P : Type 0} {es ds : List Entry} → Like P es ds → tag_of (value_or (value_of 3 ds)) ≡ tag_of (value_or (value_of 3 es))
unfolding value_of
tag_like no_entries = refl
tag_like (same_entry {e = e} {es = es} {ds = ds} l) = go (eqb e.number 3) (tag_like l)
  where
    go : (t : Bool) → tag_of (value_or (value_of 3 ds)) ≡ tag_of (value_or (value_of 3 es))
        → tag_of (value_or (cond t (some e.value) (value_of 3 ds))) ≡ tag_of (value_or (cond t (some e.value) (value_of 3 es)))
    go true h = refl
    go false h = h
tag_like (two_froms a b t l) = t
tag_like (two_identities p l) = tag_like l

lines_like : {P : Type 0} (body : ℕ) {es ds : List Entry} → Like P es ds → field_lines true body ds ≡ field_lines true body es
unfolding field_lines sent_value
lines_like body no_entries = refl
lines_like body (same_entry l) = rw (lines_like body l)
lines_like body (two_froms a b t l) = rw (t, lines_like body l)
lines_like body (two_identities p l) = lines_like body l

-- ---- the whole judgement

-- on side 1 the withheld are masked
masked : (es : List Entry) (k : Start) (rest table : List ℕ) → withheld es ≡ true → masks 1 table (passed k es rest) ≡ true
unfolding masks
masked es k rest table w = cc

module _ {P : Type 0} {es ds : List Entry} (l : Like P es ds)
    (formed : (method : List ℕ) → first_malformed method [] ds ≡ first_malformed method [] es) where
  length_like : content_length ds ≡ content_length es
  unfolding content_length
  length_like = rw (content_length, value_like 8 refl refl l)

  body_like : (rest : List ℕ) → body_of ds rest ≡ body_of es rest
  unfolding body_of
  body_like rest = rw (body_of, length_like)

  tagged_like : to_tagged ds ≡ to_tagged es
  unfolding to_tagged
  tagged_like = rw (value_like 4 refl refl l)

  withheld_like : withheld ds ≡ withheld es
  unfolding withheld
  withheld_like = rw (value_like 16 refl refl l)

  exceeds_like : (rest : List ℕ) → exceeds ds rest ≡ exceeds es rest
  unfolding exceeds
  exceeds_like rest = rw (exceeds, length_like)

  hops_like : no_hops ds ≡ no_hops es
  unfolding no_hops
  hops_like = rw (value_like 2 refl refl l)

  like9 : reason9 ds ≡ reason9 es
  unfolding reason9
  like9 = rw (repeat_like [] l)

  like10 : (method : List ℕ) → reason10 method ds ≡ reason10 method es
  unfolding reason10
  like10 method = rw (formed method)

  like11 : (rest : List ℕ) → reason11 ds rest ≡ reason11 es rest
  unfolding reason11
  like11 rest = rw (exceeds_like rest)

  like12 : (c : Column) (rest : List ℕ) → reason12 c ds rest ≡ reason12 c es rest
  unfolding reason12
  like12 c rest = rw (body_like rest, missing_like c (is_empty (body_of es rest)) l numbers)

  like13 : reason13 ds ≡ reason13 es
  unfolding reason13
  like13 = rw hops_like

  like14 : reason14 ds ≡ reason14 es
  unfolding reason14 first_lacking
  like14 = rw (tags_like l)

  reasons_like : (c : Column) (k : RequestLine) (rest : List ℕ) → reasons c k ds rest ≡ reasons c k es rest
  unfolding reasons
  reasons_like c k rest = rw (like9, like10 k.method, like11 rest, like12 c rest, like13, like14)

  output_like : (k : Start) (rest : List ℕ) → output true (passed k ds rest) ≡ output true (passed k es rest)
  unfolding output
  output_like k rest = rw (body_like rest, lines_like _ l)

  call_like : call_of ds ≡ call_of es
  unfolding call_of
  call_like = rw (value_like 5 refl refl l, tag_like l)

  hides_like : (k : Start) (rest : List ℕ) → hides 1 (passed k ds rest) ≡ hides 1 (passed k es rest)
  unfolding hides
  hides_like k rest = rw withheld_like

  -- what goes out, and the calls that are remembered
  decided_like : (k : Start) (rest table : List ℕ) → withheld es ≡ true → decided 1 table (passed k ds rest) ≡ decided 1 table (passed k es rest)
  unfolding decided overfills closes calls_after
  decided_like k rest table w =
      let x = masked es k rest table w in
      let y = masked ds k rest table (withheld_like ∙ w) in
      rw (hides_like k rest, call_like, x, y, output_like k rest)

  judged_like : (k : RequestLine) (rest table : List ℕ) → (judged_request k es rest ≡ accepted (passed (request k) es rest) → withheld es ≡ true)
      → verdict_of 1 table (judged_request k ds rest) ≡ verdict_of 1 table (judged_request k es rest)
  unfolding judged_request
  judged_like k rest table w = go (column_of k.method (to_tagged es)) refl
    where
      next : (c : Column) → column_of k.method (to_tagged es) ≡ some c → (o : Option Answer) → first_of (reasons c k es rest) ≡ o
          → verdict_of 1 table (judged_request k ds rest) ≡ verdict_of 1 table (judged_request k es rest)
      next c p (some a) q = rw (judged_request, tagged_like, p, reasons_like c k rest, q)
      next c p none q =
          let a : withheld es ≡ true = w (rw (judged_request, p, q)) in
          rw (judged_request, tagged_like, p, reasons_like c k rest, q) (decided_like (request k) rest table a)

      go : (o : Option Column) → column_of k.method (to_tagged es) ≡ o
          → verdict_of 1 table (judged_request k ds rest) ≡ verdict_of 1 table (judged_request k es rest)
      go none p = rw (judged_request, tagged_like, p)
      go (some c) p = next c p (first_of (reasons c k es rest)) refl

-- ---- the two messages

module _ {P : Type 0} where
  same_count : {fs gs : List Field} → OtherCaller P fs gs → length gs ≡ length fs
  same_count no_fields = refl
  same_count (equal o) = ap suc (same_count o)
  same_count (other_from n a b o) = ap suc (same_count o)
  same_count (other_identity n p o) = ap suc (same_count o)

  -- a P-Asserted-Identity differs, and P holds; or none does
  either : {Q : Type 0} {fs gs : List Field} → OtherCaller P fs gs → (P → Q) → (OtherCaller ⊥ fs gs → Q) → Q
  either no_fields f g = g no_fields
  either (equal o) f g = either o f (λ x. g (equal x))
  either (other_from n a b o) f g = either o f (λ x. g (other_from n a b x))
  either (other_identity n p o) f g = f p

pub no_other_pair : NoOtherPair
no_other_pair m m' c =
    let reads = lines_shaped (request c.line) c.version c.rest c.start_shaped in
    record {
      first_reads = reads m c.fields c.all_shaped c.first c.within_bytes;
      second_reads = reads m' c.fields' c.all_shaped' c.second c.within_bytes';
      as_many = same_count c.other_caller;
    }

-- an INVITE keeps P-Asserted-Identity
invite_keeps : (l : RequestLine) → l.method ≡ text "INVITE" → ignored (column_of l.method false) 15 ≡ false
unfolding column_of ignored mark find rows same text
invite_keeps l e = rw e

formed_like : (method : List ℕ) (c : Option Column) → ignored c 15 ≡ false → {fs gs : List Field}
    → OtherCaller (IdentitiesAllowed fs × IdentitiesAllowed gs) fs gs → first_malformed method [] (kept c gs) ≡ first_malformed method [] (kept c fs)
unfolding allowed
formed_like method c i {fs} {gs} o =
    either o
    (λ p.
    malformed_allowed method [] [] (kept_like c o) refl refl (allowed_formed method c i fs p.0) (allowed_formed method c i gs p.1))
    (λ x. malformed_same method [] (kept_like c x))

-- what is decided before anything is written
pub same_verdict : (m m' table : List ℕ) → TwoCallers m m' → verdict m' 1 table ≡ verdict m 1 table
unfolding verdict judgement
same_verdict m m' table c = go (leb (length c.fields) 96) refl
  where
    l : Start
    l = request c.line

    r : CallersRead m m' c
    r = no_other_pair m m' c

    es : List Entry
    es = kept_of l c.fields

    -- where the first is accepted it has one Privacy, and that withholds
    withholds : leb (length c.fields) 96 ≡ true → judged_request c.line es c.rest ≡ accepted (passed l es c.rest) → withheld es ≡ true
    withholds p a =
        let h : Header = record { fields = c.fields; rest = c.rest } in
        let e : lines m ≡ read l h = rw (r.first_reads, p) in
        (withheld_read m l h (passed l es c.rest) e (rw e a)).1 c.is_withheld

    column : Option Column
    column = column_of c.line.method false

    ds : List Entry
    ds = kept_of l c.fields'

    formed : (method : List ℕ) → first_malformed method [] ds ≡ first_malformed method [] es
    formed method = formed_like method column (invite_keeps c.line c.an_invite) c.other_caller

    go : (t : Bool) → leb (length c.fields) 96 ≡ t → verdict m' 1 table ≡ verdict m 1 table
    go true p =
        rw (r.first_reads, r.second_reads, r.as_many, p)
        (judged_like (kept_like column c.other_caller) formed c.line c.rest table (withholds p))
    go false p = rw (r.first_reads, r.second_reads, r.as_many, p)

pub digits_hidden : DigitsHidden
unfolding screened
digits_hidden m m' table buffer c = rw (same_verdict m m' table c)

-- ---- either way, and no value and no pair is left out

kept_none : ignored none 15 ≡ false
unfolding ignored
kept_none = refl

pub any_value : AnyValue
any_value =
    record {
      of_from =
          λ P f w fs gs n a b t o.
          let (u, x) = (from_read (canonical f.value) (tag_of (canonical f.value))).0 (a, refl) in
          let (u', y) = (from_read (canonical w) (tag_of (canonical f.value))).0 (b, t) in
          other_from n x y o;
      of_identities = λ method fs h. formed_allowed method none kept_none fs h;
    }

other_way : {P Q : Type 0} {fs gs : List Field} → (P → Q) → OtherCaller P fs gs → OtherCaller Q gs fs
other_way k no_fields = no_fields
other_way k (equal o) = equal (other_way k o)
other_way k (other_from n a b o) = other_from n b a (other_way k o)
other_way k (other_identity n p o) = other_identity n (k p) (other_way k o)

-- the same Privacy withholds
other_withheld : {P : Type 0} (c : Option Column) {fs gs : List Field} → OtherCaller P fs gs → HoldsAny (Withholding c) fs → HoldsAny (Withholding c) gs
other_withheld {P = P} c no_fields x4 = elim x4 [ ]
other_withheld c (equal o) (here w) = here w
other_withheld c (equal o) (later h) = later (other_withheld c o h)
other_withheld c (other_from n a b o) (here w) = let k = w.a_privacy in never (cc)
other_withheld c (other_from n a b o) (later h) = later (other_withheld c o h)
other_withheld c (other_identity n p o) (here w) = let k = w.a_privacy in never (cc)
other_withheld c (other_identity n p o) (later h) = later (other_withheld c o h)

pub either_way : EitherWay
either_way m m' c =
    record {
      line = c.line;
      version = c.version;
      fields = c.fields';
      fields' = c.fields;
      rest = c.rest;
      an_invite = c.an_invite;
      start_shaped = c.start_shaped;
      all_shaped = c.all_shaped';
      all_shaped' = c.all_shaped;
      other_caller = other_way (λ p. (p.1, p.0)) c.other_caller;
      first = c.second;
      second = c.first;
      within_bytes = c.within_bytes';
      within_bytes' = c.within_bytes;
      is_withheld = other_withheld (column_of c.line.method false) c.other_caller c.is_withheld;
    }

-- two callers, from what is found in two messages
module _ (m m' : List ℕ) (b : length m ≤ 8192) (b' : length m' ≤ 8192) where
  pub pair_found : (l : RequestLine) → start m ≡ some (request l) → l.method ≡ text "INVITE"
      → take (start_size (request l)) m ≡ take (start_size (request l)) m' → (h k : Header) → header 0 (drop (start_size (request l)) m) ≡ some h
      → header 0 (drop (start_size (request l)) m') ≡ some k → h.rest ≡ k.rest
      → OtherCaller (IdentitiesAllowed h.fields × IdentitiesAllowed k.fields) h.fields k.fields
      → HoldsAny (Withholding (message_column (request l) h.fields)) h.fields → TwoCallers m m'
  pair_found l p i t h k q r e o w =
      let n = start_size (request l) in
      let s = start_here m (request l) p in
      let x = header_here 0 (drop n m) h q in
      let y = header_here 0 (drop n m') k r in
      let z : take n m ≡ start_bytes (request l) s.version = ap (take n) (sym s.here) ∙ request_taken l s.version (drop n m) s.shaped in
      record {
        line = l;
        version = s.version;
        fields = h.fields;
        fields' = k.fields;
        rest = h.rest;
        an_invite = i;
        start_shaped = s.shaped;
        all_shaped = x.shaped;
        all_shaped' = y.shaped;
        other_caller = o;
        first = rw x.here (sym s.here);
        second = rw (e, y.here, ← z, t) (sym (take-append-drop n m'));
        within_bytes = b;
        within_bytes' = b';
        is_withheld = w;
      }

pub every_pair : EveryPair
every_pair m m' l h h' e e' t b o i w =
    let r = lines_inv m (request l) h e in
    let r' = lines_inv m' (request l) h' e' in
    pair_found m m' r.within_bytes r'.within_bytes l r.has_start i t h h' r.has_header r'.has_header b o
    (withheld_found (column_of l.method false) h.fields w)
