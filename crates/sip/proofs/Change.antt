-- Demand 3: what a change leaves as it is, that every message that reads is an original of one, and that both messages read.
use mathlib.Core.Path.{◌≡◌, refl, sym, ap, ◌∙◌}
use mathlib.Core.Bool.{Bool, true, false}
use mathlib.Core.List.{List, [], ◌∷◌, ◌++◌}
use mathlib.Core.Option.{Option, none, some}
use Prim.Native.Nat.{ℕ, ◌≤◌}
use native.Mathlib.Omega.{arith}
use lib.Dec.{leb, eqb}
use lib.ListN.{length, drop}
use borrow.Author.Tests.{leb-true, le-leb, eqb-true}
use Rattle.sip.specs.Lines.{Start, request, response, start, start_bytes, start_size, Field, Header, header}
use Rattle.sip.specs.Profile.{rows, find, mark, number_of, ignored}
use Rattle.sip.specs.declared.Column.{Column}
use Rattle.sip.specs.declared.Column.TheVariants.{Invite, Reinvite, Ack, Bye, Cancel, Options, InviteSuccess, CancelResponse, OtherResponse}
use Rattle.sip.specs.Refusals.{unread, read, header_lines, lines, kept, value_of, first_cseq_method, response_column_of, message_column, kept_of, judgement}
use Rattle.sip.specs.Screen.{verdict, screened}
use Rattle.sip.specs.Change.{StartShaped, AllShaped, none_left, one_more, header_bytes, Varied, no_fields, unchanged, added, renamed, Changed}
use Rattle.sip.specs.Promises.{Demand3, SameColumn, Everything, NothingElse}
use Rattle.sip.proofs.Headers.{header_bytes_lem, header_here}
use Rattle.sip.proofs.Starts.{start_rest, start_bytes_lem, start_here}
use Rattle.sip.proofs.Names.{listed_name}
use Rattle.sip.proofs.Tests.{never}

-- ---- the changed fields

varied_shaped : {p : ℕ → Bool} {fs gs : List Field} → Varied p fs gs → AllShaped fs → AllShaped gs
varied_shaped no_fields none_left = none_left
varied_shaped (unchanged v) (one_more w h) = one_more w (varied_shaped v h)
varied_shaped (added w i v) h = one_more w (varied_shaped v h)
varied_shaped (renamed {n = n} l e v) (one_more w h) =
    let k = listed_name n (rw e l) in
    one_more (record { name_long = k.long; name_token = k.token; gap_blank = w.gap_blank; value_ends = w.value_ends }) (varied_shaped v h)

varied_kept : (c : Option Column) {fs gs : List Field} → Varied (ignored c) fs gs → kept c gs ≡ kept c fs
unfolding kept
varied_kept c no_fields = refl
varied_kept c (unchanged v) = rw (varied_kept c v)
varied_kept c (added w i v) = rw (i, varied_kept c v)
varied_kept c (renamed l e v) = rw (e, varied_kept c v)

-- a field more in front, under two names of one number
listed_more : (n : ℕ) (name gap value : List ℕ) (f : Field) (fs gs : List Field) → number_of name ≡ number_of f.name → value ≡ f.value
    → value_of n (kept none gs) ≡ value_of n (kept none fs)
    → value_of n (kept none (record { name = name; gap = gap; value = value } ∷ gs)) ≡ value_of n (kept none (f ∷ fs))
unfolding kept value_of
listed_more n name gap value f fs gs e w h = go (ignored none (number_of f.name)) (eqb (number_of f.name) n) refl refl
  where
    go : (t u : Bool) → ignored none (number_of f.name) ≡ t → eqb (number_of f.name) n ≡ u
        → value_of n (kept none (record { name = name; gap = gap; value = value } ∷ gs)) ≡ value_of n (kept none (f ∷ fs))
    go true u p q = rw (e, p) h
    go false true p q = rw (e, w, p, q)
    go false false p q = rw (e, w, p, q) h

-- a field that is not ignored has the same first value among all listed ones
varied_first : (c : Option Column) (n : ℕ) → ignored c n ≡ false → {fs gs : List Field} → Varied (ignored c) fs gs
    → value_of n (kept none gs) ≡ value_of n (kept none fs)
unfolding kept value_of
varied_first c n k no_fields = refl
varied_first c n k (unchanged {f = f} {fs = fs} {gs = gs} v) =
    listed_more n f.name f.gap f.value f fs gs refl refl (varied_first c n k v)
varied_first c n k (added {f = f} {fs = fs} {gs = gs} w i v) = go (ignored none (number_of f.name)) (eqb (number_of f.name) n) refl refl (varied_first c n k v)
  where
    go : (t u : Bool) → ignored none (number_of f.name) ≡ t → eqb (number_of f.name) n ≡ u
        → value_of n (kept none gs) ≡ value_of n (kept none fs) → value_of n (kept none (f ∷ gs)) ≡ value_of n (kept none fs)
    go true u p q h = rw p h
    go false true p q h = let z : ignored c n ≡ true = rw (eqb-true (number_of f.name) n q) at i in never (cc)
    go false false p q h = rw (p, q) h
varied_first c n k (renamed {f = f} {n = name} {fs = fs} {gs = gs} l e v) =
    listed_more n name f.gap f.value f fs gs e refl (varied_first c n k v)

-- CSeq is kept everywhere, so that a change leaves a response its method, and its column
cseq_column : (c : Column) → ignored (some c) 6 ≡ false
unfolding ignored mark find rows
cseq_column Invite = refl
cseq_column Reinvite = refl
cseq_column Ack = refl
cseq_column Bye = refl
cseq_column Cancel = refl
cseq_column Options = refl
cseq_column InviteSuccess = refl
cseq_column CancelResponse = refl
cseq_column OtherResponse = refl

pub cseq_kept : (c : Option Column) → ignored c 6 ≡ false
unfolding ignored
cseq_kept none = refl
cseq_kept (some c) = cseq_column c

varied_column : (l : Start) (fs gs : List Field) → Varied (ignored (message_column l fs)) fs gs → message_column l gs ≡ message_column l fs
unfolding response_column_of first_cseq_method
varied_column (request l) fs gs v = refl
varied_column (response l) fs gs v = rw (varied_first (message_column (response l) fs) 6 (cseq_kept (message_column (response l) fs)) v)

varied_same : (p : ℕ → Bool) (fs : List Field) → Varied p fs fs
varied_same p [] = no_fields
varied_same p (f ∷ fs) = unchanged (varied_same p fs)

-- ---- both messages read

module _ (l : Start) (version rest : List ℕ) (w : StartShaped l version) where
  -- whatever the number of fields
  pub lines_shaped :
      (m : List ℕ) (fs : List Field) → AllShaped fs → m ≡ start_bytes l version ++ header_bytes fs rest → length m ≤ 8192
      → lines m ≡ header_lines l (some (record { fields = fs; rest = rest }))
  unfolding lines
  lines_shaped m fs a e b =
      let s : start m ≡ some l = rw e (start_bytes_lem l version (header_bytes fs rest) w) in
      let d : drop (start_size l) m ≡ header_bytes fs rest = rw e (start_rest l version (header_bytes fs rest) w) in
      rw (le-leb (length m) 8192 b, s, d, header_bytes_lem fs rest a)

  lines_bytes :
      (m : List ℕ) (fs : List Field) → AllShaped fs → m ≡ start_bytes l version ++ header_bytes fs rest → length m ≤ 8192 → length fs ≤ 96
      → lines m ≡ read l (record { fields = fs; rest = rest })
  lines_bytes m fs a e b f = lines_shaped m fs a e b ∙ rw (le-leb (length fs) 96 f)

pub nothing_else : NothingElse
nothing_else m m' c =
    let reads = lines_bytes c.line c.version c.rest c.start_shaped in
    record {
      original_reads = reads m c.fields c.all_shaped c.original c.within_bytes c.within_fields;
      changed_reads = reads m' c.fields' (varied_shaped c.varied c.all_shaped) c.changed c.within_bytes' c.within_fields';
    }

-- ---- and are judged alike

pub same_column : SameColumn
same_column m m' c = varied_column c.line c.fields c.fields' c.varied

pub alike : (m m' : List ℕ) → Changed m m' → judgement m' ≡ judgement m
unfolding judgement
alike m m' c =
    let r = nothing_else m m' c in
    let k : kept_of c.line c.fields' ≡ kept_of c.line c.fields
    = rw (same_column m m' c) (varied_kept (message_column c.line c.fields) c.varied) in
    rw (r.original_reads, r.changed_reads, k)

pub demand3 : Demand3
unfolding screened verdict
demand3 m m' side table buffer c = rw (alike m m' c)

-- ---- nothing is left out

unread_read : {A : Type 0} {n : ℕ} {l : Start} {h : Header} → unread n ≡ read l h → A
unread_read e = let z : ◌≡◌ {A = ℕ} 0 1 = cc in absurd (omega arith)

-- what a message has that reads
pub record LinesRead (m : List ℕ) (l : Start) (h : Header) : Type 0 where
  pub within_bytes : length m ≤ 8192
  pub has_start : start m ≡ some l
  pub has_header : header 0 (drop (start_size l) m) ≡ some h
  pub within_fields : length h.fields ≤ 96

pub lines_inv : (m : List ℕ) (l : Start) (h : Header) → lines m ≡ read l h → LinesRead m l h
unfolding lines
lines_inv m l h e = go (leb (length m) 8192) (start m) refl refl
  where
    fewer : (k : Start) (r : Header) (t : Bool) → leb (length m) 8192 ≡ true → start m ≡ some k → header 0 (drop (start_size k) m) ≡ some r
        → leb (length r.fields) 96 ≡ t → LinesRead m l h
    fewer k r false b p q f = unread_read (rw (b, p, q, f) at e)
    fewer k r true b p q f =
        let i : read k r ≡ read l h = rw (b, p, q, f) at e in
        let x : k ≡ l = cc in
        let y : r ≡ h = cc in
        record {
          within_bytes = leb-true (length m) 8192 b;
          has_start = rw x at p;
          has_header = rw (x, y) at q;
          within_fields = leb-true (length h.fields) 96 (rw y at f);
        }

    header_of : (k : Start) (o : Option Header) → leb (length m) 8192 ≡ true → start m ≡ some k → header 0 (drop (start_size k) m) ≡ o → LinesRead m l h
    header_of k none b p q = unread_read (rw (b, p, q) at e)
    header_of k (some r) b p q = fewer k r (leb (length r.fields) 96) b p q refl

    go : (t : Bool) (o : Option Start) → leb (length m) 8192 ≡ t → start m ≡ o → LinesRead m l h
    go false o b p = unread_read (rw b at e)
    go true none b p = unread_read (rw (b, p) at e)
    go true (some k) b p = header_of k (header 0 (drop (start_size k) m)) b p refl

-- a message that reads is changed into itself
pub everything : Everything
everything m l h e =
    let r = lines_inv m l h e in
    let s = start_here m l r.has_start in
    let a = header_here 0 (drop (start_size l) m) h r.has_header in
    let whole : m ≡ start_bytes l s.version ++ header_bytes h.fields h.rest =
    sym (ap (λ (x : List ℕ). start_bytes l s.version ++ x) a.here ∙ s.here) in
    record {
      change =
          record {
            line = l;
            version = s.version;
            fields = h.fields;
            fields' = h.fields;
            rest = h.rest;
            start_shaped = s.shaped;
            all_shaped = a.shaped;
            varied = varied_same (ignored (message_column l h.fields)) h.fields;
            original = whole;
            changed = whole;
            within_bytes = r.within_bytes;
            within_bytes' = r.within_bytes;
            within_fields = r.within_fields;
            within_fields' = r.within_fields;
          };
      same_line = refl;
      same_fields = refl;
      same_rest = refl;
    }
