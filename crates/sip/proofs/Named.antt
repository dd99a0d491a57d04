-- CR 6, what reasons 9 and 10 name: a field that repeats is none of 15, and a malformed one is of 15 only where the identities are not allowed.
use mathlib.Core.Path.{◌≡◌, refl, sym, ◌∙◌}
use mathlib.Core.Bool.{Bool, true, false, cond, ◌&&◌}
use mathlib.Core.List.{List, [], ◌∷◌, ◌++◌, append-nil}
use mathlib.Core.Option.{Option}
use Prim.Native.Nat.{ℕ}
use lib.Dec.{leb, eqb}
use borrow.Author.Tests.{eqb-true, eqb-false}
use Rattle.octets.specs.Classes.{among}
use Rattle.sip.specs.declared.Column.{Column}
use Rattle.sip.specs.Lines.{Start, Field, Header, canonical}
use Rattle.sip.specs.Profile.{rows, find, once, ignored, number_of}
use Rattle.sip.specs.Values.{allowed}
use Rattle.sip.specs.Refusals.{Answer, refusal, read, lines, Entry, kept, first_repeat, well_formed, brought, first_malformed}
use Rattle.sip.specs.Refusals.{Lines, unread, message_column, kept_of, judgement}
use Rattle.sip.specs.Screen.{verdict, Screened, screened}
use Rattle.sip.specs.Promises.{only, AllowedPass, IgnoredPass, FieldThatBringsIt, NeverRepeated}
use Rattle.sip.proofs.Tests.{never}
use Rattle.sip.proofs.Accepted.{method_of, first_formed}
use Rattle.sip.proofs.Allowed.{only_one, only_none, none_brought, allowed_formed, formed_allowed}
use Rattle.sip.proofs.Asserted.{only_formed}
use Rattle.sip.proofs.Reasons.{OfEach, judged_refused}
use Rattle.sip.proofs.Cases.{replied_reason, screened_cases}

-- ---- of the fields

-- CR 6 has "yes" for P-Asserted-Identity under Repeats
not_once : once 15 ≡ false
unfolding once find rows
not_once = refl

never_15 : (earlier : List ℕ) (es : List Entry) → first_repeat earlier es ≡ 15 → ⊥
unfolding first_repeat
never_15 earlier [] e = never (cc)
never_15 earlier (d ∷ es) e = go (once d.number) (among earlier d.number) refl e (never_15 (d.number ∷ earlier) es)
  where
    go : (t u : Bool) → once d.number ≡ t → cond (t && u) d.number (first_repeat (d.number ∷ earlier) es) ≡ 15
        → (first_repeat (d.number ∷ earlier) es ≡ 15 → ⊥) → ⊥
    go true true p q later = let z : once 15 ≡ true = rw q at p in never (cc not_once)
    go true false p q later = later q
    go false u p q later = later q

-- where the identities are allowed, the first malformed field is none of theirs
not_15 : (method : List ℕ) (earlier : List Bool) (es : List Entry) → allowed earlier ≡ true → first_malformed method earlier (only 15 es) ≡ 0
    → first_malformed method earlier es ≡ 15 → ⊥
unfolding first_malformed
not_15 method earlier [] a h e = never (cc)
not_15 method earlier (d ∷ es) a h e = go (eqb d.number 15) refl (λ b. not_15 method (earlier ++ brought d) es b)
  where
    go : (t : Bool) → eqb d.number 15 ≡ t
        → (allowed (earlier ++ brought d) ≡ true → first_malformed method (earlier ++ brought d) (only 15 es) ≡ 0
        → first_malformed method (earlier ++ brought d) es ≡ 15 → ⊥) → ⊥
    go true n later =
        let f = first_formed method earlier d (only 15 es) a (rw (only_one d es n) at h) in
        later f.is_allowed f.others (rw (f.is_formed, f.is_allowed) at e)
    go false n later = next (well_formed method d.number d.value) refl
      where
        b : allowed (earlier ++ brought d) ≡ true
        b = rw (none_brought d n, append-nil earlier) a

        others : first_malformed method (earlier ++ brought d) (only 15 es) ≡ 0
        others = rw (none_brought d n, append-nil earlier) (rw (only_none d es n) at h)

        next : (w : Bool) → well_formed method d.number d.value ≡ w → ⊥
        next true p = later b others (rw (p, b) at e)
        next false p = eqb-false d.number 15 n (rw p at e)

-- an answer that is not 9 with detail 15, and not 10 with it where `fine` holds
record Names (fine : Type 0) (a : Answer) : Type 0 where
  nine : a.reason ≡ 9 → a.detail ≡ 15 → ⊥
  ten : fine → a.reason ≡ 10 → a.detail ≡ 15 → ⊥

named : (fine : Type 0) (a : Answer) (k : ℕ) → a.reason ≡ k → eqb k 9 ≡ false → eqb k 10 ≡ false → Names fine a
named fine a k e p q = record { nine = λ y z. eqb-false k 9 p (sym e ∙ y); ten = λ f y z. eqb-false k 10 q (sym e ∙ y) }

abbrev Fine : List ℕ → List Entry → Type 0
Fine method es = first_malformed method [] (only 15 es) ≡ 0

of_each : (method : List ℕ) (es : List Entry) → OfEach (Names (Fine method es)) method es
unfolding allowed
of_each method es =
    record {
      nine = record { nine = λ y z. never_15 [] es z; ten = λ f y z. never (cc) };
      ten = record { nine = λ y z. never (cc); ten = λ f y z. not_15 method [] es refl f z };
      other = λ k reply detail missing l p q r. named (Fine method es) (refusal k reply detail missing) k refl p q;
      silenced = λ a n. record { nine = n.nine; ten = n.ten };
    }

-- ---- the answer of a message

module _ (m : List ℕ) (side : ℕ) (table buffer : List ℕ) where
  read_names : (l : Start) (h : Header) → lines m ≡ read l h
      → Names (Fine (method_of l (kept_of l h.fields)) (kept_of l h.fields)) (screened m side table buffer).answer
  unfolding judgement
  read_names l h e =
      screened_cases m side table buffer (λ (s : Screened). Names fine s.answer)
      (record {
        other_side = named fine _ 1 refl refl refl;
        is_refused = λ a q. judged_refused (Names fine) l es (of_each (method_of l es) es) h.rest a (rw e at q);
        is_full_lem = λ r q f. named fine _ 18 refl refl refl;
        no_room = λ r n q. named fine _ 16 (replied_reason r.line (refusal 16 500 n 0)) refl refl;
        is_sent = λ r q f. named fine _ 0 refl refl refl;
      })
    where
      es : List Entry
      es = kept_of l h.fields

      fine : Type 0
      fine = Fine (method_of l es) es

  no_repeat : (x : Lines) → lines m ≡ x → (screened m side table buffer).answer.reason ≡ 9 → (screened m side table buffer).answer.detail ≡ 15 → ⊥
  unfolding screened verdict judgement
  no_repeat (read l h) e y z = (read_names l h e).nine y z
  no_repeat (unread n) e y z = go (leb side 1) refl
    where
      go : (t : Bool) → leb side 1 ≡ t → ⊥
      go false p = let x : (refusal 1 0 0 0).detail ≡ 15 = rw p at z in never (cc)
      go true p = let x : (refusal n 0 0 0).detail ≡ 15 = rw (p, e) at z in never (cc)

pub never_repeated : NeverRepeated
never_repeated m side table buffer = no_repeat m side table buffer (lines m) refl

-- where P-Asserted-Identity is ignored none is kept
none_kept : (c : Option Column) → ignored c 15 ≡ true → (fs : List Field) → only 15 (kept c fs) ≡ []
unfolding only kept
none_kept c i [] = refl
none_kept c i (f ∷ fs) = go (ignored c (number_of f.name)) (eqb (number_of f.name) 15) refl refl (none_kept c i fs)
  where
    go : (t u : Bool) → ignored c (number_of f.name) ≡ t → eqb (number_of f.name) 15 ≡ u → only 15 (kept c fs) ≡ []
        → only 15 (kept c (f ∷ fs)) ≡ []
    go true u p q h = rw p h
    go false true p q h = let z : ignored c 15 ≡ false = rw (eqb-true (number_of f.name) 15 q) at p in never (cc)
    go false false p q h = rw (p, q) h

pub allowed_pass : AllowedPass
unfolding first_malformed
allowed_pass m l h e a =
    record { never_10_15 = λ side table buffer y z. (read_names m side table buffer l h e).ten (fine (ignored c 15) refl) y z }
  where
    c : Option Column
    c = message_column l h.fields

    method : List ℕ
    method = method_of l (kept_of l h.fields)

    fine : (t : Bool) → ignored c 15 ≡ t → first_malformed method [] (only 15 (kept_of l h.fields)) ≡ 0
    fine true i = rw (none_kept c i h.fields)
    fine false i = allowed_formed method c i h.fields a

pub ignored_pass : IgnoredPass
unfolding first_malformed
ignored_pass m l h e i =
    record {
      never_10_15 = λ side table buffer y z. (read_names m side table buffer l h e).ten (rw (none_kept (message_column l h.fields) i h.fields)) y z;
    }

-- the first P-Asserted-Identity up to which they are not allowed
module _ (method : List ℕ) (c : Option Column) (i : ignored c 15 ≡ false) (f : Field) (n : number_of f.name ≡ 15) (gs : List Field) where
  here_named : (earlier : List Bool) → (first_malformed method earlier (kept c (f ∷ [])) ≡ 0 → ⊥)
      → first_malformed method earlier (kept c (f ∷ gs)) ≡ 15
  unfolding first_malformed kept
  here_named earlier k =
      rw (n, i) (go (well_formed method 15 v) (allowed (earlier ++ brought (record { number = 15; value = v }))) (rw (n, i) at k))
    where
      v : List ℕ
      v = canonical f.value

      go : (w a : Bool) → (◌≡◌ {A = ℕ} (cond (w && a) 0 15) 0 → ⊥)
          → cond (w && a) (first_malformed method (earlier ++ brought (record { number = 15; value = v })) (kept c gs)) 15 ≡ 15
      go true true q = absurd (q refl)
      go true false q = refl
      go false a q = refl

  first_named : (earlier : List Bool) (fs : List Field) → allowed earlier ≡ true → first_malformed method earlier (kept c fs) ≡ 0
      → (first_malformed method earlier (kept c (fs ++ f ∷ [])) ≡ 0 → ⊥) → first_malformed method earlier (kept c (fs ++ f ∷ gs)) ≡ 15
  unfolding first_malformed kept
  first_named earlier [] a h k = here_named earlier k
  first_named earlier (g ∷ fs) a h k = go (ignored c (number_of g.name)) refl (λ e. first_named e fs)
    where
      d : Entry
      d = record { number = number_of g.name; value = canonical g.value }

      go : (t : Bool) → ignored c (number_of g.name) ≡ t
          → ((e : List Bool) → allowed e ≡ true → first_malformed method e (kept c fs) ≡ 0 → (first_malformed method e (kept c (fs ++ f ∷ [])) ≡ 0 → ⊥)
          → first_malformed method e (kept c (fs ++ f ∷ gs)) ≡ 15)
          → first_malformed method earlier (kept c (g ∷ (fs ++ f ∷ gs))) ≡ 15
      go true p ih = rw p (ih earlier a (rw p at h) (rw p at k))
      go false p ih =
          let x = first_formed method earlier d (kept c fs) a (rw p at h) in
          rw (p, x.is_formed, x.is_allowed) (ih (earlier ++ brought d) x.is_allowed x.others (rw (p, x.is_formed, x.is_allowed) at k))

pub field_that_brings_it : FieldThatBringsIt
unfolding allowed
field_that_brings_it method c before after f i n h k =
    first_named method c i f n after [] before refl h
    (λ q. k (formed_allowed method c i (before ++ f ∷ []) (only_formed method [] (kept c (before ++ f ∷ [])) refl q)))
