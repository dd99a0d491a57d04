-- An accepted message is an initial INVITE exactly where it keeps P-Asserted-Identity and its To has no tag; it then has a calling number.
use mathlib.Core.Path.{◌≡◌, refl, sym, ap, ◌∙◌}
use mathlib.Core.Bool.{Bool, true, false, not, ◌&&◌}
use mathlib.Core.List.{List, [], ◌∷◌, ◌++◌, map}
use mathlib.Core.Option.{Option, none, some}
use Prim.Native.Nat.{ℕ, suc}
use native.Mathlib.Omega.{arith}
use lib.Dec.{eqb}
use borrow.Author.Tests.{eqb-true}
use Rattle.octets.specs.Classes.{text, among}
use Rattle.octets.specs.Scans.{starts, same}
use Rattle.sip.specs.declared.Column.{Column}
use Rattle.sip.specs.declared.Column.TheVariants.{Invite, Reinvite, Ack, Bye, Cancel, Options, InviteSuccess, CancelResponse, OtherResponse}
use Rattle.sip.specs.declared.IdentityAt.{IdentityAt}
use Rattle.sip.specs.declared.Span.{Span}
use Rattle.sip.specs.Lines.{Start, request, response, Header, folded}
use Rattle.sip.specs.Profile.{rows, find, mark, column_of, ignored, mandatory, numbers}
use Rattle.sip.specs.Values.{is_empty, identities, schemes, allowed, is_asserted, is_tagged, is_global}
use Rattle.sip.specs.Refusals.{Answer, read, lines, Entry, when, value_of, occurs, to_tagged, body_of, well_formed, brought, first_malformed, missing_of}
use Rattle.sip.specs.Refusals.{reason12, is_initial}
use Rattle.sip.specs.Refusals.{Passed, accepted, message_column, kept_of, judgement}
use Rattle.sip.specs.Readings.{part, spans, place, reading_at, Asserted, asserted, sip_or, preferred, caller_in, number_or, calling_number}
use Rattle.sip.proofs.Tests.{never}
use Rattle.sip.proofs.Accepted.{Accepted, method_of, judged_inv, first_formed}
use Rattle.sip.proofs.Responses.{all_ignore}
use Rattle.sip.proofs.Firsts.{read_first, value_read}
use Rattle.sip.proofs.Calling.{caller_placed}
use Rattle.sip.proofs.Starred.{computed}
use Rattle.isup.specs.Forward.{is_initial_column, is_initial_invite, calling_of}

-- ---- the column of a request

initial_column : (method : List ℕ) (tagged : Bool) (c : Column) → column_of method tagged ≡ some c
    → is_initial c ≡ (not (ignored (column_of method false) 15) && not tagged)
unfolding column_of ignored mark find rows
initial_column method tagged c e =
    go tagged (same (text "INVITE") method) (same (text "ACK") method) (same (text "BYE") method) (same (text "CANCEL") method)
    (same (text "OPTIONS") method) refl refl refl refl refl e
  where
    is : (t : Bool) (d : Column) → is_initial d ≡ t → ◌≡◌ {A = Option Column} (some d) (some c) → is_initial c ≡ t
    is t d h e = let k : d ≡ c = cc in rw (← k) h

    go : (t i k b x o : Bool) → same (text "INVITE") method ≡ i → same (text "ACK") method ≡ k → same (text "BYE") method ≡ b
        → same (text "CANCEL") method ≡ x → same (text "OPTIONS") method ≡ o → column_of method t ≡ some c
        → is_initial c ≡ (not (ignored (column_of method false) 15) && not t)
    go true true k b x o pi pk pb px po e = rw pi (is false Reinvite refl (rw pi at e))
    go false true k b x o pi pk pb px po e = rw pi (is true Invite refl (rw pi at e))
    go t false true b x o pi pk pb px po e = rw (pi, pk) (is false Ack refl (rw (pi, pk) at e))
    go t false false true x o pi pk pb px po e = rw (pi, pk, pb) (is false Bye refl (rw (pi, pk, pb) at e))
    go t false false false true o pi pk pb px po e = rw (pi, pk, pb, px) (is false Cancel refl (rw (pi, pk, pb, px) at e))
    go t false false false false true pi pk pb px po e = rw (pi, pk, pb, px, po) (is false Options refl (rw (pi, pk, pb, px, po) at e))
    go t false false false false false pi pk pb px po e = let z : ◌≡◌ {A = Option Column} none (some c) = rw (pi, pk, pb, px, po) at e in never (cc)

responses_ignore : (ignored (some InviteSuccess) 15 ≡ true) × (ignored (some CancelResponse) 15 ≡ true) × (ignored (some OtherResponse) 15 ≡ true)
unfolding ignored mark find rows
responses_ignore = (refl, refl, refl)

-- ---- an accepted message

module _ (m : List ℕ) (l : Start) (h : Header) (r : Passed) (e : lines m ≡ read l h) (a : judgement m ≡ accepted r) where
  abbrev es : List Entry
  es = kept_of l h.fields

  inverted : Accepted l es h.rest r
  unfolding judgement
  inverted = judged_inv l es h.rest r (rw e at a)

  fields_are : r.fields ≡ kept_of l h.fields
  fields_are = rw inverted.made

-- it is an initial INVITE
pub initial_is : (m : List ℕ) (l : Start) (h : Header) (r : Passed) → lines m ≡ read l h → judgement m ≡ accepted r
    → is_initial_invite r ≡ (not (ignored (message_column l h.fields) 15) && not (to_tagged r.fields))
unfolding is_initial_invite
initial_is m (request l) h r e a =
    let i = inverted m (request l) h r e a in
    let es : List Entry = kept_of (request l) h.fields in
    ap is_initial_invite i.made ∙ ap is_initial_column i.has_column ∙ initial_column l.method (to_tagged es) i.column i.has_column
    ∙ ap (λ (fs : List Entry). not (ignored (column_of l.method false) 15) && not (to_tagged fs)) (sym (fields_are m (request l) h r e a))
initial_is m (response l) h r e a =
    let ignores = all_ignore m l h e 15 responses_ignore.0 responses_ignore.1 responses_ignore.2 r a in
    rw ((inverted m (response l) h r e a).made, ignores)

-- ---- its To

to_kept : (c : Option Column) → ignored c 4 ≡ false
unfolding ignored mark find rows
to_kept none = refl
to_kept (some Invite) = refl
to_kept (some Reinvite) = refl
to_kept (some Ack) = refl
to_kept (some Bye) = refl
to_kept (some Cancel) = refl
to_kept (some Options) = refl
to_kept (some InviteSuccess) = refl
to_kept (some CancelResponse) = refl
to_kept (some OtherResponse) = refl

empty_untagged : is_tagged (folded 0 []) ≡ false
unfolding computed
empty_untagged = refl

-- it has a tag exactly where what is read first of To has one
pub tagged_is : (m : List ℕ) (l : Start) (h : Header) (r : Passed) → lines m ≡ read l h → judgement m ≡ accepted r
    → to_tagged r.fields ≡ is_tagged (folded 0 (part (reading_at m 4 1) m))
unfolding to_tagged reading_at place
tagged_is m l h r e a = rw (fields_are m l h r e a) (go (spans m 4) refl (value_read m l h e 4 (λ z. omega arith) c (to_kept c)))
  where
    c : Option Column
    c = message_column l h.fields

    go : (ps : List Span) → spans m 4 ≡ ps → value_of 4 (kept_of l h.fields) ≡ read_first m (spans m 4)
        → to_tagged (kept_of l h.fields) ≡ is_tagged (folded 0 (part (place 1 (spans m 4)) m))
    go [] q v = let n : value_of 4 (kept_of l h.fields) ≡ none = v ∙ ap (read_first m) q in rw (n, q) (sym empty_untagged)
    go (p ∷ ps) q v = let n : value_of 4 (kept_of l h.fields) ≡ some (folded 0 (part p m)) = v ∙ ap (read_first m) q in rw (n, q)

-- ---- its identity

-- a mandatory number that is not missing occurs
none_missing : (c : Column) (empty : Bool) (es : List Entry) (ns : List ℕ) → is_empty (missing_of c empty es ns) ≡ true → (n : ℕ)
    → among ns n ≡ true → mandatory c empty n ≡ true → occurs n es ≡ true
unfolding missing_of is_empty
none_missing c empty es [] e n i d = never (cc)
none_missing c empty es (k ∷ ks) e n i d = go (eqb n k) (mandatory c empty k) (occurs k es) refl refl refl (none_missing c empty es ks)
  where
    go : (t u v : Bool) → eqb n k ≡ t → mandatory c empty k ≡ u → occurs k es ≡ v
        → (is_empty (missing_of c empty es ks) ≡ true → (n : ℕ) → among ks n ≡ true → mandatory c empty n ≡ true → occurs n es ≡ true)
        → occurs n es ≡ true
    go true true true pt pu pv later = rw (eqb-true n k pt) pv
    go true true false pt pu pv later = let z : false ≡ true = rw (pu, pv) at e in never (cc)
    go true false v pt pu pv later = let z : mandatory c empty k ≡ true = rw (← eqb-true n k pt) d in never (cc)
    go false true true pt pu pv later = later (rw (pu, pv) at e) n (rw pt at i) d
    go false true false pt pu pv later = let z : false ≡ true = rw (pu, pv) at e in never (cc)
    go false false v pt pu pv later = later (rw pu at e) n (rw pt at i) d

complete_occurs : (es : List Entry) (rest : List ℕ) → reason12 Invite es rest ≡ none → occurs 15 es ≡ true
unfolding reason12 numbers mandatory mark find rows
complete_occurs es rest e =
    let empty : Bool = is_empty (body_of es rest) in
    none_missing Invite empty es numbers (none_empty (is_empty (missing_of Invite empty es numbers)) _ e) 15 refl refl
  where
    none_empty : (t : Bool) (x : Answer) → when (not t) x ≡ none → t ≡ true
    none_empty true x e = refl
    none_empty false x e = never (cc)

-- a well-formed P-Asserted-Identity has an identity
some_identity : (v : List ℕ) → is_asserted v ≡ true → identities v ≡ [] → ⊥
unfolding is_asserted schemes
some_identity v e z = let y : false ≡ true = rw z at e in never (cc)

formed_asserted : (method v : List ℕ) → well_formed method 15 v ≡ true → is_asserted v ≡ true
unfolding well_formed
formed_asserted method v e = e

asserted_some : (method : List ℕ) (earlier : List Bool) (k : ℕ) (es : List Entry) → allowed earlier ≡ true → first_malformed method earlier es ≡ 0
    → occurs 15 es ≡ true → asserted k es ≡ [] → ⊥
unfolding occurs asserted
asserted_some method earlier k [] l f o z = never (cc)
asserted_some method earlier k (e ∷ es) l f o z =
    let ff = first_formed method earlier e es l f in
    go (eqb e.number 15) refl (asserted_some method (earlier ++ brought e) k es ff.is_allowed ff.others)
    ff.is_formed
  where
    go : (t : Bool) → eqb e.number 15 ≡ t → (occurs 15 es ≡ true → asserted k es ≡ [] → ⊥) → well_formed method e.number e.value ≡ true → ⊥
    go true p later w =
        let n : is_asserted e.value ≡ true = formed_asserted method e.value (rw (eqb-true e.number 15 p) at w) in
        filled (identities e.value) refl (some_identity e.value n) (rw p at z)
      where
        with_others : List IdentityAt → List Asserted
        with_others is = map (λ (i : IdentityAt). record { field = suc k; value = e.value; identity = i }) is ++ asserted (suc k) es

        filled : (is : List IdentityAt) → identities e.value ≡ is → (identities e.value ≡ [] → ⊥) → with_others (identities e.value) ≡ [] → ⊥
        filled [] q n z = n q
        filled (i ∷ is) q n z = let y : with_others (i ∷ is) ≡ [] = rw q at z in never (cc)
    go false p later w = later (rw p at o) (rw p at z)

only_invite : (c : Column) → is_initial c ≡ true → c ≡ Invite
only_invite Invite e = refl
only_invite Reinvite e = never (cc)
only_invite Ack e = never (cc)
only_invite Bye e = never (cc)
only_invite Cancel e = never (cc)
only_invite Options e = never (cc)
only_invite InviteSuccess e = never (cc)
only_invite CancelResponse e = never (cc)
only_invite OtherResponse e = never (cc)

-- an initial INVITE has the INVITE column
initial_invite : (m : List ℕ) (l : Start) (h : Header) (r : Passed) (e : lines m ≡ read l h) (a : judgement m ≡ accepted r) → is_initial_invite r ≡ true
    → (inverted m l h r e a).column ≡ Invite
unfolding is_initial_invite
initial_invite m (request l) h r e a i =
    let v = inverted m (request l) h r e a in
    only_invite v.column (sym (ap is_initial_invite v.made ∙ ap is_initial_column v.has_column) ∙ i)
initial_invite m (response l) h r e a i =
    let z : false ≡ true = rw (inverted m (response l) h r e a).made at i in
    never (cc)

-- so its calling number is a number of the profile, and that of any good trunk number
pub calling_is : (m : List ℕ) (l : Start) (h : Header) (r : Passed) → lines m ≡ read l h → judgement m ≡ accepted r → is_initial_invite r ≡ true
    → is_global (calling_of r) ≡ true
unfolding calling_of caller_in allowed
calling_is m l h r e a i = go (asserted 0 r.fields) refl
  where
    go : (all : List Asserted) → asserted 0 r.fields ≡ all → is_global (number_or [] (preferred (asserted 0 r.fields))) ≡ true
    go [] q =
        let v = inverted m l h r e a in
        let c : reason12 Invite (kept_of l h.fields) h.rest ≡ none = rw (initial_invite m l h r e a i) at v.complete in
        absurd
        (asserted_some (method_of l (kept_of l h.fields)) [] 0 (kept_of l h.fields) refl v.formed
        (complete_occurs (kept_of l h.fields) h.rest c) (rw (fields_are m l h r e a) at q))
    go (b ∷ bs) q = rw q (caller_placed m r a (sip_or b (b ∷ bs)) (rw q)).stands.global

empty_number : is_global [] ≡ false
unfolding is_global starts
empty_number = refl

pub calling_any : (m : List ℕ) (r : Passed) → judgement m ≡ accepted r → is_global (calling_of r) ≡ true → (trunk : List ℕ) → is_global trunk ≡ true
    → calling_number m trunk ≡ calling_of r
unfolding calling_number calling_of
calling_any m r a g trunk t = rw (t, a) (go (caller_in r.fields) refl)
  where
    go : (o : Option Asserted) → caller_in r.fields ≡ o → number_or trunk (caller_in r.fields) ≡ number_or [] (caller_in r.fields)
    go none q = let z : is_global [] ≡ true = rw q at g in never (cc empty_number)
    go (some b) q = rw q
