-- CR 6 of whole messages: which identities an accepted message has, field by field; what goes out of a withheld call; which identity calls.
use mathlib.Core.Path.{◌≡◌, refl, ◌∙◌}
use mathlib.Core.Bool.{Bool, true, false, cond}
use mathlib.Core.List.{List, [], ◌∷◌, ◌++◌, map, append-nil}
use mathlib.Core.Option.{Option}
use Prim.Native.Nat.{ℕ, suc}
use lib.Dec.{eqb}
use lib.ListN.{length}
use borrow.Author.Tests.{ne_eqb}
use Rattle.sip.specs.declared.Column.{Column}
use Rattle.sip.specs.declared.IdentityAt.{IdentityAt}
use Rattle.sip.specs.Lines.{Field, canonical}
use Rattle.sip.specs.Profile.{ignored, number_of}
use Rattle.sip.specs.Values.{identities, schemes, number_in, numbers_in, allowed}
use Rattle.sip.specs.Refusals.{Entry, kept, well_formed, brought, first_malformed, message_column, kept_of, judgement}
use Rattle.sip.specs.Output.{output, field_lines}
use Rattle.sip.specs.Screen.{decided, verdict}
use Rattle.sip.specs.Readings.{Asserted, asserted, sip_or, preferred, caller_in, number_or, calling_number}
use Rattle.sip.specs.Grammar.{UriParts, is_tel_uri, person_of}
use Rattle.sip.specs.Asserted.{Asserting, nothing_asserted, other_field, asserting_field, Calling, the_only_one}
use Rattle.sip.specs.Asserted.{sip_first, sip_second}
use Rattle.sip.specs.Promises.{only, without, OnlyAllowed, AllGo, SipCalls, IgnoredCalls}
use Rattle.sip.proofs.Tests.{never}
use Rattle.sip.proofs.Accepted.{method_of, judged_inv, first_formed}
use Rattle.sip.proofs.Allowed.{none_brought, formed_allowed}
use Rattle.sip.proofs.Firsts.{none_asserted}
use Rattle.sip.proofs.Grammar.Promises.{identities_found}

-- ---- an accepted message

-- where no field is malformed no P-Asserted-Identity is
pub only_formed : (method : List ℕ) (earlier : List Bool) (es : List Entry) → allowed earlier ≡ true → first_malformed method earlier es ≡ 0
    → first_malformed method earlier (only 15 es) ≡ 0
unfolding only first_malformed
only_formed method earlier [] a h = refl
only_formed method earlier (e ∷ es) a h =
    let f = first_formed method earlier e es a h in
    go (eqb e.number 15) refl f.is_formed f.is_allowed (only_formed method (earlier ++ brought e) es f.is_allowed f.others)
  where
    go : (t : Bool) → eqb e.number 15 ≡ t → well_formed method e.number e.value ≡ true → allowed (earlier ++ brought e) ≡ true
        → first_malformed method (earlier ++ brought e) (only 15 es) ≡ 0
        → first_malformed method earlier (cond t (e ∷ only 15 es) (only 15 es)) ≡ 0
    go true n w b later = rw (w, b) later
    go false n w b later = rw (none_brought e n, append-nil earlier) at later

pub only_allowed : OnlyAllowed
unfolding judgement allowed
only_allowed m l h r e a i =
    let es = kept_of l h.fields in
    let f = (judged_inv l es h.rest r (rw e at a)).formed in
    formed_allowed (method_of l es) (message_column l h.fields) i h.fields (only_formed (method_of l es) [] es refl f)

-- ---- what goes out of a withheld call

lines_without : (body : ℕ) (es : List Entry) → field_lines true body (without 15 es) ≡ field_lines true body es
unfolding field_lines without
lines_without body [] = refl
lines_without body (e ∷ es) = go (eqb e.number 15) refl (lines_without body es)
  where
    go : (t : Bool) → eqb e.number 15 ≡ t → field_lines true body (without 15 es) ≡ field_lines true body es
        → field_lines true body (cond t (without 15 es) (e ∷ without 15 es)) ≡ field_lines true body (e ∷ es)
    go true p h = rw (field_lines, p) h
    go false p h = rw (field_lines, p, h)

pub all_go : AllGo
unfolding verdict decided output
all_go m r table a w = rw (a, decided, w, lines_without (length r.body) r.fields)

-- ---- which identity calls

-- an identity that is found is one that the grammar derives: of the same scheme, with the same number
record Agrees (a : Asserted) (u : UriParts) : Type 0 where
  scheme_is : a.identity.tel ≡ is_tel_uri u
  number_is : number_in a.value a.identity ≡ person_of u

data AllAgree : List Asserted → List UriParts → Type 0 where
  none_agree : AllAgree [] []
  also_agree : {a : Asserted} {u : UriParts} {others : List Asserted} {us : List UriParts} → Agrees a u → AllAgree others us
      → AllAgree (a ∷ others) (u ∷ us)

-- those of one field, and those after it
field_agrees : (k : ℕ) (v : List ℕ) (is : List IdentityAt) (ws : List UriParts) → map (λ (i : IdentityAt). i.tel) is ≡ map is_tel_uri ws
    → map (number_in v) is ≡ map person_of ws → {others : List Asserted} {us : List UriParts} → AllAgree others us
    → AllAgree (map (λ (i : IdentityAt). record { field = k; value = v; identity = i }) is ++ others) (ws ++ us)
field_agrees k v [] [] s n h = h
field_agrees k v [] (w ∷ ws) s n h = never (cc)
field_agrees k v (i ∷ is) [] s n h = never (cc)
field_agrees k v (i ∷ is) (w ∷ ws) s n h =
    let a : Asserted = record { field = k; value = v; identity = i } in
    let here : Agrees a w = record { scheme_is = cc; number_is = cc } in
    let schemes_left : map (λ (j : IdentityAt). j.tel) is ≡ map is_tel_uri ws = cc in
    let numbers_left : map (number_in v) is ≡ map person_of ws = cc in
    also_agree here (field_agrees k v is ws schemes_left numbers_left h)

schemes_of : (v : List ℕ) → map (λ (j : IdentityAt). j.tel) (identities v) ≡ schemes v
unfolding schemes
schemes_of v = refl

numbers_of : (v : List ℕ) → map (number_in v) (identities v) ≡ numbers_in v
unfolding numbers_in
numbers_of v = refl

message_agrees : (c : Option Column) → ignored c 15 ≡ false → (k : ℕ) {fs : List Field} {us : List UriParts} → Asserting fs us
    → AllAgree (asserted k (kept c fs)) us
unfolding asserted kept
message_agrees c i k nothing_asserted = none_agree
message_agrees c i k (other_field {f = f} {fs = fs} {us = us} n others) = go (ignored c (number_of f.name)) (message_agrees c i k others)
  where
    go : (t : Bool) → AllAgree (asserted k (kept c fs)) us
        → AllAgree (asserted k (cond t (kept c fs) (record { number = number_of f.name; value = canonical f.value } ∷ kept c fs))) us
    go true h = h
    go false h = rw (ne_eqb (number_of f.name) 15 n) h
message_agrees c i k (asserting_field {f = f} {fs = fs} {ws = ws} {us = us} n d others) =
    let v = canonical f.value in
    let found = identities_found v ws d in
    rw (n, i) (field_agrees (suc k) v (identities v) ws (schemes_of v ∙ found.schemes_are) (numbers_of v ∙ found.numbers_are)
    (message_agrees c i (suc k) others))

-- the number that is taken is that of the one that calls
number_taken : {all : List Asserted} {us : List UriParts} → AllAgree all us → (u : UriParts) → Calling us u → (trunk : List ℕ)
    → number_or trunk (preferred all) ≡ person_of u
unfolding sip_or
number_taken none_agree u x4 trunk = elim x4 [ ]
number_taken (also_agree {a = a} h none_agree) u (the_only_one _) trunk = go a.identity.tel
  where
    go : (t : Bool) → number_in (cond t a a).value (cond t a a).identity ≡ person_of u
    go true = h.number_is
    go false = h.number_is
number_taken (also_agree h (also_agree g none_agree)) u (sip_first _ _ _ _ _ _) trunk = rw h.scheme_is h.number_is
number_taken (also_agree h (also_agree g none_agree)) u (sip_second _ _ _ _ _ _) trunk = rw (h.scheme_is, g.scheme_is) g.number_is
number_taken (also_agree {a = a} h (also_agree g (also_agree {u = u3} {others = others} {us = us} _ _))) u x23 trunk = elim x23 [ ]

none_taken : {all : List Asserted} {us : List UriParts} → AllAgree all us → us ≡ [] → (trunk : List ℕ) → number_or trunk (preferred all) ≡ trunk
none_taken none_agree z trunk = refl
none_taken (also_agree h g) z trunk = never (cc)

pub sip_calls : SipCalls
unfolding judgement calling_number caller_in
sip_calls m trunk l h r us e a i g said =
    let es = kept_of l h.fields in
    let made = (judged_inv l es h.rest r (rw e at a)).made in
    let agree = message_agrees (message_column l h.fields) i 0 said in
    record {
      from_identity = λ u c. rw (g, a, made) (number_taken agree u c trunk);
      from_trunk = λ z. rw (g, a, made) (none_taken agree z trunk);
    }

pub ignored_calls : IgnoredCalls
unfolding judgement calling_number caller_in
ignored_calls m trunk l h r e a i g =
    let es = kept_of l h.fields in
    rw (g, a, (judged_inv l es h.rest r (rw e at a)).made, none_asserted (message_column l h.fields) i 0 h.fields) refl
