-- A message that is accepted has a Call-ID and a From, since no mandatory field is missing and every value is well formed; From's tag is a
-- token of 1 to 64 bytes by its derivation. So it has a well-formed pair.
use mathlib.Core.Path.{◌≡◌, refl}
use mathlib.Core.Bool.{Bool, true, false, not, ◌&&◌}
use mathlib.Core.List.{List, [], ◌∷◌, ◌++◌}
use mathlib.Core.Option.{none, some}
use Prim.Native.Nat.{ℕ}
use lib.Dec.{eqb}
use borrow.Author.Tests.{eqb-true}
use Rattle.octets.specs.Classes.{among}
use Rattle.sip.specs.declared.Column.{Column}
use Rattle.sip.specs.declared.Column.TheVariants.{Invite, Reinvite, Ack, Bye, Cancel, Options, InviteSuccess, CancelResponse, OtherResponse}
use Rattle.sip.specs.Profile.{rows, find, mark, mandatory, numbers}
use Rattle.sip.specs.Values.{is_empty, is_call_id, is_from, tag_of, allowed}
use Rattle.sip.specs.Refusals.{Answer, when, Lines, unread, read, lines, Entry, value_of, occurs, body_of, well_formed, brought, first_malformed}
use Rattle.sip.specs.Refusals.{missing_of, reason12, Passed, accepted, kept_of, judgement}
use Rattle.sip.specs.Grammar.{UriParts, Token, Long, Params, no_params, param_and, name_alone, name_value, tag_value, Party, party_of}
use Rattle.sip.specs.Calls.{is_tag_value, is_pair}
use Rattle.sip.specs.Screen.{call_of}
use Rattle.sip.specs.CallPromises.{AcceptedPair}
use Rattle.sip.proofs.Tests.{never, and_left}
use Rattle.sip.proofs.Accepted.{method_of, Accepted, not_both, judged_inv, first_formed}
use Rattle.sip.proofs.Grammar.Bytes.{all_of, within_long}
use Rattle.sip.proofs.Grammar.Parties.{from_sound}

-- ---- what is mandatory and not missing is there

-- a mandatory number that is not missing occurs
pub none_missing : (c : Column) (empty : Bool) (es : List Entry) (n : ℕ) → mandatory c empty n ≡ true → (ns : List ℕ)
    → is_empty (missing_of c empty es ns) ≡ true → among ns n ≡ true → occurs n es ≡ true
unfolding missing_of is_empty
none_missing c empty es n d [] e i = never (cc)
none_missing c empty es n d (k ∷ ks) e i = go (eqb n k) (mandatory c empty k) (occurs k es) refl refl refl (none_missing c empty es n d ks)
  where
    go : (t u v : Bool) → eqb n k ≡ t → mandatory c empty k ≡ u → occurs k es ≡ v
        → (is_empty (missing_of c empty es ks) ≡ true → among ks n ≡ true → occurs n es ≡ true) → occurs n es ≡ true
    go true true true p q r later = rw (eqb-true n k p) r
    go true true false p q r later = let z : false ≡ true = rw (q, r) at e in never (cc)
    go true false v p q r later = let z : mandatory c empty k ≡ true = rw (← eqb-true n k p) d in never (cc)
    go false true true p q r later = later (rw (q, r) at e) (rw p at i)
    go false true false p q r later = let z : false ≡ true = rw (q, r) at e in never (cc)
    go false false v p q r later = later (rw q at e) (rw p at i)

pub complete_occurs : (c : Column) (es : List Entry) (rest : List ℕ) → reason12 c es rest ≡ none → (n : ℕ)
    → mandatory c (is_empty (body_of es rest)) n ≡ true → among numbers n ≡ true → occurs n es ≡ true
unfolding reason12
complete_occurs c es rest e n d i =
    let empty : Bool = is_empty (body_of es rest) in
    none_missing c empty es n d numbers (none_empty (is_empty (missing_of c empty es numbers)) _ e) i
  where
    none_empty : (t : Bool) (x : Answer) → when (not t) x ≡ none → t ≡ true
    none_empty true x e = refl
    none_empty false x e = never (cc)

-- a kept field of that number: its first value
pub record There (method : List ℕ) (n : ℕ) (es : List Entry) : Type 0 where
  pub value : List ℕ
  pub is_there : value_of n es ≡ some value
  pub is_formed : well_formed method n value ≡ true

occurs_there : (method : List ℕ) (n : ℕ) (earlier : List Bool) (es : List Entry) → allowed earlier ≡ true → first_malformed method earlier es ≡ 0
    → occurs n es ≡ true → There method n es
unfolding value_of occurs
occurs_there method n earlier [] a h e = never (cc)
occurs_there method n earlier (d ∷ es) a h e =
    let f = first_formed method earlier d es a h in
    go (eqb d.number n) refl f.is_formed (occurs_there method n (earlier ++ brought d) es f.is_allowed f.others)
  where
    go : (t : Bool) → eqb d.number n ≡ t → well_formed method d.number d.value ≡ true → (occurs n es ≡ true → There method n es)
        → There method n (d ∷ es)
    go true p w later = record { value = d.value; is_there = rw p; is_formed = rw (eqb-true d.number n p) at w }
    go false p w later =
        let k = later (rw p at e) in
        record { value = k.value; is_there = rw p k.is_there; is_formed = k.is_formed }

-- ---- the tag

formed_tags : List (List ℕ) → Bool
formed_tags [] = true
formed_tags (t ∷ ts) = is_tag_value t && formed_tags ts

tag_formed : {t : List ℕ} → Token t → Long 1 64 t → is_tag_value t ≡ true
unfolding is_tag_value
tag_formed k l = rw (within_long l, all_of k.bytes)

params_tags : {s : List ℕ} {ts : List (List ℕ)} → Params s ts → formed_tags ts ≡ true
unfolding formed_tags
params_tags no_params = refl
params_tags (param_and (name_alone c n) ps) = params_tags ps
params_tags (param_and (name_value c n e v) ps) = params_tags ps
params_tags (param_and (tag_value c n e t l) ps) = rw (tag_formed t l) (params_tags ps)

party_tag : {v t : List ℕ} {u : UriParts} → Party v u (t ∷ []) → is_tag_value t ≡ true
unfolding formed_tags
party_tag {t = t} (party_of a ps l) = and_left (is_tag_value t) true (params_tags ps)

pub from_tag : (v : List ℕ) → is_from v ≡ true → is_tag_value (tag_of v) ≡ true
from_tag v e = let (u, d) = from_sound v e in party_tag d

-- ---- From and Call-ID

always : (c : Column) (empty : Bool) → (mandatory c empty 3 ≡ true) × (mandatory c empty 5 ≡ true)
unfolding mandatory mark find rows
always Invite empty = (refl, refl)
always Reinvite empty = (refl, refl)
always Ack empty = (refl, refl)
always Bye empty = (refl, refl)
always Cancel empty = (refl, refl)
always Options empty = (refl, refl)
always InviteSuccess empty = (refl, refl)
always CancelResponse empty = (refl, refl)
always OtherResponse empty = (refl, refl)

-- the values from which a message has its pair
pub record CallThere (es : List Entry) : Type 0 where
  pub call_id : List ℕ
  pub from : List ℕ
  pub id_there : value_of 5 es ≡ some call_id
  pub from_there : value_of 3 es ≡ some from
  pub id_formed : is_call_id call_id ≡ true
  pub from_formed : is_from from ≡ true
  pub id_occurs : occurs 5 es ≡ true
  pub from_occurs : occurs 3 es ≡ true

pub accepted_there : (m : List ℕ) (r : Passed) → judgement m ≡ accepted r → CallThere r.fields
unfolding judgement well_formed numbers rows allowed
accepted_there m r e = go (lines m) refl
  where
    go : (x : Lines) → lines m ≡ x → CallThere r.fields
    go (unread n) q = not_both (rw q at e)
    go (read l h) q =
        let es : List Entry = kept_of l h.fields in
        let a : Accepted l es h.rest r = judged_inv l es h.rest r (rw q at e) in
        let occurring = complete_occurs a.column es h.rest a.complete in
        let m3 : occurs 3 es ≡ true = occurring 3 (always a.column _).0 refl in
        let m5 : occurs 5 es ≡ true = occurring 5 (always a.column _).1 refl in
        let t3 = occurs_there (method_of l es) 3 [] es refl a.formed m3 in
        let t5 = occurs_there (method_of l es) 5 [] es refl a.formed m5 in
        rw a.made
        (record {
          call_id = t5.value;
          from = t3.value;
          id_there = t5.is_there;
          from_there = t3.is_there;
          id_formed = t5.is_formed;
          from_formed = t3.is_formed;
          id_occurs = m5;
          from_occurs = m3;
        })

pub accepted_pair : (m : List ℕ) (r : Passed) → judgement m ≡ accepted r → is_pair (call_of r.fields) ≡ true
unfolding call_of is_pair
accepted_pair m r e =
    let c = accepted_there m r e in
    rw (c.id_there, c.from_there, c.id_formed) (from_tag c.from c.from_formed)

pub pair_of : AcceptedPair
unfolding call_of
pair_of m r e =
    let c = accepted_there m r e in
    let (u, d) = from_sound c.from c.from_formed in
    record {
      is_well_formed = accepted_pair m r e;
      held_call_id = rw c.id_there;
      from = c.from;
      from_value = c.from_there;
      uri = u;
      from_tag = rw c.from_there d;
    }
