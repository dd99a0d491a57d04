-- What holds of each entry of a list: the premises of the laws over lists, and what they hand on.
use mathlib.Core.Path.{◌≡◌, refl}
use mathlib.Core.Bool.{Bool, true, false, cond}
use mathlib.Core.List.{List, [], ◌∷◌, ◌++◌}
use mathlib.Core.Option.{Option, some}
use Prim.Native.Nat.{ℕ, zero, suc, ◌+◌, ◌≤◌, ◌<◌}
use native.Mathlib.Omega.{arith}
use lib.Dec.{eqb}
use borrow.Author.Tests.{eqb-true, eqb-false}
use Rattle.octets.specs.Classes.{bit}
use Rattle.sip.specs.declared.Column.{Column}
use Rattle.sip.specs.declared.Column.TheVariants.{Invite, Reinvite, Ack, Bye, Cancel, Options, InviteSuccess, CancelResponse, OtherResponse}
use Rattle.sip.specs.Profile.{rows, find, mark, ignored}
use Rattle.sip.specs.Values.{allowed}
use Rattle.sip.specs.Refusals.{Entry, value_of, well_formed, brought, first_malformed}
use Rattle.sip.proofs.Accepted.{first_formed}
use Rattle.sip.proofs.Once.{times}
use Rattle.sip.proofs.Tests.{never}
use Rattle.lines.specs.Index.{slot_at}
use Rattle.judgement.specs.Sets.{has, kept_set}
use Rattle.judgement.specs.Entries.{entry_at, entries_from}
use Rattle.judgement.proofs.Members.{kept_has}

abbrev pub Each : (Entry → Type 0) → List Entry → Type 0
Each P [] = Unit {0}
Each P (e ∷ es) = P e × Each P es

pub each : (P Q : Entry → Type 0) → ((e : Entry) → P e → Q e) → (es : List Entry) → Each P es → Each Q es
each P Q f [] h = tt
each P Q f (e ∷ es) h = (f e h.0, each P Q f es h.1)

-- no entry has the number 0, which stands for a name that is not listed
abbrev pub Listed : List Entry → Type 0
Listed es = Each (λ (e : Entry). 0 < e.number) es

pub entries_listed : (set : ℕ) → has set 0 ≡ false → (m ns : List ℕ) (k i : ℕ) → Listed (entries_from set m ns k i)
unfolding entries_from
entries_listed set z m ns zero i = tt
entries_listed set z m ns (suc k) i = go (slot_at ns i).number (has set (slot_at ns i).number) refl refl (entries_listed set z m ns k (suc i))
  where
    go : (n : ℕ) (t : Bool) → (slot_at ns i).number ≡ n → has set (slot_at ns i).number ≡ t → Listed (entries_from set m ns k (suc i))
        → Listed (cond t (entry_at m (slot_at ns i) ∷ entries_from set m ns k (suc i)) (entries_from set m ns k (suc i)))
    go zero true p q h = let y : has set 0 ≡ true = rw p at q in never (cc)
    go (suc n) true p q h = (omega arith, h)
    go n false p q h = h

pub kept_listed : (c : Column) → has (kept_set c) 0 ≡ false
unfolding ignored mark find rows
kept_listed Invite = kept_has Invite 0
kept_listed Reinvite = kept_has Reinvite 0
kept_listed Ack = kept_has Ack 0
kept_listed Bye = kept_has Bye 0
kept_listed Cancel = kept_has Cancel 0
kept_listed Options = kept_has Options 0
kept_listed InviteSuccess = kept_has InviteSuccess 0
kept_listed CancelResponse = kept_has CancelResponse 0
kept_listed OtherResponse = kept_has OtherResponse 0

abbrev pub WellFormed : List ℕ → Entry → Type 0
WellFormed method e = well_formed method e.number e.value ≡ true

pub is_well_formed : (method : List ℕ) (earlier : List Bool) (es : List Entry) → allowed earlier ≡ true → first_malformed method earlier es ≡ 0
    → Each (WellFormed method) es
is_well_formed method earlier [] a h = tt
is_well_formed method earlier (e ∷ es) a h =
    let f = first_formed method earlier e es a h in
    (f.is_formed, is_well_formed method (earlier ++ brought e) es f.is_allowed f.others)

-- the first value of a number is that of an entry
pub of_first : (P : Entry → Type 0) (k : ℕ) (es : List Entry) (v : List ℕ) → Each P es → value_of k es ≡ some v
    → P (record { number = k; value = v })
unfolding value_of
of_first P k [] v h q = never (cc)
of_first P k (e ∷ es) v h q = go (eqb e.number k) refl q (of_first P k es v h.1)
  where
    go : (t : Bool) → eqb e.number k ≡ t → cond t (some e.value) (value_of k es) ≡ some v
        → (value_of k es ≡ some v → P (record { number = k; value = v })) → P (record { number = k; value = v })
    go true p q f =
        let x : e.value ≡ v = cc in
        rw (← x, ← eqb-true e.number k p) h.0
    go false p q f = f q

abbrev Other : ℕ → Entry → Type 0
Other k e = e.number ≡ k → ⊥

none_of : (k : ℕ) (es : List Entry) → times k es ≡ 0 → Each (Other k) es
unfolding times
none_of k [] h = tt
none_of k (e ∷ es) h = go (eqb e.number k) refl h (none_of k es)
  where
    go : (t : Bool) → eqb e.number k ≡ t → bit t + times k es ≡ 0
        → (times k es ≡ 0 → Each (Other k) es) → Each (Other k) (e ∷ es)
    go true p q f = absurd (omega arith)
    go false p q f = (eqb-false e.number k p, f (omega arith))

-- the only value of number k is o
abbrev pub Only : ℕ → Option (List ℕ) → Entry → Type 0
Only k o e = e.number ≡ k → o ≡ some e.value

-- a number that stands once has one value
pub only : (k : ℕ) (es : List Entry) → times k es ≤ 1 → Each (Only k (value_of k es)) es
unfolding times value_of
only k [] h = tt
only k (e ∷ es) h = go (eqb e.number k) refl h (only k es)
  where
    go : (t : Bool) → eqb e.number k ≡ t → bit t + times k es ≤ 1 → (times k es ≤ 1 → Each (Only k (value_of k es)) es)
        → Each (Only k (cond t (some e.value) (value_of k es))) (e ∷ es)
    go true p q f = (λ x. refl, each (Other k) (Only k (some e.value)) (λ d n x. absurd (n x)) es (none_of k es (omega arith)))
    go false p q f = (λ x. absurd (eqb-false e.number k p x), f (omega arith))
