-- Who is masked: a column that is not INVITE's ignores Privacy, and both of INVITE's ignore the same, row by row of the table.
use mathlib.Core.Path.{◌≡◌, refl, sym}
use mathlib.Core.Bool.{Bool, true, false, cond, ◌&&◌, and-false, or-true}
use mathlib.Core.List.{List, [], ◌∷◌, map}
use mathlib.Core.Option.{Option, none, some}
use Prim.Native.Nat.{ℕ}
use lib.Dec.{eqb}
use Rattle.octets.specs.Classes.{text}
use Rattle.octets.specs.Scans.{same}
use Rattle.sip.specs.declared.Column.{Column}
use Rattle.sip.specs.declared.Column.TheVariants.{Invite, Reinvite, Ack, Bye, Cancel, Options}
use Rattle.sip.specs.Lines.{RequestLine, Start, request, response, Header}
use Rattle.sip.specs.Profile.{Mark, I, Row, is_ignored, mark_in, column_of, ignored, mark, find, rows}
use Rattle.sip.specs.Refusals.{lines, read, Entry, value_of, withheld, kept_of, to_tagged, Passed, passed, accepted, judgement, judged_request}
use Rattle.sip.specs.Screen.{call_of, is_request, is_method, hides, closes, masks, overfills, calls_after, sends, decided, verdict, screened}
use Rattle.sip.specs.Output.{output}
use Rattle.sip.specs.Calls.{is_held, removed}
use Rattle.sip.specs.Promises.{OnlyInvites, OnlyWithheldMasked, RememberedMasked, SameIgnored}
use Rattle.sip.proofs.Tests.{never, cond_same}
use Rattle.sip.proofs.Texts.{same_eq}
use Rattle.sip.proofs.Accepted.{not_both, judged_inv}
use Rattle.sip.proofs.Firsts.{ignored_none}

-- ---- where the caller is not withheld, and it is a response or its pair is not remembered

module _ (r : Passed) (w : withheld r.fields ≡ false) (table : List ℕ)
    (h : (is_request r.line && is_held (call_of r.fields) table) ≡ false) (side : ℕ) where
  -- no pair is entered
  pub not_hidden : hides side r ≡ false
  unfolding hides
  not_hidden = rw (w, and-false (is_method (text "INVITE") r.line), and-false (eqb side 1))

  -- and none removed
  stays : calls_after side table r ≡ table
  unfolding calls_after closes removed
  stays = rw not_hidden (go r.line h)
    where
      go : (l : Start) → (is_request l && is_held (call_of r.fields) table) ≡ false
          → cond (eqb side 1 && is_method (text "BYE") l) (removed (call_of r.fields) table) table ≡ table
      go (request l) k = rw k (cond_same (eqb side 1 && same (text "BYE") l.method) table)
      go (response l) k = rw (and-false (eqb side 1))

  pub goes_unmasked : decided side table r ≡ sends r.line (output false r) table
  unfolding decided overfills masks
  goes_unmasked = rw (not_hidden, stays, w, h, and-false (eqb side 1))

pub only_withheld_masked : OnlyWithheldMasked
unfolding screened verdict
only_withheld_masked m r a w table buffer h =
    let k : (is_request r.line && is_held (call_of r.fields) table) ≡ false = rw (h, and-false (is_request r.line)) in
    rw (a, goes_unmasked r w table k 1, goes_unmasked r w table k 0)

-- ---- where the pair is remembered

pub remembered_masked : RememberedMasked
unfolding verdict decided overfills masks
remembered_masked m l r table a k h = rw (a, h, and-false (hides 1 r), k, or-true (withheld r.fields))

-- ---- only INVITE

module _ (m : List ℕ) (l : RequestLine) (h : Header) (r : Passed) (e : lines m ≡ read (request l) h) (a : judgement m ≡ accepted r)
    (w : withheld r.fields ≡ true) where
  abbrev es : List Entry
  es = kept_of (request l) h.fields

  made : r ≡ passed (request l) es h.rest
  unfolding judgement
  made = (judged_inv (request l) es h.rest r (rw e at a)).made

  -- where Privacy is ignored none is kept
  not_withheld : (c : Column) → column_of l.method false ≡ some c → ignored (some c) 16 ≡ true → l.method ≡ text "INVITE"
  unfolding withheld
  not_withheld c p i =
      let n : value_of 16 es ≡ none = ignored_none (column_of l.method false) 16 (rw p i) h.fields in
      let z : false ≡ true = rw (made, n) at w in
      never (cc)

  of_invite : l.method ≡ text "INVITE"
  unfolding judgement judged_request column_of ignored mark find rows
  of_invite =
      go (same (text "INVITE") l.method) (same (text "ACK") l.method) (same (text "BYE") l.method) (same (text "CANCEL") l.method)
      (same (text "OPTIONS") l.method) refl refl refl refl refl
    where
      go : (i k b c o : Bool) → same (text "INVITE") l.method ≡ i → same (text "ACK") l.method ≡ k → same (text "BYE") l.method ≡ b
          → same (text "CANCEL") l.method ≡ c → same (text "OPTIONS") l.method ≡ o → l.method ≡ text "INVITE"
      go true k b c o pi pk pb pc po = sym (same_eq (text "INVITE") l.method pi)
      go false true b c o pi pk pb pc po = not_withheld Ack (rw (pi, pk) refl) refl
      go false false true c o pi pk pb pc po = not_withheld Bye (rw (pi, pk, pb) refl) refl
      go false false false true o pi pk pb pc po = not_withheld Cancel (rw (pi, pk, pb, pc) refl) refl
      go false false false false true pi pk pb pc po = not_withheld Options (rw (pi, pk, pb, pc, po) refl) refl
      go false false false false false pi pk pb pc po =
          let q : judged_request l es h.rest ≡ accepted r = rw e at a in
          let n : column_of l.method (to_tagged es) ≡ none = rw (pi, pk, pb, pc, po) refl in
          not_both (rw (n, judged_request) at q)

pub only_invites : OnlyInvites
only_invites m l h r e a w = of_invite m l h r e a w

-- ---- both INVITE columns ignore the same

-- which rows a column ignores
abbrev ignored_rows : Column → List Row → List Bool
ignored_rows c rs = map (λ (r : Row). is_ignored (mark_in c r)) rs

alike : ignored_rows Reinvite rows ≡ ignored_rows Invite rows
unfolding rows
alike = refl

abbrev mark_or : Column → Option Row → Mark
mark_or c none = I
mark_or c (some r) = mark_in c r

found_alike :
    (rs : List Row) → ignored_rows Reinvite rs ≡ ignored_rows Invite rs → (n : ℕ)
    → is_ignored (mark_or Reinvite (find rs n)) ≡ is_ignored (mark_or Invite (find rs n))
unfolding find
found_alike [] e n = refl
found_alike (r ∷ rs) e n = go (eqb r.number n) (found_alike rs (cc) n)
  where
    go : (t : Bool) → is_ignored (mark_or Reinvite (find rs n)) ≡ is_ignored (mark_or Invite (find rs n))
        → is_ignored (mark_or Reinvite (cond t (some r) (find rs n))) ≡ is_ignored (mark_or Invite (cond t (some r) (find rs n)))
    go true p = cc
    go false p = p

pub same_ignored : SameIgnored
unfolding ignored mark
same_ignored n = go (find rows n) refl (found_alike rows alike n)
  where
    go : (o : Option Row) → find rows n ≡ o → is_ignored (mark_or Reinvite (find rows n)) ≡ is_ignored (mark_or Invite (find rows n))
        → ignored (some Reinvite) n ≡ ignored (some Invite) n
    go none p q = rw (p, mark) refl
    go (some r) p q = let k : is_ignored r.re ≡ is_ignored r.invite = rw p at q in rw (p, mark) k
