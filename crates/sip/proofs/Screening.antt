-- What is promised of a screening with a table: each by the ways in which it ends. A withheld message is an INVITE, since all other columns
-- ignore Privacy.
use mathlib.Core.Path.{◌≡◌, refl, sym, ap, ◌∙◌}
use mathlib.Core.Bool.{Bool, true, false, not, cond, ◌&&◌, and-false}
use mathlib.Core.List.{List}
use Prim.Native.Nat.{ℕ}
use native.Mathlib.Omega.{arith}
use lib.Dec.{leb, eqb}
use lib.ListN.{length}
use borrow.Author.Tests.{eqb-true, eq-eqb, not-true}
use Rattle.octets.specs.Classes.{text}
use Rattle.octets.specs.Scans.{same}
use Rattle.sip.specs.Lines.{Start, request, response}
use Rattle.sip.specs.Refusals.{refusal, Lines, unread, read, lines, withheld, kept_of, Passed, Judgement, refused, accepted, judgement}
use Rattle.sip.specs.Output.{output}
use Rattle.sip.specs.Calls.{Pair, is_pair, held, is_held, is_full, entered, removed}
use Rattle.sip.specs.Screen.{call_of, is_method, hides, closes, masks, overfills, calls_after, sends, decided, verdict, Screened, refusing, written}
use Rattle.sip.specs.Screen.{screened}
use Rattle.sip.specs.History.{screening, ending_of, TableStays}
use Rattle.sip.specs.CallPromises.{table_size, RefusedStays, TrustedSide, NewMeets32, ExactlyEighteen, TableAfterIs}
use Rattle.sip.proofs.Tests.{never, and_left, and_right}
use Rattle.sip.proofs.Texts.{same_eq, same_refl}
use Rattle.sip.proofs.Accepted.{not_both, judged_inv}
use Rattle.sip.proofs.Masked.{only_invites}
use Rattle.sip.proofs.Responses.{not_withheld}
use Rattle.sip.proofs.Reasons.{refused_reason}
use Rattle.sip.proofs.Cases.{replied_reason, screened_cases}
use Rattle.sip.proofs.Complete.{accepted_pair}
use Rattle.sip.proofs.Calls.Tables.{entered_length, removed_length}

-- ---- which messages are withheld

module _ (m : List ℕ) (r : Passed) (e : judgement m ≡ accepted r) where
  pub withheld_invite : withheld r.fields ≡ true → is_method (text "INVITE") r.line ≡ true
  unfolding judgement
  withheld_invite w = go (lines m) refl
    where
      go : (x : Lines) → lines m ≡ x → is_method (text "INVITE") r.line ≡ true
      go (unread n) q = not_both (rw q at e)
      go (read (request l) h) q =
          let a = judged_inv (request l) (kept_of (request l) h.fields) h.rest r (rw q at e) in
          let k : r.line ≡ request l = ap (λ (x : Passed). x.line) a.made in
          rw (k, only_invites m l h r q e w) (same_refl (text "INVITE"))
      go (read (response l) h) q = let z = not_withheld m l h q r e in never (cc)

  -- so that an accepted message to side 1 enters its pair exactly where it is withheld
  pub hides_withheld : (side : ℕ) → hides side r ≡ (eqb side 1 && withheld r.fields)
  unfolding hides
  hides_withheld side = go (withheld r.fields) refl
    where
      go : (t : Bool) → withheld r.fields ≡ t → hides side r ≡ (eqb side 1 && t)
      go true w = rw (w, withheld_invite w)
      go false w = rw (w, and-false (is_method (text "INVITE") r.line))

-- ---- a refused request, and side 0

pub refused_stays : RefusedStays
refused_stays m side table buffer =
    screened_cases m side table buffer (λ (s : Screened). (s.answer.reason ≡ 0 → ⊥) → (s.buffer ≡ buffer) × (s.table ≡ table))
    (record {
      other_side = λ n. (refl, refl);
      is_refused = λ a q n. (refl, refl);
      is_full_lem = λ r q f n. (refl, refl);
      no_room = λ r k q n. (refl, refl);
      is_sent = λ r q f n. absurd (n refl);
    })

pub side_0 : (table : List ℕ) (r : Passed) → decided 0 table r ≡ sends r.line (output false r) table
unfolding decided overfills hides closes masks calls_after
side_0 table r = refl

pub trusted_side : TrustedSide
unfolding screened verdict
trusted_side m table other buffer = go (judgement m) refl
  where
    room : (r : Passed) (t : Bool) → leb (length (output false r)) (length buffer) ≡ t
        → let w : List ℕ → Screened = λ (x : List ℕ). written buffer x (sends r.line (output false r) x) in
        ((w table).answer ≡ (w other).answer) × ((w table).buffer ≡ (w other).buffer) × ((w table).table ≡ table)
    room r true p = rw p (refl, refl, refl)
    room r false p = rw p (refl, refl, refl)

    go : (j : Judgement) → judgement m ≡ j
        → ((screened m 0 table buffer).answer ≡ (screened m 0 other buffer).answer)
        × ((screened m 0 table buffer).buffer ≡ (screened m 0 other buffer).buffer)
        × ((screened m 0 table buffer).table ≡ table)
    go (refused a) q = rw q (refl, refl, refl)
    go (accepted r) q = rw (q, side_0 table r, side_0 other r) (room r _ refl)

-- ---- reason 18

module _ (m : List ℕ) (side : ℕ) (table buffer : List ℕ) where
  new_meets : (r : Passed) → judgement m ≡ accepted r → overfills side table r ≡ true → NewMeets32 m side table
  unfolding overfills hides is_full
  new_meets r e f =
      let p : Pair = call_of r.fields in
      let invite = is_method (text "INVITE") r.line in
      let a = and_left (hides side r) _ f in
      let b = and_right (hides side r) _ f in
      let c = and_right (eqb side 1) _ a in
      record {
        message = r;
        side_is = eqb-true side 1 (and_left (eqb side 1) _ a);
        is_accepted = e;
        an_invite = and_left invite _ c;
        is_withheld = and_right invite _ c;
        is_new = not-true (is_held p table) (and_left (not (is_held p table)) _ b);
        are_32 = eqb-true (length (held table)) 32 (and_right (not (is_held p table)) _ b);
      }

  only_then : (screened m side table buffer).answer.reason ≡ 18 → NewMeets32 m side table
  only_then =
      screened_cases m side table buffer (λ (s : Screened). s.answer.reason ≡ 18 → NewMeets32 m side table)
      (record {
        other_side = λ n. never (cc);
        is_refused = λ a q n. absurd (omega (arith, (refused_reason m a q).few, n));
        is_full_lem = λ r q f n. new_meets r q f;
        no_room = λ r k q n. let z = replied_reason r.line (refusal 16 500 k 0) in absurd (omega (arith, z, n));
        is_sent = λ r q f n. never (cc);
      })

  always_then : NewMeets32 m side table → screened m side table buffer ≡ refusing (refusal 18 503 0 0) buffer table
  unfolding screened verdict decided overfills hides is_full
  always_then n = rw (n.side_is, n.is_accepted, n.an_invite, n.is_withheld, n.is_new, eq-eqb (length (held table)) 32 n.are_32)

pub exactly_eighteen : ExactlyEighteen
exactly_eighteen m side table buffer = record { only_then = only_then m side table buffer; always_then = always_then m side table buffer }

-- ---- the table after an accepted message

-- no BYE is an INVITE
bye_no_invite : (l : Start) → is_method (text "BYE") l ≡ true → is_method (text "INVITE") l ≡ false
unfolding same text
bye_no_invite (request l) e = rw (← same_eq (text "BYE") l.method e) refl
bye_no_invite (response l) e = refl

pub table_after : TableAfterIs
unfolding calls_after hides closes
table_after m r table buffer e n =
    let is : (screened m 1 table buffer).table ≡ calls_after 1 table r
    = screened_cases m 1 table buffer (λ (s : Screened). s.answer.reason ≡ 0 → s.table ≡ calls_after 1 table r)
    (record {
      other_side = λ k. never (cc);
      is_refused = λ a q k. not_both (sym q ∙ e);
      is_full_lem = λ x q f k. never (cc);
      no_room = λ x z q k. absurd (omega (arith, replied_reason x.line (refusal 16 500 z 0), k));
      is_sent = λ x q f k. let z : x ≡ r = cc in rw z;
    }) n in
    record {
      by_invite = λ i w. is ∙ rw (i, w);
      by_bye = λ b. is ∙ rw (bye_no_invite r.line b, b);
      by_no_other = λ b i. is ∙ rw (i, b);
    }

-- ---- the table stays a table

after_length : (side : ℕ) (table : List ℕ) (r : Passed) → length table ≡ table_size → is_pair (call_of r.fields) ≡ true
    → length (calls_after side table r) ≡ table_size
unfolding calls_after
after_length side table r s w = go (hides side r) (closes side r)
  where
    p : Pair
    p = call_of r.fields

    go : (a b : Bool) → length (cond a (entered p table) (cond b (removed p table) table)) ≡ table_size
    go true b = entered_length table s p w
    go false true = removed_length table s p
    go false false = s

pub table_stays : TableStays
table_stays (screening m side buffer) table s =
    screened_cases m side table buffer (λ (x : Screened). length x.table ≡ table_size)
    (record {
      other_side = s;
      is_refused = λ a q. s;
      is_full_lem = λ r q f. s;
      no_room = λ r k q. s;
      is_sent = λ r q f. after_length side table r s (accepted_pair m r q);
    })
table_stays (ending_of p) table s = removed_length table s p
