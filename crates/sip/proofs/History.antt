-- The history theorem: the table and the pairs left open hold the same, step by step. One step goes by the way in which the operation ends; the
-- laws of entering and removing carry it.
use mathlib.Core.Path.{◌≡◌, refl, sym, ◌∙◌}
use mathlib.Core.Bool.{Bool, true, false, not, cond, ◌&&◌, ◌||◌, and-false}
use mathlib.Core.List.{List, [], ◌∷◌}
use Prim.Native.Nat.{ℕ}
use lib.Dec.{eqb}
use lib.ListN.{length}
use Rattle.sip.specs.Refusals.{refusal, Passed, accepted}
use Rattle.sip.specs.Calls.{Pair, is_pair, same_pair, is_in, held, is_held, is_full, none_held, entered, removed, ending}
use Rattle.sip.specs.Screen.{call_of, hides, closes, overfills, calls_after, Screened}
use Rattle.sip.specs.History.{Operation, screening, ending_of, answered, table_after, table_through, enters, leaves, other, accepted_as, event_of, events}
use Rattle.sip.specs.History.{without, open_next, open_after, left_open, HistoryFrom, History}
use Rattle.sip.specs.CallPromises.{table_size, is_distinct}
use Rattle.sip.proofs.Tests.{never, and_left, and_right, cond_same}
use Rattle.sip.proofs.Cases.{replied_reason, screened_cases}
use Rattle.sip.proofs.Complete.{accepted_pair}
use Rattle.sip.proofs.Calls.Pairs.{pair_is, pair_sym, in_same, equally_long}
use Rattle.sip.proofs.Calls.Tables.{entered_length, removed_length, removed_none, none_length, none_is_held}
use Rattle.sip.proofs.Calls.Promised.{held_once, entering, removing}

-- ---- the pairs left open

without_in : (p q : Pair) (ps : List Pair) → is_in q (without p ps) ≡ (is_in q ps && not (same_pair q p))
unfolding without is_in
without_in p q [] = refl
without_in p q (r ∷ rs) = go (same_pair p r) (same_pair q r) refl refl (without_in p q rs)
  where
    go : (a b : Bool) → same_pair p r ≡ a → same_pair q r ≡ b → is_in q (without p rs) ≡ (is_in q rs && not (same_pair q p))
        → is_in q (cond a (without p rs) (r ∷ without p rs)) ≡ ((b || is_in q rs) && not (same_pair q p))
    go true true x y i = let z : same_pair q p ≡ true = rw (pair_is p r x) y in rw (i, z) (and-false (is_in q rs))
    go true false x y i = i
    go false true x y i = let z : same_pair q p ≡ false = rw (pair_is q r y) (pair_sym r p ∙ x) in rw (y, z)
    go false false x y i = rw (y, i)

without_once : (p : Pair) (ps : List Pair) → is_distinct ps ≡ true → is_distinct (without p ps) ≡ true
unfolding without is_distinct
without_once p [] d = refl
without_once p (r ∷ rs) d =
    go (same_pair p r) (is_in r rs) refl (and_left (not (is_in r rs)) _ d) (without_once p rs (and_right (not (is_in r rs)) _ d))
  where
    go : (a b : Bool) → is_in r rs ≡ b → not b ≡ true → is_distinct (without p rs) ≡ true
        → is_distinct (cond a (without p rs) (r ∷ without p rs)) ≡ true
    go true b e n i = i
    go false true e n i = never (cc)
    go false false e n i = rw (without_in p r rs, e, i)

opened_in : (p q : Pair) (ps : List Pair) → is_in q (open_next (enters p) ps) ≡ (same_pair q p || is_in q ps)
unfolding is_in
opened_in p q ps = go (is_in p ps) (same_pair q p) refl refl
  where
    go : (a b : Bool) → is_in p ps ≡ a → same_pair q p ≡ b → is_in q (cond a ps (p ∷ ps)) ≡ (b || is_in q ps)
    go true true x y = in_same q p ps y ∙ x
    go true false x y = refl
    go false b x y = rw y

opened_once : (p : Pair) (ps : List Pair) → is_distinct ps ≡ true → is_distinct (open_next (enters p) ps) ≡ true
unfolding is_distinct
opened_once p ps d = go (is_in p ps) refl
  where
    go : (a : Bool) → is_in p ps ≡ a → is_distinct (cond a ps (p ∷ ps)) ≡ true
    go true e = d
    go false e = rw (e, d)

-- ---- the table holds them

record Holds (t : List ℕ) (ps : List Pair) : Type 0 where
  long : length t ≡ table_size
  once : is_distinct ps ≡ true
  members : (q : Pair) → is_held q t ≡ is_in q ps

module _ (t : List ℕ) (ps : List Pair) (h : Holds t ps) where
  entered_holds : (p : Pair) → is_pair p ≡ true → (is_held p t || not (is_full t)) ≡ true → Holds (entered p t) (open_next (enters p) ps)
  entered_holds p w f =
      record {
        long = entered_length t h.long p w;
        once = opened_once p ps h.once;
        members = λ q. (entering p t h.long w f).members q ∙ rw (h.members q) (sym (opened_in p q ps));
      }

  removed_holds : (p : Pair) → Holds (removed p t) (open_next (leaves p) ps)
  removed_holds p =
      record {
        long = removed_length t h.long p;
        once = without_once p ps h.once;
        members = λ q. (removing p t h.long).members q ∙ rw (h.members q) (sym (without_in p q ps));
      }

  -- ---- one operation

  -- an accepted message
  sent_holds : (side : ℕ) (r : Passed) → is_pair (call_of r.fields) ≡ true → overfills side t r ≡ false
      → Holds (calls_after side t r) (open_next (accepted_as side (accepted r)) ps)
  unfolding overfills calls_after
  sent_holds side r w n = go (hides side r) (closes side r) (is_held p t) (is_full t) refl refl n
    where
      p : Pair
      p = call_of r.fields

      go : (a b x f : Bool) → is_held p t ≡ x → is_full t ≡ f → (a && (not x && f)) ≡ false
          → Holds (cond a (entered p t) (cond b (removed p t) t)) (open_next (cond a (enters p) (cond b (leaves p) other)) ps)
      go true b true f y z n = entered_holds p w (rw y)
      go true b false true y z n = never (cc)
      go true b false false y z n = entered_holds p w (rw (y, z))
      go false true x f y z n = removed_holds p
      go false false x f y z n = h

  step : (o : Operation) → Holds (table_after o t) (open_next (event_of o (answered o t)) ps)
  unfolding ending
  step (screening m side buffer) =
      screened_cases m side t buffer (λ (s : Screened). Holds s.table (open_next (event_of (screening m side buffer) s.answer.reason) ps))
      (record {
        other_side = h;
        is_refused = λ a q. rw (q, cond_same (eqb a.reason 0) other) h;
        is_full_lem = λ r q f. h;
        no_room = λ r k q. rw (replied_reason r.line (refusal 16 500 k 0)) h;
        is_sent = λ r q f. rw q (sent_holds side r (accepted_pair m r q) f);
      })
  step (ending_of p) = go (is_held p t) refl
    where
      go : (b : Bool) → is_held p t ≡ b → Holds (removed p t) (open_next (cond (eqb (cond b 0 19) 0) (leaves p) other) ps)
      go true e = removed_holds p
      go false e = rw (removed_none p t e) h

-- ---- any number of them

through : (os : List Operation) (t : List ℕ) (ps : List Pair) → Holds t ps → Holds (table_through t os) (open_after ps (events t os))
unfolding table_through open_after events
through [] t ps h = h
through (o ∷ os) t ps h = through os (table_after o t) (open_next (event_of o (answered o t)) ps) (step t ps h o)

-- what a table holds
itself : (t : List ℕ) → length t ≡ table_size → Holds t (held t)
unfolding is_held
itself t l = record { long = l; once = held_once t; members = λ q. refl }

pub history_from : HistoryFrom
unfolding is_held
history_from t os l =
    let h = through os t (held t) (itself t l) in
    record { members = h.members; count = equally_long _ _ (held_once (table_through t os)) h.once h.members }

pub history : History
unfolding left_open
history os = rw none_is_held at (history_from none_held os none_length)
