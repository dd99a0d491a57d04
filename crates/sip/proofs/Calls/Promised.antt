-- What is promised of the table of calls: the laws of Pairs, Places and Tables.
use mathlib.Core.Path.{◌≡◌, refl, ◌∙◌}
use mathlib.Core.Bool.{Bool, true, false, not, cond, ◌||◌}
use mathlib.Core.List.{◌++◌}
use Prim.Native.Nat.{ℕ, suc, ◌+◌, ◌*◌, ◌<◌}
use native.Mathlib.Omega.{arith}
use lib.ListN.{length, take, drop}
use Rattle.sip.specs.Calls.{places, place_with, free_place, held, is_held, is_full, placed, entered, removed, ending}
use Rattle.sip.specs.CallPromises.{ComparedByBytes, HeldInAPlace, PlaceRead, FreeRead, HeldOnce, HeldFormed, MostHeld, Entering}
use Rattle.sip.specs.CallPromises.{Removing, OtherBytes, Ending}
use Rattle.sip.proofs.Tests.{never}
use Rattle.sip.proofs.Calls.Pairs as pairs
use Rattle.sip.proofs.Calls.Places as each
use Rattle.sip.proofs.Calls.Tables as tables

pub by_bytes : ComparedByBytes
by_bytes p q = record { same_bytes = pairs.pair_is p q; equal_pairs = λ e. rw e (pairs.pair_self q) }

pub held_in_a_place : HeldInAPlace
held_in_a_place p t = pairs.held_in p t ∙ each.in_a_place p (places 32 t)

pub place_read : PlaceRead
place_read p w = (each.place_pair p w, each.place_length p (each.id_long p w) (each.tag_short p w))

pub free_read : FreeRead
unfolding free_place
free_read = (each.free_none, refl)

pub held_once : HeldOnce
held_once = pairs.held_once

pub held_formed : HeldFormed
held_formed = tables.held_formed

pub most_held : MostHeld
most_held t = record { at_most = tables.held_most t; full_is = tables.full_place t; place_is = tables.new_most t }

pub entering : Entering
entering p t s w h = record { members = λ q. tables.entered_in t s p w q h; count = counted (is_held p t) (is_full t) refl refl h }
  where
    counted : (a b : Bool) → is_held p t ≡ a → is_full t ≡ b → (a || not b) ≡ true
        → length (held (entered p t)) ≡ cond a (length (held t)) (suc (length (held t)))
    counted true b x y h = rw (tables.entered_held p t x)
    counted false true x y h = never (cc)
    counted false false x y h = tables.entered_count t s p w x y

pub removing : Removing
removing p t s = record { members = tables.removed_in t s p; count = counted (is_held p t) refl }
  where
    counted : (a : Bool) → is_held p t ≡ a → cond a (suc (length (held (removed p t)))) (length (held (removed p t))) ≡ length (held t)
    counted true x = tables.removed_count t s p x
    counted false x = rw (tables.removed_none p t x)

pub other_bytes : OtherBytes
other_bytes p t s =
    record {
      held_already = tables.entered_held p t;
      not_held = tables.removed_none p t;
      one_place = written;
      gone = λ h. tables.removed_places t s p;
    }
  where
    written : (k : ℕ) → k < 32 → placed k p t ≡ take (k * 194) t ++ (place_with p ++ drop ((k + 1) * 194) t)
    written k h = let z : (k + 1) * 194 ≡ k * 194 + 194 = omega arith in rw z (tables.placed_bytes p t s k h)

pub ends : Ending
unfolding ending
ends p t s =
    record {
      known = λ e. (rw e, tables.removed_in t s p p ∙ rw (e, pairs.pair_self p));
      unknown = λ e. (rw e, tables.removed_none p t e);
    }
