-- What the functions on single places answer.
use Rattle.std.specs.Prelude.{Bool, true, cond, ◌&&◌, List, ℕ, leb, eqb, length, get_or, Result, Ok, Err}
use Rattle.std.proofs.Math.Option.{none, some}
use Rattle.sip.specs.Calls.{Pair, is_pair, same_pair, is_in, places, stored, pair_at, is_held, first_where}
use Rattle.calls.specs.declared.pairs.Pair.{Pair as Texts}
use Rattle.calls.specs.declared.NotHeld.{NotHeld}

abbrev pub pair : List ℕ → List ℕ → Pair
pair id tag = record { call_id = id; tag = tag }

-- the pair of these two texts
abbrev pub said : Texts → Pair
said p = pair p.call_id.now p.tag.now

-- the number of an explicit end's answer
abbrev pub answer_of : Result (Unit {0}) NotHeld → ℕ
answer_of (Ok u) = 0
answer_of (Err e) = 19

-- a place has room for the texts of the pair
unfoldable pub fits : Pair → Bool
fits p = leb (length p.call_id) 128 && leb (length p.tag) 64

-- the place says the lengths and the bytes of the pair
unfoldable pub says : Pair → List ℕ → Bool
says p c = eqb (get_or c 0 0) (length p.call_id) && (eqb (get_or c 129 0) (length p.tag) && same_pair p (stored c))

-- the place says this length of a Call-ID and this first byte of it
unfoldable pub starts_with : ℕ → ℕ → List ℕ → Bool
starts_with n b c = eqb (get_or c 0 0) n && eqb (get_or c 1 0) b

-- the first place that holds the pair; 32 where it is not held
unfoldable pub holder : Pair → List ℕ → ℕ
holder p t = cond (is_held p t) (first_where (says p) (places 32 t)) 32

-- the place holds a pair
unfoldable pub is_taken : List ℕ → Bool
is_taken c = leb (get_or c 129 0) 64 && is_pair (stored c)

-- the place is free, or holds one of the pairs before
unfoldable pub is_spare : List Pair → List ℕ → Bool
is_spare before c = elim (pair_at c) [ none ↦ true | some p ↦ is_in p before ]
