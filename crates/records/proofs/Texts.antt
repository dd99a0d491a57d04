-- A text that is read turn by turn: each turn reads a piece, and what is carried after it is that of the pieces so far (Written).
use mathlib.Core.Path.{◌≡◌, refl, sym, ap, ◌∙◌}
use mathlib.Core.Bool.{Bool, true, false, cond}
use mathlib.Core.List.{List, [], ◌∷◌, ◌++◌, append_assoc}
use Prim.Native.Nat.{ℕ, ◌+◌, ◌≤◌, ◌<◌, min}
use native.Mathlib.Omega.{arith}
use lib.Dec.{leb, ltb, eqb}
use lib.ListN.{length, take, get_or, length-append, length-take, get_or-append}
use lib.Seq.{length-take-le, take-append-add, take-append-le}
use borrow.Author.Tests.{ltb-true, ltb-false, lt-leb, eqb-true, eqb-false}
use Rattle.records.specs.Records.{marked, message_size, record_size, refusal_at, most_records}
use Rattle.sip.specs.Calls.{none_held}
use Rattle.records.specs.declared.Replay.{Replay}
use Rattle.records.specs.Running.{State, state_of, numbers_in, after, taken, stepped}
use Rattle.records.specs.Pieces.{wanted, IsPiece, Pieces, last_piece, next_piece, stepped_all, joined_pieces, Replayed, Filled}
use Rattle.records.proofs.Steps.{whole_fits, step_whole, step_bad}
use Rattle.records.proofs.Written.{piece_by_piece}

-- ---- what is read: the first five bytes, or as many of them as there are, and then as many as are wanted, or as many of them as there are

wanted_le : (h : List ℕ) → wanted h ≤ message_size h
unfolding wanted
wanted_le h = go (leb 5 (length h)) (marked h)
  where
    go : (t u : Bool) → cond t (cond u (message_size h) 0) 0 ≤ message_size h
    go false u = omega arith
    go true false = omega arith
    go true true = omega arith

wanted_short : (h : List ℕ) → length h < 5 → wanted h ≡ 0
unfolding wanted
wanted_short h l = rw (lt-leb 5 (length h) l)

-- a is what the space holds after the first reading, q the part after its first five bytes after the second
piece : (a q r : List ℕ) (n got : ℕ) → n ≤ 5 → 5 ≤ length a → got ≤ wanted (take n a) → got ≤ length q
    → (p : List ℕ) → p ≡ take (n + got) (take 5 a ++ (q ++ r)) → IsPiece p
piece a q r n got l k w v p e x = go (ltb n 5) refl
  where
    go : (t : Bool) → ltb n 5 ≡ t → length p ≡ record_size p
    go true y =
        let s : n < 5 = ltb-true n 5 y in
        let z : length (take n a) ≡ n = length-take-le n a (omega arith) in
        let none : got ≡ 0 = omega (arith, wanted_short (take n a) (omega arith)) in
        let m : length p ≡ min (n + got) (length (take 5 a ++ (q ++ r))) = ap length e ∙ length-take (n + got) (take 5 a ++ (q ++ r)) in
        absurd (omega (arith, whole_fits p x))
    go false y =
        let f : n ≡ 5 = omega (arith, ltb-false n 5 y) in
        let h : length (take 5 a) ≡ 5 = length-take-le 5 a k in
        let g : p ≡ take 5 a ++ take got q
        = e ∙ rw f (ap (λ (i : ℕ). take (i + got) (take 5 a ++ (q ++ r))) (sym h) ∙ take-append-add (take 5 a) (q ++ r) got
        ∙ ap (λ (t : List ℕ). take 5 a ++ t) (take-append-le got q r v)) in
        let long : length p ≡ 5 + got = ap length g ∙ length-append (take 5 a) (take got q) ∙ omega (arith, length-take-le got q v) in
        let c : get_or p 3 0 ≡ get_or (take 5 a) 3 0 = ap (λ (t : List ℕ). get_or t 3 0) g ∙ get_or-append (take 5 a) (take got q) 0 3 (omega arith) in
        let d : get_or p 4 0 ≡ get_or (take 5 a) 4 0 = ap (λ (t : List ℕ). get_or t 4 0) g ∙ get_or-append (take 5 a) (take got q) 0 4 (omega arith) in
        let u : got ≤ wanted (take 5 a) = rw f at w in
        omega (arith, whole_fits p x, wanted_le (take 5 a))

-- what the two readings leave
module _ (a d : List ℕ) (l : 65540 ≤ length d) (same_long : length a ≡ length d) {n : ℕ} (k : n ≤ 5) {t : List ℕ} (ht : t ≡ take n a)
    {len : ℕ} (hl : len ≡ wanted t) where
  pub piece_read : {b : List ℕ} {got size : ℕ} → Filled a b len got → size ≡ n + got → IsPiece (take size b)
  piece_read {b} {got} {size} f z =
      let w : len ≡ wanted (take n a) = hl ∙ rw ht in
      piece a f.part f.rest n got k (omega arith) (omega (arith, f.few)) f.there (take size b) (rw (z, f.holds))

-- ---- one record was counted where the text has not ended

record Counted (st : State) (p : List ℕ) : Type 0 where
  whole : refusal_at p ≡ 0
  not_full : st.read < most_records
  one_read : (stepped st p).read ≡ st.read + 1

step_counted : (st : State) (p : List ℕ) → st.end ≡ 0 → 0 < length p → (stepped st p).end ≡ 0 → Counted st p
unfolding taken
step_counted st p going some z = go (eqb (refusal_at p) 0) (ltb st.read most_records) refl refl
  where
    go : (t u : Bool) → eqb (refusal_at p) 0 ≡ t → ltb st.read most_records ≡ u → Counted st p
    go true true a b =
        let e : refusal_at p ≡ 0 = eqb-true (refusal_at p) 0 a in
        record { whole = e; not_full = ltb-true st.read most_records b; one_read = rw (step_whole st p going some e, going, b) }
    go true false a b =
        let e : refusal_at p ≡ 0 = eqb-true (refusal_at p) 0 a in
        absurd (omega (arith, rw (step_whole st p going some e, going, b) at z))
    go false u a b =
        let nz : refusal_at p ≡ 0 → ⊥ = eqb-false (refusal_at p) 0 a in
        absurd (nz (rw (step_bad st p going some nz) at z))

-- ---- all turns

-- after so many turns: the pieces so far are whole records, and what is carried is theirs
pub record Turn (st : State) (turns : ℕ) : Type 0 where
  pieces : List (List ℕ)
  before : (ps : List (List ℕ)) → Pieces ps → Pieces (pieces ++ ps)
  state : st ≡ stepped_all (after []) pieces
  going : st.end ≡ 0
  few : st.read ≤ most_records
  read : st.read ≡ turns

turn_begin : Turn (after []) 0
unfolding stepped_all
turn_begin = record { pieces = []; before = λ ps h. h; state = refl; going = refl; few = omega arith; read = refl }

pub turn_first : {st : Replay} → state_of st none_held ≡ after [] → Turn (state_of st none_held) 0
turn_first e = rw e turn_begin

steps_last : (st : State) (ps : List (List ℕ)) (p : List ℕ) → stepped_all st (ps ++ p ∷ []) ≡ stepped (stepped_all st ps) p
unfolding stepped_all
steps_last st [] p = refl
steps_last st (q ∷ ps) p = steps_last (stepped st q) ps p

module _ (numbers : Replay) (calls : List ℕ) (turns : ℕ) (t : Turn (state_of numbers calls) turns) where
  abbrev st : State
  st = state_of numbers calls

  one_piece : (p : List ℕ) → stepped st p ≡ stepped_all (after []) (t.pieces ++ p ∷ [])
  one_piece p = ap (λ (s : State). stepped s p) t.state ∙ sym (steps_last (after []) t.pieces p)

  -- the text may end with any piece
  may_end : (p : List ℕ) → IsPiece p → Replayed (numbers_in (stepped st p))
  may_end p x =
      let ps : List (List ℕ) = t.pieces ++ p ∷ [] in
      record { whole_text = joined_pieces ps; is_its = ap numbers_in (one_piece p ∙ piece_by_piece ps (t.before (p ∷ []) (last_piece x))) }

  pub turn_none : Replayed numbers
  unfolding stepped
  turn_none = let z : stepped st [] ≡ st = rw t.going in rw z at (may_end [] (λ e. absurd (omega (arith, whole_fits [] e))))

  -- n bytes were read to the front of a space that was d
  module _ (space d : List ℕ) (long : length d ≡ 65540) (same_long : length space ≡ length d) (n : ℕ) (some : n ≡ 0 → ⊥) (i : IsPiece (take n space))
      {p : List ℕ} (hp : p ≡ take n space) {r : Replay} {after_it : List ℕ} (e : state_of r after_it ≡ stepped st p) where
    pub turn_over : (r.end ≡ 0 → ⊥) → Replayed r
    turn_over _ =
        let a : r ≡ numbers_in (stepped st (take n space)) = ap numbers_in (e ∙ ap (stepped st) hp) in
        rw a (may_end (take n space) i)

    pub turn_next : {k : ℕ} → r.end ≡ 0 → k ≡ turns + 1 → Turn (state_of r after_it) k
    turn_next z y =
        let q : List ℕ = take n space in
        let a : state_of r after_it ≡ stepped st q = e ∙ ap (stepped st) hp in
        let ends : (stepped st q).end ≡ 0 = ap (λ (s : State). s.end) (sym a) ∙ z in
        let c = step_counted st q t.going (omega (arith, length-take n space)) ends in
        let one : r.read ≡ st.read + 1 = ap (λ (s : State). s.read) a ∙ c.one_read in
        record {
          pieces = t.pieces ++ q ∷ [];
          before = λ ps h. rw append_assoc (t.before (q ∷ ps) (next_piece c.whole i h));
          state = a ∙ one_piece q;
          going = z;
          few = omega (arith, c.not_full);
          read = omega (arith, t.read);
        }

  -- there are as many turns as a text can have records, and one more
  pub turn_last : 1000001 ≤ turns → Replayed numbers
  turn_last l = absurd (omega (arith, t.read, t.few))
