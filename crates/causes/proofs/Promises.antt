-- Over 127 by the bound; of 0 to 127 by a test that is computed for each of the 128 causes.
use mathlib.Core.Path.{◌≡◌, refl}
use mathlib.Core.Bool.{Bool, true, false, cond, not, ◌&&◌, ◌||◌, false≢true}
use mathlib.Core.List.{List, [], ◌∷◌}
use mathlib.Core.Logic.{inl, inr}
use Prim.Native.Nat.{ℕ, zero, suc, ◌+◌, ◌≤◌, ◌<◌}
use native.Mathlib.Nat.{eq-or-lt_of_le}
use native.Mathlib.Omega.{arith}
use lib.Dec.{T, eqb, leb, ltb, eqb→eq, leb→le, ltb→lt}
use borrow.Author.Tests.{lt-ltb, lt-leb, ltb-true, ltb-false, ne_eqb}
use mir.Facts.{and_yes, or_yes}
use Rattle.causes.specs.declared.StatusAnswer.{StatusAnswer}
use Rattle.causes.specs.Causes.{among, listed, given, status_entries, class_ends, next_above, row_of, status_of, status}
use Rattle.causes.specs.Promises.{Run, statuses_before, in_runs, EveryStatusStays, listed_causes, Listed, OverRefused, OwnRow, NextAbove, ClassEndRow, RowGives, NoneRefused, cases, AllGive, no_case, one_case}
use Rattle.causes.specs.declared.StatusRow.{StatusRow}
use Rattle.causes.specs.declared.Refusal.TheVariants.{Cause}
use Rattle.causes.specs.Answers.{listed_row, end_row, status_answer}
use Rattle.std.specs.Prelude.{Option, None, Some, ok_or, MatchOption}
use Rattle.causes.proofs.Rows.{not_among, past, listed_given, none_above}

pub over_refused : OverRefused
unfolding status
over_refused c h = rw (lt-ltb 127 c h)

pub cases_hold : AllGive cases
unfolding cases status status_of row_of status_entries class_ends next_above listed given among
cases_hold = one_case refl (one_case refl (one_case refl (one_case refl (one_case refl (one_case refl (one_case refl (one_case refl (one_case refl (one_case refl (one_case refl (one_case refl (one_case refl (one_case refl (one_case refl (one_case refl (one_case refl (one_case refl (one_case refl (one_case refl (one_case refl (one_case refl (no_case))))))))))))))))))))))

-- ---- tests of every number of a list, and of every cause of 0 to 127

each_of : List ℕ → (ℕ → Bool) → Bool
each_of [] p = true
each_of (k ∷ ks) p = p k && each_of ks p

so : (b : Bool) → b ≡ true → T b
so true e = tt
so false e = absurd (false≢true e)

is : (b : Bool) → T b → b ≡ true
is true t = refl
is false t = absurd t

one_of : (p : ℕ → Bool) (ks : List ℕ) → T (each_of ks p) → (x : ℕ) → among ks x ≡ true → T (p x)
unfolding each_of among
one_of p [] t x e = absurd (false≢true e)
one_of p (k ∷ ks) t x e =
    let both = and_yes (p k) (each_of ks p) t in
    elim (or_yes (eqb x k) (among ks x) (so (eqb x k || among ks x) e))
    [ inl q ↦ rw (eqb→eq x k q) both.0 | inr q ↦ one_of p ks both.1 x (is (among ks x) q) ]

each : (ℕ → Bool) → ℕ → ℕ → Bool
each p c zero = true
each p c (suc n) = p c && each p (suc c) n

at : (p : ℕ → Bool) (a n : ℕ) → T (each p a n) → (c : ℕ) → a ≤ c → c < a + n → T (p c)
unfolding each
at p a zero t c l h = absurd (omega arith)
at p a (suc n) t c l h =
    let both = and_yes (p a) (each p (suc a) n) t in
    elim (eq-or-lt_of_le l) [ inl e ↦ rw (← e) both.0 | inr g ↦ at p (suc a) n both.1 c g (omega arith) ]

module _ (p : ℕ → Bool) (t : T (each p 0 128)) (c : ℕ) (h : c ≤ 127) where
  holds : T (p c)
  holds = at p 0 128 t c (omega arith) (omega arith)

-- ---- "Every status stays"

abbrev stays_so : ℕ → Bool
stays_so c = let a = status c in eqb a.status (in_runs statuses_before c) && eqb a.refusal 0

stays_so_lem : T (each stays_so 0 128)
unfolding each in_runs statuses_before status status_of row_of status_entries class_ends next_above listed given among
stays_so_lem = tt

-- no run goes on after n
abbrev up_to : ℕ → List Run → Bool
up_to n [] = true
up_to n (r ∷ rs) = leb r.last n && up_to n rs

past_runs : (rs : List Run) (n c : ℕ) → T (up_to n rs) → n < c → in_runs rs c ≡ 0
unfolding in_runs
past_runs [] n c t h = refl
past_runs (r ∷ rs) n c t h =
    let both = and_yes (leb r.last n) (up_to n rs) t in
    rw (lt-leb c r.last (omega (arith, leb→le r.last n both.0))) (past_runs rs n c both.1 h)

pub every_status_stays : EveryStatusStays
unfolding statuses_before
every_status_stays c = go (ltb 127 c) refl
  where
    go : (t : Bool) → ltb 127 c ≡ t → ((status c).status ≡ in_runs statuses_before c) × ((status c).refusal ≡ cond (ltb 127 c) 21 0)
    go true e = let h : 127 < c = ltb-true 127 c e in rw (over_refused c h, past_runs statuses_before 127 c tt h, e) (refl, refl)
    go false e =
        let both = and_yes (eqb (status c).status (in_runs statuses_before c)) (eqb (status c).refusal 0) (holds stays_so stays_so_lem c (ltb-false 127 c e)) in
        rw e (eqb→eq (status c).status (in_runs statuses_before c) both.0, eqb→eq (status c).refusal 0 both.1)

-- ---- what the row says

abbrev next_right : ℕ → ℕ → Bool
next_right c e = among class_ends e && (ltb c e && each_of class_ends (λ (x : ℕ). leb x c || leb e x))

abbrev end_so : ℕ → Bool
end_so c = listed status_entries c || next_right c (status c).row

end_so_lem : T (each end_so 0 128)
unfolding each each_of status status_of row_of status_entries class_ends next_above listed given among
end_so_lem = tt

abbrev own_so : ℕ → Bool
own_so c = cond (listed status_entries c) (eqb (status c).row c) (not (eqb (status c).row c))

own_so_lem : T (each own_so 0 128)
unfolding each status status_of row_of status_entries class_ends next_above listed given among
own_so_lem = tt

no_row_over : (c : ℕ) → 127 < c → listed status_entries c ≡ false
unfolding status_entries
no_row_over c h = rw (listed_given status_entries c tt, ← past 0 status_entries [] 128 tt h tt)

alike : (a b : Bool) → T (cond b a (not a)) → a ≡ b
alike true true t = refl
alike true false t = absurd t
alike false true t = absurd t
alike false false t = refl

abbrev listed_so : ℕ → Bool
listed_so c = cond (among listed_causes c) (listed status_entries c) (not (listed status_entries c))

listed_so_lem : T (each listed_so 0 128)
unfolding each status_entries listed listed_causes among
listed_so_lem = tt

none_over : (c : ℕ) → 127 < c → among listed_causes c ≡ false
unfolding listed_causes
none_over c h = not_among [] 128 h tt listed_causes tt

pub listed_causes_lem : Listed
listed_causes_lem c = go (ltb 127 c) refl
  where
    go : (t : Bool) → ltb 127 c ≡ t → listed status_entries c ≡ among listed_causes c
    go true e = let h : 127 < c = ltb-true 127 c e in rw (no_row_over c h, none_over c h)
    go false e = alike (listed status_entries c) (among listed_causes c) (holds listed_so listed_so_lem c (ltb-false 127 c e))

pub own_row : OwnRow
own_row c = go (ltb 127 c) refl
  where
    go : (t : Bool) → ltb 127 c ≡ t → eqb (status c).row c ≡ listed status_entries c
    go true e =
        let h : 127 < c = ltb-true 127 c e in
        rw (over_refused c h, no_row_over c h) (ne_eqb 0 c (λ z. omega (arith, z)))
    go false e = alike (eqb (status c).row c) (listed status_entries c) (holds own_so own_so_lem c (ltb-false 127 c e))

next_above_lem : (c e : ℕ) → T (next_right c e) → NextAbove c e
next_above_lem c e t =
    let later : ℕ → Bool = λ x. leb x c || leb e x in
    let some = and_yes (among class_ends e) (ltb c e && each_of class_ends later) t in
    let more = and_yes (ltb c e) (each_of class_ends later) some.1 in
    record {
      is_end = is (among class_ends e) some.0;
      above = ltb→lt c e more.0;
      next = λ x m l. elim (or_yes (leb x c) (leb e x) (one_of later class_ends more.1 x m))
          [ inl q ↦ absurd (omega (arith, leb→le x c q)) | inr q ↦ leb→le e x q ];
    }

pub class_end_row : ClassEndRow
class_end_row c h u =
    let t : T (false || next_right c (status c).row) = rw u at (holds end_so end_so_lem c h) in
    next_above_lem c (status c).row t

-- ---- what each of the 128 gives

abbrev gives_row : ℕ → Bool
gives_row c =
    let a = status c in
    let b = status a.row in
    listed status_entries a.row && (eqb b.status a.status && (eqb b.row a.row && eqb b.refusal a.refusal))

row_gives_so : T (each gives_row 0 128)
unfolding each status status_of row_of status_entries class_ends next_above listed given among
row_gives_so = tt

abbrev built : ℕ → ℕ → ℕ → StatusAnswer
built s r f = record { status = s; row = r; refusal = f }

same_answer : (a b : StatusAnswer) → T (eqb b.status a.status && (eqb b.row a.row && eqb b.refusal a.refusal)) → b ≡ a
same_answer a b t =
    let some = and_yes (eqb b.status a.status) (eqb b.row a.row && eqb b.refusal a.refusal) t in
    let more = and_yes (eqb b.row a.row) (eqb b.refusal a.refusal) some.1 in
    let e : built b.status b.row b.refusal ≡ built a.status a.row a.refusal
    = rw (eqb→eq b.status a.status some.0, eqb→eq b.row a.row more.0, eqb→eq b.refusal a.refusal more.1) in
    e

pub row_gives : RowGives
row_gives c h =
    let a = status c in
    let b = status a.row in
    let rest : Bool = eqb b.status a.status && (eqb b.row a.row && eqb b.refusal a.refusal) in
    let both = and_yes (listed status_entries a.row) rest (holds gives_row row_gives_so c h) in
    record { is_listed = is (listed status_entries a.row) both.0; same = same_answer a b both.1 }

abbrev within : ℕ → ℕ → ℕ → Bool
within lo hi n = leb lo n && leb n hi

is_within : (lo hi n : ℕ) → T (within lo hi n) → (lo ≤ n) × (n ≤ hi)
is_within lo hi n t = let both = and_yes (leb lo n) (leb n hi) t in (leb→le lo n both.0, leb→le n hi both.1)

abbrev answers_so : ℕ → Bool
answers_so c = let a = status c in eqb a.refusal 0 && (within 1 127 a.row && within 404 503 a.status)

answers_so_lem : T (each answers_so 0 128)
unfolding each status status_of row_of status_entries class_ends next_above listed given among
answers_so_lem = tt

pub none_refused : NoneRefused
none_refused c h =
    let a = status c in
    let some = and_yes (eqb a.refusal 0) (within 1 127 a.row && within 404 503 a.status) (holds answers_so answers_so_lem c h) in
    let more = and_yes (within 1 127 a.row) (within 404 503 a.status) some.1 in
    record {
      not_refused = eqb→eq a.refusal 0 some.0;
      some_row = is_within 1 127 a.row more.0;
      some_status = is_within 404 503 a.status more.1;
    }

-- ---- what the code answers

-- a listed cause has its own row; of any other that of its class end
abbrev either_row : Option StatusRow → Option StatusRow → Option StatusRow
either_row None b = b
either_row (Some r) b = Some r

abbrev answer_of : ℕ → StatusAnswer
answer_of c = status_answer (ok_or (either_row (listed_row c) (end_row c)) Cause)

abbrev row_answers : ℕ → Bool
row_answers c =
    let a = status c in
    let b = answer_of c in
    eqb b.status a.status && (eqb b.row a.row && eqb b.refusal a.refusal)

row_answers_so : T (each row_answers 0 128)
unfolding each status status_of row_of status_entries class_ends next_above listed given among
row_answers_so = tt

none_answers : (c : ℕ) → 127 < c → answer_of c ≡ status c
unfolding status_of status_entries class_ends
none_answers c h =
    rw (over_refused c h, ← past 0 status_entries [] 128 tt h tt, ← none_above class_ends 127 tt {s = c} (omega arith))

answers : (c : ℕ) → answer_of c ≡ status c
answers c = go (ltb 127 c) refl
  where
    go : (t : Bool) → ltb 127 c ≡ t → answer_of c ≡ status c
    go true e = none_answers c (ltb-true 127 c e)
    go false e = same_answer (status c) (answer_of c) (holds row_answers row_answers_so c (ltb-false 127 c e))

either : (a b r : Option StatusRow) → MatchOption a (r ≡ b) (λ x. r ≡ Some x) → r ≡ either_row a b
either None b r e = e
either (Some x) b r e = e

pub map_answers : (c : ℕ) (a r : Option StatusRow) → a ≡ listed_row c → MatchOption a (r ≡ end_row c) (λ x. r ≡ Some x) → status_answer (ok_or r Cause) ≡ status c
map_answers c a r own found =
    let e : r ≡ either_row (listed_row c) (end_row c) = rw own at (either a (end_row c) r found) in
    rw e (answers c)
