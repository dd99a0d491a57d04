-- The first reason that applies, out of lists one after the other; no reason that applies has the number 0.
use mathlib.Core.Path.{◌≡◌, refl, ◌∙◌}
use mathlib.Core.Bool.{Bool, true, false, not, ◌&&◌}
use mathlib.Core.List.{List, [], ◌∷◌, ◌++◌}
use mathlib.Core.Option.{Option, none, some}
use Rattle.std.specs.Prelude.{Result, Ok, Err}
use Prim.Native.Nat.{ℕ}
use native.Mathlib.Omega.{arith}
use lib.Dec.{eqb}
use Rattle.sip.specs.declared.Column.{Column}
use Rattle.sip.specs.Refusals.{Answer, refusal, when, is_initial, first_of}
use Rattle.values.specs.declared.RequestUri.{RequestUri}
use Rattle.judgement.specs.declared.Refusal.{Refusal}
use Rattle.judgement.specs.declared.Tally.{Tally}
use Rattle.sip.proofs.Tests.{never}
use Rattle.judgement.specs.Sets.{lack_at}
use Rattle.judgement.specs.Judged.{body_length, is_too_long, hopless, column_tagged, early, shared, late, decided, checked}

first_some : (xs ys : List (Option Answer)) (a : Answer) → first_of xs ≡ some a → first_of (xs ++ ys) ≡ some a
first_some [] ys a e = let z : ◌≡◌ {A = ℕ} 0 1 = cc in absurd (omega arith)
first_some (none ∷ xs) ys a e = first_some xs ys a e
first_some (some x ∷ xs) ys a e = e

first_none : (xs ys : List (Option Answer)) → first_of xs ≡ none → first_of (xs ++ ys) ≡ first_of ys
first_none [] ys e = refl
first_none (none ∷ xs) ys e = first_none xs ys e
first_none (some x ∷ xs) ys e = let z : ◌≡◌ {A = ℕ} 0 1 = cc in absurd (omega arith)

-- ---- a reason that applies has a number, and no length is said

abbrev pub Numbered : Option Answer → Type 0
Numbered none = Unit {0}
Numbered (some a) = (a.reason ≡ 0 → ⊥) × (a.length ≡ 0)

abbrev AllNumbered : List (Option Answer) → Type 0
AllNumbered [] = Unit {0}
AllNumbered (o ∷ os) = Numbered o × AllNumbered os

numbered_first : (os : List (Option Answer)) → AllNumbered os → Numbered (first_of os)
numbered_first [] h = tt
numbered_first (none ∷ os) h = numbered_first os h.1
numbered_first (some a ∷ os) h = h.0

numbered_append : (xs ys : List (Option Answer)) → AllNumbered xs → AllNumbered ys → AllNumbered (xs ++ ys)
numbered_append [] ys h k = k
numbered_append (x ∷ xs) ys h k = (h.0, numbered_append xs ys h.1 k)

numbered : (b : Bool) (a : Answer) → (a.reason ≡ 0 → ⊥) → a.length ≡ 0 → Numbered (when b a)
numbered true a h l = (h, l)
numbered false a h l = tt

-- ---- the reasons of a request before and after those of both kinds

early_numbered : (u : RequestUri) → AllNumbered (early u)
unfolding early
early_numbered u = (
  numbered u.other (refusal 7 416 0 0) (λ q. omega arith) refl,
  (
    numbered (not u.good) (refusal 8 400 0 0) (λ q. omega arith) refl,
    tt,
  ),
)

all_shared : (c : Column) (t : Tally) (rest : ℕ) → AllNumbered (shared c t rest)
unfolding shared
all_shared c t rest =
    let k = lack_at c (eqb (body_length t rest) 0) t.seen in (
      numbered (not (eqb t.again 0)) (refusal 9 400 t.again 0) (λ q. omega arith) refl,
      (
        numbered (not (eqb t.malformed 0)) (refusal 10 400 t.malformed 0) (λ q. omega arith) refl,
        (
          numbered (is_too_long t rest) (refusal 11 400 0 0) (λ q. omega arith) refl,
          (
            numbered (not (eqb k.count 0)) (refusal 12 400 k.lowest k.count) (λ q. omega arith) refl,
            tt,
          ),
        ),
      ),
    )

late_numbered : (c : Column) (t : Tally) (u : RequestUri) → AllNumbered (late c t u)
unfolding late
late_numbered c t u = (
  numbered (hopless t) (refusal 13 483 0 0) (λ q. omega arith) refl,
  (
    numbered (not (eqb t.lacking 0)) (refusal 14 420 t.lacking 0) (λ q. omega arith) refl,
    (
      numbered (is_initial c && not u.called) (refusal 15 484 0 0) (λ q. omega arith) refl,
      tt,
    ),
  ),
)

pub shared_numbered : (c : Column) (t : Tally) (rest : ℕ) → Numbered (first_of (shared c t rest))
shared_numbered c t rest = numbered_first (shared c t rest) (all_shared c t rest)

-- ---- two lists, one after the other

module _ (xs ys : List (Option Answer)) where
  stopped : {x : Refusal} → Err x ≡ checked (first_of xs) → Err x ≡ checked (first_of (xs ++ ys))
  stopped {x} e = go (first_of xs) refl
    where
      go : (o : Option Answer) → first_of xs ≡ o → Err x ≡ checked (first_of (xs ++ ys))
      go none q = let z : Err x ≡ checked none = rw q at e in never (cc)
      go (some a) q = e ∙ rw (q, first_some xs ys a q)

  gone_on : {u : Unit} → Ok u ≡ checked (first_of xs) → first_of (xs ++ ys) ≡ first_of ys
  gone_on {u} e = go (first_of xs) refl
    where
      go : (o : Option Answer) → first_of xs ≡ o → first_of (xs ++ ys) ≡ first_of ys
      go none q = first_none xs ys q
      go (some a) q = let z : Ok u ≡ checked (some a) = rw q at e in never (cc)

module _ (c : Column) (t : Tally) (u : RequestUri) (rest : ℕ) where
  abbrev tagged : Column
  tagged = column_tagged c (not (eqb t.tagged 0))

  pub decided_numbered : Numbered (first_of (decided c t u rest))
  unfolding decided
  decided_numbered =
      numbered_first (decided c t u rest)
      (numbered_append (early u) (shared tagged t rest ++ late tagged t u) (early_numbered u)
      (numbered_append (shared tagged t rest) (late tagged t u) (all_shared tagged t rest) (late_numbered tagged t u)))

  pub stop_early : {x : Refusal} → Err x ≡ checked (first_of (early u)) → Err x ≡ checked (first_of (decided c t u rest))
  unfolding decided
  stop_early e = stopped (early u) (shared tagged t rest ++ late tagged t u) e

  module _ {k : Unit} (e : Ok k ≡ checked (first_of (early u))) {d : Column} (hd : d ≡ tagged) where
    after : first_of (decided c t u rest) ≡ first_of (shared d t rest ++ late d t u)
    unfolding decided
    after = gone_on (early u) (shared tagged t rest ++ late tagged t u) e ∙ rw hd

    pub stop_shared : {x : Refusal} → Err x ≡ checked (first_of (shared d t rest)) → Err x ≡ checked (first_of (decided c t u rest))
    stop_shared f = rw after (stopped (shared d t rest) (late d t u) f)

    pub go_on : {j : Unit} → Ok j ≡ checked (first_of (shared d t rest)) → {r : Result Unit Refusal} → r ≡ checked (first_of (late d t u))
        → r ≡ checked (first_of (decided c t u rest))
    go_on f g = g ∙ rw (after, gone_on (shared d t rest) (late d t u) f)
