-- One law for each `return` and for a turn, at the test that `wanted` makes.
use Rattle.std.proofs.Common.{◌≡◌, ℕ, ◌+◌, ◌<◌, ◌≤◌, Bool, true, false, cond, not, List, [], ◌∷◌, Option, Some, None, IfSome, unwrap_or, length, take, drop, eqb, refl, sym, ◌∙◌, arith}
use Rattle.std.proofs.lemmas.Fn.{says_at}
use Rattle.std.specs.Option.{is_some}
use Rattle.std.proofs.Math.Seq.{drop-drop}
use Rattle.std.proofs.Math.Option.{none, some}
use Rattle.octets.specs.Classes.{is_token}
use Rattle.octets.specs.Scans.{run}
use Rattle.octets.proofs.Runs.{run_le}
use Rattle.sip.specs.Values.{is_empty, sign, with_token, tokens}
use Rattle.sip.proofs.Tests.{never}
use Rattle.values.specs.Answers.{Tests, list_at, no_list}
use Rattle.values.proofs.Within.{not_zero}
use Rattle.values.proofs.Lists.{no_bytes, has_bytes, no_first, a_first, answer, begins, next, last, later}
use Rattle.values.proofs.list.list.Goals.{After-past-after, then-is_none+then-wanted, else-is_none, else-is_none-via-then-is_none+else-wanted, else-is_none-via-else-is_none}
use Rattle.values.proofs.list.list.Goals as goal

module _ (sep : ℕ) (p : List ℕ → Bool) (v : List ℕ) (n f : ℕ) (t : List ℕ) (e : list_at sep p v ≡ answer p n f (tokens sep 0 t)) {m : ℕ} (hm : m ≡ run is_token t) where
  no_token : m < 1 → no_list ≡ list_at sep p v
  unfolding answer
  no_token z = sym (e ∙ rw (no_first sep t (omega arith)))

  module _ (y : 1 ≤ m) {a : List ℕ} (ha : a ≡ drop m t) where
    here : tokens sep 0 t
        ≡ cond (is_empty a) (some (take m t ∷ [])) (cond (eqb (sign sep a) 0) none (with_token (take m t) (tokens sep 0 (drop (m + sign sep a) t))))
    here = rw (ha, hm) (a_first sep t (omega arith) (omega (arith, run_le is_token t)))

    no_sign : 1 ≤ length a → 0 ≡ sign sep a → no_list ≡ list_at sep p v
    unfolding answer
    no_sign l z = sym (e ∙ rw (here, has_bytes a l, ← z))

    module _ {w : List ℕ} (hw : w ≡ take m t) {g : ℕ} (hg : g ≡ later p n f w) where
      whole : length a < 1 → record { good = true; count = n + 1; first = g } ≡ list_at sep p v
      whole z = sym (e ∙ rw (here, no_bytes a z, hg, hw) (last p n f (take m t)))

      again : 1 ≤ length a → {s : ℕ} → s ≡ sign sep a → 1 ≤ s → {u : List ℕ} → u ≡ drop s a → list_at sep p v ≡ answer p (n + 1) g (tokens sep 0 u)
      again l {s} hs z {u} hu =
          let d : drop (m + s) t ≡ u = sym (hu ∙ rw ha (drop-drop s m t)) in
          e ∙ rw (here, has_bytes a l, ← hs, not_zero s z, d, hg, hw) (next p n f (take m t) (tokens sep 0 u))

-- the place of the first that passes, from 1, after one more token: that of an earlier one, or else this one's if it passes
module _ (p : List ℕ → Bool) (n : ℕ) (o : Option ℕ) (i : IfSome o (λ k. 1 ≤ k)) {b : Bool} (hb : is_some o ≡ not b) where
  none_before : b ≡ true → o ≡ None
  none_before q = go o (hb ∙ rw q refl)
    where
      go : (x : Option ℕ) → is_some x ≡ false → x ≡ None
      go None e = refl
      go (Some k) e = never (cc)

  this_one : b ≡ true → {f : Option ℕ} → f ≡ Some (n + 1) → {t w : List ℕ} → t ≡ w → {a : Bool} → a ≡ true → a ≡ p t → unwrap_or f 0 ≡ later p n (unwrap_or o 0) w
  this_one q e hw ea h = rw (e, none_before q, ← hw, ← h, ea)

  none_yet : b ≡ true → {f : Option ℕ} → f ≡ o → {t w : List ℕ} → t ≡ w → {a : Bool} → a ≡ false → a ≡ p t → unwrap_or f 0 ≡ later p n (unwrap_or o 0) w
  none_yet q e hw ea h = rw (e, none_before q, ← hw, ← h, ea)

  earlier : b ≡ false → {f : Option ℕ} → f ≡ o → (w : List ℕ) → unwrap_or f 0 ≡ later p n (unwrap_or o 0) w
  earlier q {f} e w = go o (hb ∙ rw q refl) i e
    where
      go : (x : Option ℕ) → is_some x ≡ true → IfSome x (λ k. 1 ≤ k) → f ≡ x → unwrap_or f 0 ≡ later p n (unwrap_or x 0) w
      go None y z g = never (cc)
      go (Some k) y z g = rw (g, not_zero k z)

pub tokens-init : goal.tokens-init
tokens-init g c = record { counts = omega arith; from_one = tt; reads = λ p h. begins p c.args.sep c.args.v.now }

pub returns-then-size-lt1-clause-reads : goal.returns-then-size-lt1-clause-reads
returns-then-size-lt1-clause-reads g c = λ p h.
    no_token c.args.sep p c.args.v.now _ _ _ (c.tokens.invariant.reads p h) c.run-size.ensures.0 (omega arith)

pub overflow_add-count : goal.overflow_add-count
overflow_add-count g c = omega arith

-- what both the end and a turn say of the first that is looked for, after the test
module _ (g : _) (c : After-past-after g) where
  found_later : (p : List ℕ → Bool) → Tests g.F.Fn c.args.wanted p
      → unwrap_or c.if-is_none.first 0 ≡ later p c.tokens.count (unwrap_or c.tokens.first 0) (take c.run-size.result c.tokens.left.now)
  found_later p h =
      let b : is_some c.tokens.first ≡ not c.is_none.result = cc in
      elim c.if-is_none.branch [
        | then-is_none+then-wanted w ↦
            this_one p _ c.tokens.first c.tokens.invariant.from_one b w.if-is_none.true w.first-is w.first.ensures.0 w.if-wanted.true
            (h _ _ (says_at g.F.Fn w.wanted.ensures refl))
        | else-is_none w ↦ let e : c.if-is_none.first ≡ c.tokens.first = cc in elim w.else-is_none.branch [
          | else-is_none-via-then-is_none+else-wanted x ↦
              none_yet p _ c.tokens.first c.tokens.invariant.from_one b x.if-is_none.true e x.first.ensures.0 x.if-wanted.false
              (h _ _ (says_at g.F.Fn x.wanted.ensures refl))
          | else-is_none-via-else-is_none x ↦ earlier p _ c.tokens.first c.tokens.invariant.from_one b x.if-is_none.false e _
        ]
      ]

  found_from_one : IfSome c.if-is_none.first (λ n. 1 ≤ n)
  found_from_one = elim c.if-is_none.branch [
    | then-is_none+then-wanted w ↦ rw w.first-is (omega arith)
    | else-is_none w ↦ let e : c.if-is_none.first ≡ c.tokens.first = cc in rw e c.tokens.invariant.from_one
  ]

pub returns-then-after-lt1-clause-reads : goal.returns-then-after-lt1-clause-reads
returns-then-after-lt1-clause-reads g c = λ p h.
    let first = found_later g (goal.at.returns-then-after-lt1-clause-reads g c).After-past-after p h in
    whole c.args.sep p c.args.v.now _ _ _ (c.tokens.invariant.reads p h) c.run-size.ensures.0 (omega arith) c.past-after.ensures.0 refl first (omega arith)

pub returns-then-after-lt1-clause-counts : goal.returns-then-after-lt1-clause-counts
returns-then-after-lt1-clause-counts g c = (omega arith, found_from_one g (goal.at.returns-then-after-lt1-clause-counts g c).After-past-after)

pub returns-in_err-gap-clause-reads : goal.returns-in_err-gap-clause-reads
returns-in_err-gap-clause-reads g c = λ p h.
    rw c.from_residual.ensures
    (no_sign c.args.sep p c.args.v.now _ _ _ (c.tokens.invariant.reads p h) c.run-size.ensures.0 (omega arith) c.past-after.ensures.0 (omega arith) c.in_err-gap.ensures.0)

pub tokens-smaller : goal.tokens-smaller
tokens-smaller g c = omega arith

pub tokens-preserved : goal.tokens-preserved
tokens-preserved g c =
    let s = (goal.at.tokens-preserved g c).After-past-after in
    record {
      counts = omega arith;
      from_one = found_from_one g s;
      reads = λ p h.
          again c.args.sep p c.args.v.now _ _ _ (c.tokens.invariant.reads p h) c.run-size.ensures.0 (omega arith) c.past-after.ensures.0 refl (found_later g s p h) (omega arith) c.in_ok-gap.ensures.0 (omega arith) c.past-left.ensures.0;
    }
