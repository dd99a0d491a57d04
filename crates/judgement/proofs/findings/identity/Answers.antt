-- What is found in a P-Asserted-Identity is what its identities assert.
use mathlib.Core.Path.{◌≡◌, ◌∙◌}
use mathlib.Core.Bool.{true}
use mathlib.Core.List.{List, []}
use Prim.Native.Nat.{ℕ, ◌≤◌}
use native.Mathlib.Omega.{arith}
use borrow.Author.Tests.{ne_eqb}
use Rattle.values.specs.declared.AssertedAt.{AssertedAt}
use Rattle.values.specs.Answers.{asserted_at}
use Rattle.judgement.specs.Tallies.{found_asserted, finding}
use Rattle.judgement.proofs.findings.identity.Goals as goal

asserted_found : (v : List ℕ) {a : AssertedAt} → a ≡ asserted_at v → found_asserted a ≡ finding [] 15 v
unfolding finding
asserted_found v e = rw e

some_found : (v : List ℕ) {a : AssertedAt} → a ≡ asserted_at v → 1 ≤ a.schemes
    → record { good = true; schemes = a.schemes; start = a.start; len = a.len } ≡ finding [] 15 v
some_found v {a} e l = rw (ne_eqb a.schemes 0 (λ z. omega arith)) at (asserted_found v e)

pub returns-in-Some : goal.returns-in-Some
returns-in-Some c = let e = c.in-Some.ensures in (some_found c.args.v.now e.0 e.1.0, e.1.1)

pub returns-in-None : goal.returns-in-None
returns-in-None c =
    let e = c.in-None.ensures in
    (c.plain.ensures.0 ∙ asserted_found c.args.v.now e.0, omega (arith, c.plain.ensures))
