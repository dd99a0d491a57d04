-- What is found in a Privacy is what its list says; a list has no more tokens than bytes.
use mathlib.Core.Path.{◌≡◌, refl, ◌∙◌}
use mathlib.Core.List.{List, []}
use Prim.Native.Nat.{ℕ}
use native.Mathlib.Omega.{arith}
use Rattle.values.specs.Answers.{ListAt, privacy_at}
use Rattle.judgement.specs.Tallies.{found, finding}
use Rattle.judgement.proofs.Bounds.{privacy_bound}
use Rattle.judgement.proofs.findings.privacy.Goals as goal

privacy_found : (v : List ℕ) {l : ListAt} → l ≡ privacy_at v → found l.good l.first 0 ≡ finding [] 16 v
unfolding finding
privacy_found v e = rw e

pub returns-in-Some : goal.returns-in-Some
returns-in-Some c =
    let e = c.in-Some.ensures in
    rw (c.found.ensures, c.unwrap_or.ensures) (privacy_found c.args.v.now e.0, privacy_bound c.args.v.now e.0, refl)

pub returns-in-None : goal.returns-in-None
returns-in-None c =
    let e = c.in-None.ensures in
    (c.plain.ensures.0 ∙ privacy_found c.args.v.now e.0, omega (arith, c.plain.ensures), c.plain.ensures.2)
