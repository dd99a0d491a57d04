-- What is found in a Require is what its list says; a list has no more tokens than bytes.
use mathlib.Core.Path.{◌≡◌, ◌∙◌}
use mathlib.Core.List.{List, []}
use Prim.Native.Nat.{ℕ}
use native.Mathlib.Omega.{arith}
use Rattle.values.specs.Answers.{ListAt, require_at}
use Rattle.judgement.specs.Tallies.{found, finding}
use Rattle.judgement.proofs.Bounds.{tags_bound, place_bound}
use Rattle.judgement.proofs.findings.require.Goals as goal

tags_found : (v : List ℕ) {l : ListAt} → l ≡ require_at v → found l.good l.first l.count ≡ finding [] 14 v
unfolding finding
tags_found v e = rw e

pub returns-in-Some : goal.returns-in-Some
returns-in-Some c =
    let e = c.in-Some.ensures in
    rw (c.found.ensures, c.unwrap_or.ensures)
    (tags_found c.args.v.now e.0, place_bound c.args.v.now e.0, tags_bound c.args.v.now e.0)

pub returns-in-None : goal.returns-in-None
returns-in-None c =
    let e = c.in-None.ensures in
    (c.plain.ensures.0 ∙ tags_found c.args.v.now e.0, omega (arith, c.plain.ensures), omega (arith, c.plain.ensures))
