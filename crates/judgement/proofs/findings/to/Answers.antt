-- What is found in a To is what its address and parameters say.
use mathlib.Core.Path.{◌≡◌, ◌∙◌}
use mathlib.Core.List.{List, []}
use Prim.Native.Nat.{ℕ}
use native.Mathlib.Omega.{arith}
use Rattle.sip.specs.declared.PartyAt.{PartyAt}
use Rattle.sip.specs.Values.{party}
use Rattle.judgement.specs.Tallies.{found, finding}
use Rattle.judgement.proofs.findings.to.Goals as goal

to_found : (v : List ℕ) {p : PartyAt} → p ≡ party v → found p.good 0 p.len ≡ finding [] 4 v
unfolding finding
to_found v e = rw e

pub returns-in-Some : goal.returns-in-Some
returns-in-Some c =
    let e = c.in-Some.ensures in
    (c.found.ensures ∙ to_found c.args.v.now e.0, rw c.found.ensures (omega arith), rw c.found.ensures (omega (arith, e.1)))

pub returns-in-None : goal.returns-in-None
returns-in-None c =
    let e = c.in-None.ensures in
    (c.plain.ensures.0 ∙ to_found c.args.v.now e.0, c.plain.ensures.1, omega (arith, c.plain.ensures))
