-- What is found in a From is what its address and parameters say.
use mathlib.Core.Path.{◌≡◌, ◌∙◌}
use mathlib.Core.Bool.{not, ◌&&◌}
use mathlib.Core.List.{List, []}
use Prim.Native.Nat.{ℕ}
use native.Mathlib.Omega.{arith}
use lib.Dec.{eqb}
use Rattle.sip.specs.declared.PartyAt.{PartyAt}
use Rattle.sip.specs.Values.{party}
use Rattle.judgement.specs.Tallies.{found, finding}
use Rattle.judgement.proofs.findings.from.Goals as goal

from_found : (v : List ℕ) {p : PartyAt} → p ≡ party v → found (p.good && not (eqb p.len 0)) p.tag p.len ≡ finding [] 3 v
unfolding finding
from_found v e = rw e

pub returns-in-Some : goal.returns-in-Some
returns-in-Some c =
    let e = c.in-Some.ensures in
    (c.found.ensures ∙ from_found c.args.v.now e.0, rw c.found.ensures (omega (arith, e.1)))

pub returns-in-None : goal.returns-in-None
returns-in-None c =
    let e = c.in-None.ensures in
    (c.plain.ensures.0 ∙ from_found c.args.v.now e.0, omega (arith, c.plain.ensures))
