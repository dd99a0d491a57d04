-- The scratch is as long as it says, so that the canonical form has room in it, and what stands there is read.
use borrow.Author.Tests.{le-leb}
use lib.ListN.{length-replicate}
use Rattle.judgement.proofs.Kept.{folded_found}
use Rattle.judgement.proofs.tallies.finding_within.Goals as goal

pub returns-clause-found : goal.returns-clause-found
returns-clause-found g c =
    folded_found c.args.method.now c.args.n c.args.v.now g.row.N c.requires.fits (le-leb g.row.N 8192 c.requires.size) (length-replicate g.row.N 0)
    c.put_folded-len.ensures c.first.ensures.0 c.finding.ensures.0
