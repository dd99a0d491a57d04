-- Field by field.
use borrow.Author.Rules.{rules}
use Rattle.judgement.specs.Tallies.{required}
use Rattle.judgement.proofs.tallies.require.Goals as goal

pub returns : goal.returns
unfolding required
returns c = search rules
