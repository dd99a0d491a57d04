-- Part by part (Parts).
use Rattle.std.proofs.Common.{rules}
use Rattle.calls.proofs.Parts.{all_first}
use Rattle.calls.proofs.full.firsts.Goals as goal

pub refined-first-requires : goal.refined-first-requires
refined-first-requires c = search (all_first, rules)
