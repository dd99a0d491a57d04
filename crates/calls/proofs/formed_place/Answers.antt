-- The pair is held where a place says it, and it has the form (Says, Firsts).
use Rattle.std.proofs.Common.{rules}
use Rattle.calls.proofs.Firsts.{found_within}
use Rattle.calls.proofs.Says.{unformed_held, unsaid_held, formed_held}
use Rattle.calls.proofs.formed_place.Goals as goal

pub returns-in_err-k : goal.returns-in_err-k
returns-in_err-k c = search (unsaid_held, rules)

pub returns-then-is_formed : goal.returns-then-is_formed
returns-then-is_formed c = search (formed_held, found_within, rules)

pub returns-else-is_formed : goal.returns-else-is_formed
returns-else-is_formed c = search (unformed_held, rules)
