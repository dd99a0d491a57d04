-- By whether the table is asked.
use borrow.Author.Rules.{rules}
use Rattle.gateway.proofs.CallStates.{on_side_0, of_response, of_request}
use Rattle.gateway.proofs.message.Accepted.state_for.Goals as goal

pub returns-in-Untrusted : goal.returns-in-Untrusted
returns-in-Untrusted c = search (of_request, rules)

pub returns-in_default : goal.returns-in_default
returns-in_default c = search (of_response, rules)

pub returns-in_default-2 : goal.returns-in_default-2
returns-in_default-2 c = search (on_side_0, rules)
