-- A request line is the start line; where there is none, the status line is.
use borrow.Author.Rules.{rules}
use Rattle.lines.proofs.Starts.{is_request, request_fits, is_status, fits}
use Rattle.lines.proofs.start.read.Goals as goal

pub returns-in-Some : goal.returns-in-Some
returns-in-Some c = (search (is_request, rules), search (request_fits, rules))

pub returns : goal.returns
returns c = (search (is_status, rules), search (fits, is_status, rules))
