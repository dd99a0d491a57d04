-- Each answer is a law of the request line.
use borrow.Author.Rules.{rules}
use Rattle.lines.proofs.Starts.{method_short, method_long, method_last, no_space, no_uri, a_request}
use Rattle.lines.proofs.start.request.Goals as goal

pub returns-then-method-lt1 : goal.returns-then-method-lt1
returns-then-method-lt1 c = search method_short

pub returns-then-method-gt32 : goal.returns-then-method-gt32
returns-then-method-gt32 c = search method_long

pub returns-then-s-method : goal.returns-then-s-method
returns-then-s-method c = search method_last

pub returns-then-s-method-ne32 : goal.returns-then-s-method-ne32
returns-then-s-method-ne32 c = search no_space

pub returns-in_err-uri : goal.returns-in_err-uri
returns-in_err-uri c = search (no_uri, rules)

pub returns : goal.returns
returns c = search (a_request, rules)
