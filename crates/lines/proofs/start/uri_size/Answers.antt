-- Each answer is a law of `uri_size`.
use Rattle.lines.proofs.Starts.{uri_short, uri_long, no_version, a_version}
use borrow.Author.Rules.{rules}
use Rattle.lines.proofs.start.uri_size.Goals as goal

pub returns-then-uri-lt1 : goal.returns-then-uri-lt1
returns-then-uri-lt1 c = search (uri_short, rules)

pub returns-then-uri-gt256 : goal.returns-then-uri-gt256
returns-then-uri-gt256 c = search (uri_long, rules)

pub returns-then-not-is_version : goal.returns-then-not-is_version
returns-then-not-is_version c = search (no_version, rules)

pub returns : goal.returns
returns c = search (a_version, rules)
