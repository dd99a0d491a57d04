-- The slots of a message give the values of its fields.
use borrow.Author.Rules.{rules}
use Rattle.lines.proofs.Messages.{none_found, all_found, unread_found, count_small}
use Rattle.lines.proofs.found_in.Goals as goal

pub returns-then-n-lt1 : goal.returns-then-n-lt1
returns-then-n-lt1 c = search (none_found, rules)

pub find-requires : goal.find-requires
find-requires c = search (count_small, rules)

pub returns-in-Ok : goal.returns-in-Ok
returns-in-Ok c = search (all_found, rules)

pub returns-in-Err : goal.returns-in-Err
returns-in-Err c = search (unread_found, rules)
