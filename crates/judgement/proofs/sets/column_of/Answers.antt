-- Each answer is the first method that matches, as `column_of` asks them in turn.
use borrow.Author.Rules.{rules}
use Rattle.octets.specs.Classes.{text}
use Rattle.sip.specs.Profile.{column_of}
use Rattle.judgement.specs.Sets.{column_at}
use Rattle.judgement.proofs.sets.column_of.Goals as goal

pub returns-then-is_method : goal.returns-then-is_method
unfolding column_at column_of text
returns-then-is_method c = search rules

pub returns-then-is_method-2 : goal.returns-then-is_method-2
unfolding column_at column_of text
returns-then-is_method-2 c = search rules

pub returns-then-is_method-3 : goal.returns-then-is_method-3
unfolding column_at column_of text
returns-then-is_method-3 c = search rules

pub returns-then-is_method-4 : goal.returns-then-is_method-4
unfolding column_at column_of text
returns-then-is_method-4 c = search rules

pub returns-then-is_method-5 : goal.returns-then-is_method-5
unfolding column_at column_of text
returns-then-is_method-5 c = search rules

pub returns : goal.returns
unfolding column_at column_of text
returns c = search rules
