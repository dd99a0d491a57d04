-- One law for each answer: not kept, new, any other.
use borrow.Author.Rules.{rules}
use Rattle.judgement.proofs.Kept.{skipped, low, taken_first, taken_again, first_tags, again_tags}
use Rattle.judgement.proofs.tallies.take_up.Goals as goal

pub returns-then-not-in_set : goal.returns-then-not-in_set
returns-then-not-in_set c = search (skipped, rules)

pub take_first-requires-clause-low : goal.take_first-requires-clause-low
take_first-requires-clause-low c = search low

pub returns-then-not-in_set-2-clause-tally : goal.returns-then-not-in_set-2-clause-tally
returns-then-not-in_set-2-clause-tally c = search taken_first

pub returns-then-not-in_set-2-clause-tags : goal.returns-then-not-in_set-2-clause-tags
returns-then-not-in_set-2-clause-tags c = search first_tags

pub note-requires-clause-low : goal.note-requires-clause-low
note-requires-clause-low c = search low

pub returns-clause-tally : goal.returns-clause-tally
returns-clause-tally c = search taken_again

pub returns-clause-tags : goal.returns-clause-tags
returns-clause-tags c = search again_tags
