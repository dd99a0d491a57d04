-- The text is the bytes that the code compares with.
use borrow.Author.Rules.{rules}
use Rattle.octets.specs.Classes.{text}
use Rattle.judgement.proofs.requests.is_ack.Goals as goal

pub returns : goal.returns
unfolding text
returns c = search rules
