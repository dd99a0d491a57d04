-- The place is one of the two that are found, and every reading lies within the message.
use Rattle.lines.proofs.Messages.{place_is, place_within}
use Rattle.lines.proofs.reading_at.Goals as goal

pub returns : goal.returns
returns c = search (place_is, place_within)
