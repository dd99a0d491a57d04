-- What is read is a whole record and nothing more, or all that is there (Texts).
use Rattle.records.proofs.Texts.{piece_read}
use borrow.Author.Rules.{rules}
use Rattle.replay.proofs.read_record.Goals as goal

pub returns : goal.returns
returns g c = search (piece_read, rules)
