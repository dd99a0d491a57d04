-- There is room for whatever is printed.
use Rattle.cause_text.proofs.Puts.{text_put, put_by_space, put_by_part}
use Rattle.cause_text.proofs.put_lines.Goals as goal

pub returns : goal.returns
returns c = search (text_put, put_by_space, put_by_part)
