-- Reading comes first; the places that it found bound what judging asks for; what is answered judges the message (Messages).
use mathlib.Core.Path.{refl}
use Rattle.judgement.proofs.Messages.{judges, unread_judged, read_judged, short, few, line_fits, rest_within, within, some_reason, named}
use Rattle.judgement.proofs.judge.Goals as goal

pub invariant_of-judge_read : goal.invariant_of-judge_read
invariant_of-judge_read c =
    let e = c.in-Ok.ensures in
    record {
      short = short c.args.message.now e.0 refl;
      few = few c.args.message.now e.0 refl;
      named = named _ e.2;
      line_fits = line_fits c.args.message.now e.0 refl;
      rest_within = rest_within c.args.message.now e.0 refl;
      slots_within = within c.args.message.now e.1;
    }

pub returns-in-Ok-clause-answer : goal.returns-in-Ok-clause-answer
returns-in-Ok-clause-answer c = let e = c.in-Ok.ensures in read_judged c.args.message.now e.0 refl e.1 c.judge_read.ensures

pub returns-in-Ok-clause-judges : goal.returns-in-Ok-clause-judges
returns-in-Ok-clause-judges c =
    let e = c.in-Ok.ensures in judges c.args.message.now (read_judged c.args.message.now e.0 refl e.1 c.judge_read.ensures) e.1

pub returns-in-Err-clause-answer : goal.returns-in-Err-clause-answer
returns-in-Err-clause-answer c =
    let e = c.in-Err.ensures in unread_judged c.args.message.now e.0 (some_reason c.in-Err.why) (rw c.from.ensures at c.bare.ensures)

pub returns-in-Err-clause-judges : goal.returns-in-Err-clause-judges
returns-in-Err-clause-judges c =
    let e = c.in-Err.ensures in
    judges c.args.message.now (unread_judged c.args.message.now e.0 (some_reason c.in-Err.why) (rw c.from.ensures at c.bare.ensures)) e.1
