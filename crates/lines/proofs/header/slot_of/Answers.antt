-- Each answer is a law of the slot of a field that is listed or not.
use borrow.Author.Rules.{rules}
use native.Mathlib.Omega.{arith}
use Rattle.lines.proofs.Keeps.{unlisted_slot, listed_slot_lem}
use Rattle.lines.proofs.header.slot_of.Goals as goal

pub returns-then-n-lt1 : goal.returns-then-n-lt1
returns-then-n-lt1 c = (search (unlisted_slot, rules), tt)

pub returns : goal.returns
returns c = (search (listed_slot_lem, rules), (omega arith, record { small_number = omega arith; small_start = omega arith; small_len = omega arith }))
