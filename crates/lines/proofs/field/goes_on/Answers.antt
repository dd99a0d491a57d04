-- Two bytes that make the number of CR and LF are CR and LF, and the byte behind them decides.
use Prim.Native.Nat.{◌+◌}
use native.Mathlib.Omega.{arith}
use Rattle.lines.proofs.Values.{no_room, no_fold, space_there, tab_there}
use Rattle.lines.proofs.field.goes_on.Goals as goal

pub returns-then-s-at-lt3 : goal.returns-then-s-at-lt3
returns-then-s-at-lt3 c = search no_room

pub returns-then-from_le_bytes : goal.returns-then-from_le_bytes
returns-then-from_le_bytes c = no_fold c.args.s.now c.args.at (omega arith) {x = c.from_le_bytes.result} {y = c.from_le_bytes-2.result} (omega (arith, c.from_le_bytes.ensures)) (omega (arith, c.type_inv.s c.args.at)) (omega (arith, c.type_inv.s (c.args.at + 1))) (omega (arith, c.from_le_bytes-2.ensures)) c.if-from_le_bytes.true

pub returns-then-next-eq32 : goal.returns-then-next-eq32
returns-then-next-eq32 c = space_there c.args.s.now c.args.at (omega arith) {x = c.from_le_bytes.result} {y = c.from_le_bytes-2.result} (omega (arith, c.from_le_bytes.ensures)) (omega (arith, c.type_inv.s c.args.at)) (omega (arith, c.type_inv.s (c.args.at + 1))) (omega (arith, c.from_le_bytes-2.ensures)) c.if-from_le_bytes.false c.if-next-eq32.true

pub returns : goal.returns
returns c = tab_there c.args.s.now c.args.at (omega arith) {x = c.from_le_bytes.result} {y = c.from_le_bytes-2.result} (omega (arith, c.from_le_bytes.ensures)) (omega (arith, c.type_inv.s c.args.at)) (omega (arith, c.type_inv.s (c.args.at + 1))) (omega (arith, c.from_le_bytes-2.ensures)) c.if-from_le_bytes.false c.if-next-eq32.false
