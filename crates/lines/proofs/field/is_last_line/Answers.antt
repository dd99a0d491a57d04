-- Two bytes that make the number of CR and LF are CR and LF, and the last test decides.
use Prim.Native.Nat.{◌+◌}
use native.Mathlib.Omega.{arith}
use Rattle.lines.proofs.Values.{last_test, bit_small}
use Rattle.lines.proofs.field.is_last_line.Goals as goal

pub returns : goal.returns
returns c = (last_test _ _ (omega arith) {x = c.from_le_bytes.result} {y = c.from_le_bytes-2.result} (omega (arith, c.from_le_bytes.ensures)) (omega (arith, c.type_inv.s c.args.line)) (omega (arith, c.type_inv.s (c.args.line + 1))) (omega (arith, c.from_le_bytes-2.ensures)) c.if-from_le_bytes.false, bit_small _ _ (omega arith))
