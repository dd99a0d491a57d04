-- What a read gave stands behind what was read before.
use Rattle.std.proofs.Common.{rules}
use Rattle.streams.proofs.Known.{more_read}
use Rattle.streams.proofs.read_full.Goals as goal

pub loop-done-preserved : goal.loop-done-preserved
loop-done-preserved g c = (
  search rules,
  search rules,
  more_read _ (g.R.Read.remaining c.loop-done.input) _ c.loop-done.done _ _ c.loop-done.buf c.read.new.buf c.read.result
      c.loop-done.invariant.0 c.read.ensures.bound c.unwrap_or-n.ensures c.if-n-eq0.false c.loop-done.invariant.2 c.read.ensures.bytes,
)
