-- Zeros stand past the new octet, too (Filled).
use Rattle.std.proofs.Common.{length, arith, rules, ◌≡◌}
use Rattle.isup.proofs.Filled.{count_held, pushed_zeros}
use Rattle.isup.proofs.bytes.ShortBytes.push.Goals as goal

pub invariant_of-self : goal.invariant_of-self
invariant_of-self g c =
    let b = c.args.self.now in
    let long : length b.bytes ≡ g.row.N = search rules in
    record {
      fits = omega (arith, c.requires, count_held b.bytes b.fits b.zeros long);
      zeros = pushed_zeros b.bytes b.fits b.zeros c.args.b (omega arith);
    }
