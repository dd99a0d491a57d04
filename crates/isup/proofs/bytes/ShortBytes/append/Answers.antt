-- What is put stands behind the octets, and zeros past it (Filled).
use Rattle.std.proofs.Common.{length, rules, ◌≡◌}
use Rattle.isup.proofs.Filled.{appended_fits, appended, appended_zeros}
use Rattle.isup.proofs.bytes.ShortBytes.append.Goals as goal

pub returns : goal.returns
returns g c =
    let b = c.args.self.now in
    let long : length b.bytes ≡ g.row.N = search rules in
    appended b.bytes b.fits b.zeros long c.put-self.ensures c.requires

pub invariant_of-self : goal.invariant_of-self
invariant_of-self g c =
    let b = c.args.self.now in
    let long : length b.bytes ≡ g.row.N = search rules in
    record {
      fits = appended_fits b.bytes b.fits b.zeros long c.put-self.ensures;
      zeros = appended_zeros b.bytes b.fits b.zeros long c.put-self.ensures;
    }
