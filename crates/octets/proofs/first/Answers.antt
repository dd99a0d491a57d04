-- A place past the end is the end.
use Rattle.std.proofs.Common.{◌≡◌, min, length, length-take, arith}
use Rattle.octets.proofs.Places.{take_min}
use Rattle.octets.proofs.first.Goals as goal

pub returns : goal.returns
returns c =
    let m : c.min.result ≡ min c.args.n (length c.args.s.now) = omega arith in
    let e = take_min c.args.s.now c.args.n m in
    (e, rw e (length-take c.args.n c.args.s.now))
