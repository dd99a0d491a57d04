-- A place past the end is the end, and a slice to the end is all that is left.
use mathlib.Core.Path.{◌≡◌, ◌∙◌}
use Rattle.std.proofs.Common.{min, length, drop, length-drop, arith}
use Rattle.octets.proofs.Places.{drop_slice, drop_min}
use Rattle.octets.proofs.rest.Goals as goal

pub returns : goal.returns
returns c =
    let m = c.min.result in
    let l : m ≡ min c.args.n (length c.args.s.now) = omega arith in
    let e : drop m c.args.s.now ≡ drop c.args.n c.args.s.now = drop_min c.args.s.now c.args.n l in
    let f = drop_slice c.args.s.now m ∙ e in
    (f, rw f (length-drop c.args.n c.args.s.now))
