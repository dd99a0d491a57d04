-- The part of the value of the slot, as it came; where there is none it is empty.
use mathlib.Core.Path.{◌≡◌, refl}
use mathlib.Core.List.{List, []}
use Prim.Native.Nat.{ℕ}
use lib.ListN.{take, drop}
use Rattle.std.proofs.Math.Seq.{drop-nil, take-nil}
use Rattle.gateway.proofs.CallStates.{tag_is}
use Rattle.gateway.proofs.message.Accepted.from_tag.Goals as goal

nothing : (n k : ℕ) → ◌≡◌ {A = List ℕ} [] (take n (drop k []))
nothing n k = rw (drop-nil k, take-nil n)

pub returns-in-Some : goal.returns-in-Some
returns-in-Some c =
    let a = c.args.self.now in
    tag_is a.message.now a.slots.now a.judged.count c.in-Some.ensures.0 c.part-v.ensures.0 a.judged.tag c.tag_of.ensures

pub returns-in-None : goal.returns-in-None
returns-in-None c =
    let a = c.args.self.now in
    tag_is a.message.now a.slots.now a.judged.count c.in-None.ensures.0 {v = []} refl a.judged.tag (nothing a.judged.tag.len a.judged.tag.start)
