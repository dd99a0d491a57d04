-- The two parts are written one after the other.
use mathlib.Core.Path.{◌≡◌, ap}
use mathlib.Core.List.{List, ◌++◌}
use Prim.Native.Nat.{ℕ, ◌+◌, ◌≤◌}
use native.Mathlib.Omega.{arith}
use lib.ListN.{length, take, drop}
use borrow.Author.Rules.{rules}
use Rattle.sip.specs.Lines.{crlf}
use Rattle.emit.specs.Put.{Wrote}
use Rattle.emit.proofs.Laws.{then, wrote_room, wrote_length, wrote_as}
use Rattle.gateway.proofs.message.Outgoing.put_body.Goals as goal

module _ (m : List ℕ) (from size at : ℕ) {d : List ℕ} (h : at + (2 + length (take size (drop from m))) ≤ length d)
    {b : List ℕ} (e : b ≡ take size (drop from m)) {d₁ : List ℕ} {n : ℕ} (p : Wrote d at crlf n d₁) where
  body_fits : n + length b ≤ length d₁
  body_fits = omega (arith, ap length e, wrote_length p, (wrote_room p (omega arith)).0)

  ended : {d₂ : List ℕ} {r : ℕ} → Wrote d₁ n b r d₂ → Wrote d at (crlf ++ take size (drop from m)) r d₂
  ended q = then p (wrote_as q (take size (drop from m)) e) h

pub value-requires : goal.value-requires
value-requires c = search (body_fits, rules)

pub returns : goal.returns
returns c =
    let a = c.args.self.now.of.now in
    let h : c.args.at + (2 + length (take a.judged.body (drop a.judged.rest a.message.now))) ≤ length c.args.out.now = omega (arith, c.requires) in
    ended a.message.now a.judged.rest a.judged.body c.args.at h c.part.ensures.0 c.put-next.ensures c.value.ensures
