-- Start line, lines and body are written one after the other, and the room for all is room for each.
use mathlib.Core.List.{List, ◌++◌, append_assoc}
use Prim.Native.Nat.{ℕ, ◌+◌, ◌≤◌}
use native.Mathlib.Omega.{arith}
use lib.ListN.{length, length-append}
use Rattle.emit.specs.Put.{Wrote}
use Rattle.emit.proofs.Laws.{then, wrote_room, wrote_length, wrote_as}
use Rattle.gateway.specs.Accepted.{start_by, lines_by, body_by}
use Rattle.gateway.proofs.Passing.{parts}
use Rattle.gateway.proofs.message.Outgoing.write.Goals as goal

module _ (s l b d : List ℕ) (h : length (s ++ (l ++ b)) ≤ length d) where
  room : length s + (length l + length b) ≤ length d
  room = simp length-append at h

  start_fits : length s ≤ length d
  start_fits = omega (arith, room)

  module _ {d₁ : List ℕ} {n₁ : ℕ} (p₁ : Wrote d 0 s n₁ d₁) where
    lines_fit : n₁ + length l ≤ length d₁
    lines_fit = omega (arith, room, (wrote_room p₁ (omega (arith, room))).0, wrote_length p₁)

    module _ {d₂ : List ℕ} {n₂ : ℕ} (p₂ : Wrote d₁ n₁ l n₂ d₂) where
      front : Wrote d 0 (s ++ l) n₂ d₂
      front = then p₁ p₂ (omega (arith, room))

      front_fits : 0 + length (s ++ l) ≤ length d
      front_fits = rw length-append (omega (arith, room))

      body_fits : n₂ + length b ≤ length d₂
      body_fits = omega (arith, room, length-append s l, (wrote_room front front_fits).0, wrote_length front)

      all : {d₃ : List ℕ} {r : ℕ} → Wrote d₂ n₂ b r d₃ → Wrote d 0 (s ++ (l ++ b)) r d₃
      all p₃ = wrote_as (then front p₃ (rw length-append (omega (arith, room)))) (s ++ (l ++ b)) (append_assoc s l b)

pub put_start-fields-requires : goal.put_start-fields-requires
put_start-fields-requires c =
    let o = c.args.self.now in
    start_fits (start_by o) (lines_by o) (body_by o) c.args.out.now (rw (parts o) at c.requires)

pub put_lines-end-requires : goal.put_lines-end-requires
put_lines-end-requires c =
    let o = c.args.self.now in
    lines_fit (start_by o) (lines_by o) (body_by o) c.args.out.now (rw (parts o) at c.requires) c.put_start-fields.ensures

pub put_body-requires : goal.put_body-requires
put_body-requires c =
    let o = c.args.self.now in
    body_fits (start_by o) (lines_by o) (body_by o) c.args.out.now (rw (parts o) at c.requires) c.put_start-fields.ensures c.put_lines-end.ensures

pub returns : goal.returns
returns c =
    let o = c.args.self.now in
    let x =
    all (start_by o) (lines_by o) (body_by o) c.args.out.now (rw (parts o) at c.requires) c.put_start-fields.ensures c.put_lines-end.ensures
    c.put_body.ensures in
    rw (parts o) x
