-- What is sent is the outgoing message (Top).
use mathlib.Core.Path.{ap, ◌∙◌}
use Prim.Native.Nat.{◌≤◌, ◌<◌}
use native.Mathlib.Omega.{arith}
use lib.ListN.{length}
use Rattle.gateway.specs.Accepted.{sent_by}
use Rattle.gateway.proofs.Top.{fits, full, full_answer, full_buffer, full_table, sent_as, sent_answer, sent_buffer, sent_table}
use Rattle.gateway.proofs.message.Accepted.deliver.Goals as goal

pub returns-in-Some : goal.returns-in-Some
returns-in-Some c =
    let a = c.args.self.now in
    let o = c.outgoing-outgoing.result in
    let d = c.args.out.now in
    let s = sent_as o c.args.state c.outgoing-outgoing.ensures.0 (c.outgoing-outgoing.ensures.1 ∙ c.is_masked.ensures) in
    let f = full (length (sent_by o)) _ c.lack.ensures c.in-Some.is in
    let k : length d < length (sent_by o) = omega (arith, f.1) in
    let l = rw s at k in
    let e = c.too_long.ensures.2 ∙ f.0 ∙ ap length s in (
      full_answer a c.args.state c.args.table.now d l c.too_long.ensures.0 c.too_long.ensures.1 e c.too_long.ensures.3,
      full_buffer a c.args.state c.args.table.now d l c.too_long.ensures.0 c.too_long.ensures.1 e c.too_long.ensures.3,
      full_table a c.args.state c.args.table.now d l c.too_long.ensures.0 c.too_long.ensures.1 e c.too_long.ensures.3,
    )

pub write-requires : goal.write-requires
write-requires c = let k = fits (length (sent_by c.outgoing-outgoing.result)) _ c.lack.ensures c.in_default.is in omega (arith, k)

pub returns : goal.returns
returns c =
    let a = c.args.self.now in
    let o = c.outgoing-outgoing.result in
    let d = c.args.out.now in
    let s = sent_as o c.args.state c.outgoing-outgoing.ensures.0 (c.outgoing-outgoing.ensures.1 ∙ c.is_masked.ensures) in
    let f = fits (length (sent_by o)) _ c.lack.ensures c.in_default.is in
    let k : length (sent_by o) ≤ length d = omega (arith, f) in
    let l = rw s at k in
    let w = rw s at c.write.ensures in (
      sent_answer a c.args.state c.args.table.now d l w,
      sent_buffer a c.args.state c.args.table.now d l w,
      sent_table a c.args.state c.args.table.now d l c.change.ensures,
    )
