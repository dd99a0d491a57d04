-- The number of the part, where it is within the bounds.
use mathlib.Core.Path.{◌≡◌, ◌∙◌}
use mathlib.Core.Bool.{and-false}
use mathlib.Core.List.{List}
use Prim.Native.Nat.{ℕ, ◌≤◌, ◌<◌}
use native.Mathlib.Omega.{arith}
use Rattle.std.proofs.Common.{inl, inr}
use lib.Dec.{leb}
use lib.ListN.{take, drop}
use borrow.Author.Tests.{le-leb, lt-leb}
use Rattle.std.specs.Prelude.{Some, None}
use Rattle.octets.specs.Scans.{number}
use Rattle.octets.specs.declared.NumberAt.{NumberAt}
use Rattle.judgement.specs.Judged.{known_status, status_at}
use Rattle.judgement.proofs.responses.status_of.Goals as goal

status_is : (m : List ℕ) {v : List ℕ} → v ≡ take 3 (drop 8 m) → {d : NumberAt} → d ≡ number 3 999 v → status_at m ≡ d.value
unfolding status_at
status_is m ev e = rw (e, ev)

module _ (m : List ℕ) {n : ℕ} (e : status_at m ≡ n) where
  inside : 100 ≤ n → n ≤ 699 → Some n ≡ known_status (status_at m)
  inside l h = rw (e, le-leb 100 n l, le-leb n 699 h)

  below : n < 100 → None ≡ known_status (status_at m)
  below l = rw (e, lt-leb 100 n l)

  above : 699 < n → None ≡ known_status (status_at m)
  above h = rw (e, lt-leb n 699 h, and-false (leb 100 n))

pub returns-in_err-digits : goal.returns-in_err-digits
returns-in_err-digits c =
    let d = c.in_err-digits.ensures in
    c.from_residual.ensures ∙ below c.args.message.now (status_is c.args.message.now c.part.ensures.0 d.0) (omega arith)

pub returns-then-status-le699 : goal.returns-then-status-le699
returns-then-status-le699 c =
    let d = c.in_ok-digits.ensures in
    inside c.args.message.now (status_is c.args.message.now c.part.ensures.0 d.0) c.if-status-ge100.true c.if-status-le699.true

pub returns-else-status-ge100 : goal.returns-else-status-ge100
returns-else-status-ge100 c =
    let d = c.in_ok-digits.ensures in
    let e = status_is c.args.message.now c.part.ensures.0 d.0 in
    elim c.else-status-ge100.either [ inl w ↦ above c.args.message.now e w.1 | inr w ↦ below c.args.message.now e w ]
