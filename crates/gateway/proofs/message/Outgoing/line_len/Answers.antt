-- The line is its four parts together.
use mathlib.Core.Path.{◌≡◌}
use mathlib.Core.List.{List}
use Prim.Native.Nat.{ℕ, ◌+◌}
use native.Mathlib.Omega.{arith}
use lib.ListN.{length}
use borrow.Author.Rules.{rules}
use Rattle.sip.specs.Profile.{name_of}
use Rattle.sip.specs.Output.{line}
use Rattle.gateway.proofs.Lines.{line_length}
use Rattle.gateway.proofs.message.Outgoing.line_len.Goals as goal

whole : (n : ℕ) (v : List ℕ) {a b : ℕ} → a ≡ length (name_of n) → b ≡ length v → a + b + 4 ≡ length (line n v)
whole n v ea eb = omega (arith, line_length n v)

pub returns : goal.returns
returns c = search (whole, rules)
