-- The invariant: the answer for the list is that for the tokens read and for what is left.
use Rattle.std.proofs.Common.{◌≡◌, Bool, List, ℕ, ◌+◌, ◌≤◌, length, IfSome, unwrap_or}
use Rattle.sip.specs.Values.{tokens}
use Rattle.values.specs.Answers.{Tests, list_at}
use Rattle.values.proofs.Lists.{answer}
use Rattle.values.proofs.list.list.Given as goal

abbrev pub invariant-tokens : goal.invariant-tokens
invariant-tokens g l =
    record {
      counts : l.count + length l.left ≤ length l.fn.v;
      from_one : IfSome l.first (λ n. 1 ≤ n);
      reads : (p : List ℕ → Bool) → Tests g.F.Fn l.wanted p → list_at l.sep p l.fn.v ≡ answer p l.count (unwrap_or l.first 0) (tokens l.sep 0 l.left);
    }

abbrev pub decreases-tokens : goal.decreases-tokens
decreases-tokens g l = length l.left
