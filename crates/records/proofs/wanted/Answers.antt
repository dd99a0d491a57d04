-- By the tests.
use mathlib.Core.Path.{◌≡◌, sym, ◌∙◌}
use mathlib.Core.Bool.{Bool, true, false, not}
use mathlib.Core.List.{List}
use Prim.Native.Nat.{ℕ, ◌≤◌, ◌<◌}
use lib.ListN.{length}
use borrow.Author.Tests.{not-true, not-false, le-leb, lt-leb}
use Rattle.records.specs.Records.{marked, message_size}
use Rattle.records.specs.Pieces.{wanted}
use borrow.Author.Rules.{rules}
use Rattle.records.proofs.wanted.Goals as goal

short : (s : List ℕ) → length s < 5 → 0 ≡ wanted s
unfolding wanted
short s l = sym (rw (lt-leb 5 (length s) l))

module _ (s : List ℕ) (l : 5 ≤ length s) {t : Bool} (e : t ≡ marked s) where
  bad_mark : not t ≡ true → 0 ≡ wanted s
  unfolding wanted
  bad_mark q = sym (rw (le-leb 5 (length s) l, ← e, not-true t q))

  asked : not t ≡ false → {n : ℕ} → n ≡ message_size s → n ≡ wanted s
  unfolding wanted
  asked q z = z ∙ sym (rw (le-leb 5 (length s) l, ← e, not-false t q))

pub returns-then-s-lt5 : goal.returns-then-s-lt5
returns-then-s-lt5 c = search (short, rules)

pub returns-then-not-is_marked : goal.returns-then-not-is_marked
returns-then-not-is_marked c = search (bad_mark, rules)

pub returns : goal.returns
returns c = search (asked, rules)
