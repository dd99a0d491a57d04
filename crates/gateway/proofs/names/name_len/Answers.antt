-- The table's entries are the names' lengths, by `Names`.
use mathlib.Core.Path.{◌≡◌, ◌∙◌}
use Prim.Native.Nat.{ℕ, ◌≤◌, ◌<◌}
use lib.ListN.{length, get_or}
use borrow.Author.Rules.{rules}
use Rattle.sip.specs.Profile.{name_of}
use Rattle.gateway.proofs.LongNames.{name_none, lengths, length_is, length_le}
use Rattle.gateway.proofs.names.name_len.Goals as goal

unlisted : (n : ℕ) → 18 < n → 0 ≡ length (name_of n)
unlisted n h = rw (name_none n h)

module _ (n : ℕ) (h : n ≤ 18) {r : ℕ} (e : r ≡ get_or lengths n 0) where
  listed : r ≡ length (name_of n)
  listed = e ∙ length_is n h

  short : r ≤ 19
  short = rw e (length_le n h)

pub returns-then-n-gt18 : goal.returns-then-n-gt18
returns-then-n-gt18 c = search (unlisted, rules)

pub returns : goal.returns
returns c = search (listed, short)
