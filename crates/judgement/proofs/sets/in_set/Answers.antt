-- The code's mask of n is 2 ^ n, since n is below 32; past that no bit is in a u32.
use mathlib.Core.Path.{◌≡◌, sym}
use mathlib.Core.Bool.{not, false}
use Prim.Native.Nat.{ℕ, ◌*◌, ◌%◌, ◌^◌, ◌≤◌, ◌<◌}
use lib.Bits.{bit_and}
use lib.Dec.{eqb}
use Rattle.judgement.specs.Sets.{has}
use Rattle.judgement.proofs.Masks.{bit_is, has_past}
use Rattle.judgement.proofs.sets.in_set.Goals as goal

past : (s n : ℕ) → s < 2 ^ 32 → 32 ≤ n → false ≡ has s n
past s n h l = sym (has_past 32 s n h l)

held : (s n : ℕ) → n < 32 → not (eqb (bit_and s (1 * 2 ^ n % 2 ^ 32)) 0) ≡ has s n
unfolding has
held s n h = rw (bit_is n h)

pub returns-then-n-ge32 : goal.returns-then-n-ge32
returns-then-n-ge32 c = search past

pub returns : goal.returns
returns c = search held
