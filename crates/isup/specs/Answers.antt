-- What the box answers, in numbers and bytes, as C gets it.
use Rattle.std.specs.Prelude.{Bool, List, ℕ}
use Rattle.judgement.specs.declared.Refusal.{Refusal}

-- the parameter: why there is none (reason 0: there is one), its length, and its octets, 0 past them
pub record Parameter : Type 0 where
  pub refusal : Refusal
  pub len : ℕ
  pub bytes : List ℕ

-- what a parameter gives: why it gives nothing (refusal 0: it does), whether a Privacy `id` goes with the number, and the number with its `+`, 0
-- past it
pub record Caller : Type 0 where
  pub refusal : ℕ
  pub id : Bool
  pub len : ℕ
  pub number : List ℕ

-- what a cause from the trunk becomes: the status of a reply, or status 0 and refusal 21
pub record Status : Type 0 where
  pub status : ℕ
  pub refusal : ℕ
