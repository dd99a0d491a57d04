-- What the program leaves: no contract can say which bytes the system reads.
use Rattle.std.specs.Prelude.{List, ℕ, ◌≤◌, length}
use Rattle.emit.specs.Put.{Wrote}
use Rattle.cause_text.specs.Text.{printed}

-- what is printed for some input was put at the front of d, which is d' now, and r is its length. Of an input the first 32 bytes decide (`FirstBytes`)
pub record Answers (d : List ℕ) (r : ℕ) (d' : List ℕ) : Type 0 where
  pub input : List ℕ
  pub few : length input ≤ 32
  pub wrote : Wrote d 0 (printed input) r d'
