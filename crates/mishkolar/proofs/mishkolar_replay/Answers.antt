-- The numbers of a replay are those of what it carries at the end.
use mathlib.Core.Path.{◌≡◌, ap}
use Rattle.records.specs.declared.Replay.{Replay}
use Rattle.records.specs.Running.{State, numbers_in}
use Rattle.mishkolar.specs.Numbers.{Counted}
use Rattle.mishkolar.proofs.mishkolar_replay.Goals as goal

counted : {r : Replay} (st : State) → r ≡ numbers_in st → Counted r.counts r.read r.end st
counted st e =
    record {
      same_counts = ap (λ (x : Replay). x.counts) e;
      same_read = ap (λ (x : Replay). x.read) e;
      same_end = ap (λ (x : Replay). x.end) e;
    }

pub returns : goal.returns
returns c = search counted
