-- The place of the first byte outside the run is its length.
use Rattle.std.proofs.Common.{ℕ, not, ◌≡◌, Bool, true, false, refl, ◌∙◌, rules, tests}
use Rattle.std.proofs.lemmas.Iterator.{YieldsList-from_slice}
use Rattle.std.proofs.lemmas.Iterator.Search.{position_from_yields_List}
use Rattle.octets.specs.Classes.{is_blank}
use Rattle.octets.specs.Scans.{run}
use Rattle.octets.proofs.Runs.{run_le}
use Rattle.values.proofs.Runs.{position_run}
use Rattle.values.proofs.scan.blanks.Goals as goal

twice : (b : Bool) → b ≡ not (not b)
twice true = refl
twice false = refl

pub returns : goal.returns
returns c =
    let s = c.args.s.now in
    let found = position_from_yields_List (λ (b : ℕ). not (is_blank b)) _ _ c.position.result c.position.ensures.ran (YieldsList-from_slice s cc) (λ x b q k. search (rules, tests)) in
    let e : c.unwrap_or.result ≡ run is_blank s = c.unwrap_or.ensures ∙ position_run is_blank (λ (b : ℕ). not (is_blank b)) (λ x. twice (is_blank x)) s found in
    (e, rw e (run_le is_blank s))
