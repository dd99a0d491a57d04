-- The place of the first byte outside the run is its length.
use Rattle.std.proofs.Common.{ℕ, not, eqb, ◌≡◌, refl, ◌∙◌, rules, tests}
use Rattle.std.proofs.lemmas.Iterator.{YieldsList-from_slice}
use Rattle.std.proofs.lemmas.Iterator.Search.{position_from_yields_List}
use Rattle.octets.specs.Scans.{run}
use Rattle.octets.proofs.Runs.{run_le}
use Rattle.values.proofs.Runs.{position_run}
use Rattle.values.proofs.scan.until.Goals as goal

pub returns : goal.returns
returns c =
    let s = c.args.s.now in
    let found = position_from_yields_List (λ (x : ℕ). eqb x c.args.b) _ _ c.position.result c.position.ensures.ran (YieldsList-from_slice s cc) (λ x b q k. search (rules, tests)) in
    let e : c.unwrap_or.result ≡ run (λ (x : ℕ). not (eqb x c.args.b)) s = c.unwrap_or.ensures ∙ position_run (λ (x : ℕ). not (eqb x c.args.b)) (λ (x : ℕ). eqb x c.args.b) (λ x. refl) s found in
    (e, rw e (run_le (λ (x : ℕ). not (eqb x c.args.b)) s))
